-- Coverage and pace of every list of events that may happen, where each fetch is what the monitor replied to the daemon behind its asking.
use Rattle.std.proofs.Common.{ℕ, ◌<◌, ◌≤◌, List, arith}
use Rattle.cx_base.specs.Names.{Name}
use Rattle.cx_laws_run.specs.cx_laws_tickets.proofs.chain.One.{all-kept}
use Rattle.cx_laws_run.proofs.cover.ReadAsTold.{begins-life}
use Rattle.cx_laws_run.specs.cx_laws_tickets.proofs.fetch.AllCovered.{all-covered, all-paced}
use Rattle.cx_laws_run.specs.cx_laws_tickets.proofs.fetch.RepliedMoments.{AreReplied, all-replied}
use Rattle.cx_laws_run.specs.cx_laws_tickets.specs.fetch.Covered.{FetchesPaced, IsCovered, IsSteadyFor}
use Rattle.cx_laws_run.specs.cx_laws_tickets.specs.fetch.Fetches.{AreOfMoments}
use Rattle.cx_laws_run.proofs.run.Looks.{all-looks}
use Rattle.cx_laws_run.specs.run.Laws.{MayHappen}
use Rattle.cx_rotate.specs.Keeping.{IsLife}
use Rattle.cx_laws_run.specs.cx_run.specs.Happenings.{Happening}
use Rattle.cx_laws_run.specs.cx_run.specs.Opening.{Setup, first_state}
use Rattle.cx_laws_run.specs.cx_run.specs.Points.{points}

module _ (setup : Setup) (hs : List Happening) (m : MayHappen setup hs) (replied : AreReplied (points setup hs)) where
  lives : IsLife (first_state setup).life
  lives = begins-life setup m.begins

  -- each is of a moment of the monitor
  pub of-moments : AreOfMoments (points setup hs)
  of-moments =
      let least : 1000000000 ≤ (first_state setup).life = lives.0 in
      let some : 0 < (first_state setup).life = omega arith in
      all-replied setup some hs replied

  -- so it is covered for a daemon for which it is steady
  pub covers : (daemon : Name) → IsSteadyFor daemon hs → IsCovered setup daemon (points setup hs)
  covers daemon steady = all-covered setup hs (all-kept setup hs) daemon lives m.readings (all-looks setup hs m.looks) of-moments steady

  -- and each fetch is paced
  pub paces : FetchesPaced setup (points setup hs)
  paces = all-paced setup hs (all-kept setup hs) of-moments
