-- Of which moment of the monitor what a daemon fetches is.
use Rattle.std.specs.Prelude.{ℕ, ◌≡◌, true, false, IsTrue, List, Contains}
use Rattle.cx_base.specs.Names.{Name, is_daemon_type}
use Rattle.cx_base.specs.declared.kinds.EntityType.{EntityType}
use Rattle.cx_base.specs.declared.nodes.NodeName.TheVariants as node
use Rattle.cx_journal.specs.declared.entries.Entry.TheVariants as entry
use Rattle.cx_journal.specs.declared.entries.Fetched.{Fetched}
use Rattle.cx_rotate.specs.Rotation.{is_current, is_full}
use Rattle.cx_rotate.specs.declared.generations.Generation.{Generation}
use Rattle.cx_laws_tickets.specs.cx_run.specs.Points.{Before, EachPoint, Point, entries_at}
use Rattle.cx_laws_tickets.specs.chain.Chain.{saved_past}

-- at this point of the monitor these were the generations of the service that it had saved, and the second of them was unexpired, save at the bounds
-- behind which none is added
pub record IsMoment (service : EntityType) (generations : List Generation) (p : Point) : Type 0 where
  pub monitor : p.happening.node ≡ node.Monitor
  pub saved : generations ≡ saved_past service p
  pub current : is_full generations ≡ false → IsTrue (is_current p.happening.reading generations)

-- this daemon had an event at this reading: that of its asking, of which no more is said here
pub record IsAsking (daemon : Name) (asked : ℕ) (p : Point) : Type 0 where
  pub daemon_is : p.happening.node ≡ node.Entity daemon
  pub reading : p.happening.reading ≡ asked

-- at one of these points the monitor had what the daemon fetched, and before that point the daemon had an event at the reading that is entered as that of its asking
pub record IsOfMoment (f : Fetched) (past : List Point) : Type 0 where
  pub kind : is_daemon_type f.daemon.kind ≡ true
  pub moment : Before (λ older p. IsMoment f.daemon.kind f.generations p × Before (λ _ at. IsAsking f.daemon f.asked at) older) past

-- so it is of each that is entered
abbrev pub AreOfMoments : List Point → Type 0
AreOfMoments past = EachPoint (λ older p. (f : Fetched) → Contains (entries_at p) (entry.Fetched f) → IsOfMoment f older) past
