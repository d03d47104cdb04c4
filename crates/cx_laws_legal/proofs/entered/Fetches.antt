-- Each daemon asked for what it fetched at a reading of an event.
use Rattle.std.proofs.Common.{◌<◌, ℕ, true, List, [], ◌∷◌, inl, inr, subst}
use Rattle.std.specs.Prelude.{Contains}
use Rattle.cx_base.specs.Names.{Name}
use Rattle.cx_journal.specs.declared.entries.Entry.TheVariants as journal
use Rattle.cx_journal.specs.declared.entries.Fetched.{Fetched}
use Rattle.cx_laws_run.proofs.cover.MonitorEvents.{monitor-step}
use Rattle.cx_laws_run.proofs.cover.RunBeginning.{any-replied}
use Rattle.cx_laws_run.specs.cx_laws_tickets.proofs.fetch.RepliedMoments.{AreReplied, WasReplied}
use Rattle.cx_laws_run.specs.cx_laws_tickets.specs.fetch.Fetches.{IsAsking}
use Rattle.cx_laws_run.proofs.run.Whole.{run_of}
use Rattle.cx_laws_run.specs.run.Laws.{MayHappen}
use Rattle.cx_laws_run.specs.cx_run.specs.Happenings.{Happening}
use Rattle.cx_laws_run.specs.cx_run.specs.Opening.{Setup, leaked_of}
use Rattle.cx_laws_run.specs.cx_run.specs.Points.{Before, EachPoint, Point, entries_at, log_since, points}
use Rattle.cx_steps.specs.Premises.{IsFresh, IsSound}

abbrev pub ReadsLow : List Point → Point → Type 0
ReadsLow older p = p.happening.reading < 4000000000000000000

asked-low : (daemon : Name) (asked : ℕ) (past : List Point) → EachPoint ReadsLow past → Before (λ _ at. IsAsking daemon asked at) past → asked < 4000000000000000000
asked-low daemon asked [] low was = absurd was
asked-low daemon asked (p ∷ past) low (inl here) = by_asking here
  where
    by_asking : IsAsking daemon asked p → asked < 4000000000000000000
    by_asking a = subst (λ (n : ℕ). n < 4000000000000000000) a.reading low.0
asked-low daemon asked (p ∷ past) low (inr before) = asked-low daemon asked past low.1 before

replied-low : (f : Fetched) (past : List Point) → EachPoint ReadsLow past → Before (WasReplied f) past → f.asked < 4000000000000000000
replied-low f [] low was = absurd was
replied-low f (p ∷ past) low (inl here) = by_reply here
  where
    by_reply : WasReplied f past p → f.asked < 4000000000000000000
    by_reply w = asked-low f.daemon f.asked past low.1 w.asked
replied-low f (p ∷ past) low (inr before) = replied-low f past low.1 before

abbrev pub FetchesLow : List Point → Point → Type 0
FetchesLow older p = (f : Fetched) → Contains (entries_at p) (journal.Fetched f) → f.asked < 4000000000000000000

each-fetched : (past : List Point) → EachPoint ReadsLow past → AreReplied past → EachPoint FetchesLow past
each-fetched [] low replied = tt
each-fetched (p ∷ past) low replied = (λ f has. replied-low f past low.1 (replied.0 f has), each-fetched past low.1 replied.1)

pub fetches-low : (setup : Setup) (hs : List Happening) → MayHappen setup hs → IsSound (leaked_of setup) (log_since setup hs) → IsFresh (log_since setup hs)
    → EachPoint ReadsLow (points setup hs) → EachPoint FetchesLow (points setup hs)
fetches-low setup hs m sound fresh low =
    each-fetched (points setup hs) low (any-replied setup hs (monitor-step (run_of setup hs true) (log_since setup hs)) m sound fresh)
