-- Of every list of events that may happen, sound and fresh, and of the run of every schedule in which no breach is found: each value that is entered is within its bound.
use Rattle.std.proofs.Common.{◌<◌, ℕ, true, List, [], ◌∷◌, inl, inr, refl, sym, subst}
use Rattle.std.specs.Prelude.{Contains, None, map}
use Rattle.std.specs.List.{AllByRecursion}
use Rattle.cx_desk.specs.Handlers.{Handlers}
use Rattle.cx_journal.specs.declared.entries.Entry.{Entry}
use Rattle.cx_journal.specs.declared.entries.Entry.TheVariants as journal
use Rattle.cx_journal.specs.declared.entries.Fetched.{Fetched}
use Rattle.cx_journal.specs.declared.entries.Issued.{Issued}
use Rattle.cx_lines.specs.declared.lines.Numbered.{Numbered}
use Rattle.cx_schedule.specs.Files.{Lines}
use Rattle.cx_laws_run.proofs.run.Good.{each-happening}
use Rattle.cx_laws_run.proofs.run.Happening.{any-law}
use Rattle.cx_laws_run.proofs.run.Journals.{keeps-tickets}
use Rattle.cx_laws_run.proofs.run.Looks.{all-looks}
use Rattle.cx_laws_run.proofs.run.Schedules.{may-happen}
use Rattle.cx_laws_run.proofs.run.Sending.{sends-written}
use Rattle.cx_laws_run.proofs.run.Whole.{run_of}
use Rattle.cx_laws_run.specs.run.Laws.{KeepsTickets, MayHappen}
use Rattle.cx_laws_run.specs.cx_run.proofs.PointsTell.{entered-at, journal-told}
use Rattle.cx_laws_run.specs.cx_run.specs.Happenings.{Entered, Happening}
use Rattle.cx_laws_run.specs.cx_run.specs.Opening.{Leak, Setup, leaked_of, nodes_of}
use Rattle.cx_laws_run.specs.cx_run.specs.Points.{Before, EachPoint, Point, entered_until, entries_at, journal_since, log_since, points}
use Rattle.cx_laws_run.specs.cx_run.specs.Runs.{IsFoundOf, run_journal, setup_of, trace}
use Rattle.cx_laws_run.specs.cx_run.specs.Sending.{AreWritten, IsWrittenInput}
use Rattle.cx_laws_keys.proofs.keys.Lists.{all-append}
use Rattle.cx_steps.specs.Premises.{IsFresh, IsSound}
use Rattle.cx_laws_legal.proofs.entered.Bounds.{whole-bounded}
use Rattle.cx_laws_legal.proofs.entered.Fetches.{FetchesLow, ReadsLow, fetches-low}
use Rattle.cx_laws_legal.proofs.entered.PointShows.{point-shows}
use Rattle.cx_laws_legal.proofs.entered.Shown.{Shows}
use Rattle.cx_laws_legal.proofs.entered.Tickets.{IsLow, TicketsLow, tickets-low}
use Rattle.cx_laws_text.specs.printed.Tellable.{AreBounded}

-- ---- from points to the journal

-- what was so at one of the points, where something is so at each
before-then : (P Q : List Point → Point → Type 0) (A : Type 0) → ((older : List Point) (p : Point) → P older p → Q older p → A) → (past : List Point) → EachPoint P past → Before Q past → A
before-then P Q A f [] each was = absurd was
before-then P Q A f (p ∷ past) each (inl here) = f past p each.0 here
before-then P Q A f (p ∷ past) each (inr before) = before-then P Q A f past each.1 before

leaks-show : (leaks : List Leak)
    → AllByRecursion Shows (map (λ (x : Entered). x.entry) (map (λ (l : Leak). record { line = l.line; reading = 0; entry = journal.Leaked l.client }) leaks))
leaks-show [] = tt
leaks-show (l ∷ leaks) = (tt, leaks-show leaks)

journal-shows : (setup : Setup) (past : List Point) → EachPoint (λ older p. AllByRecursion Shows (entries_at p)) past → AllByRecursion Shows (entered_until setup past)
journal-shows setup [] each = leaks-show setup.leaks
journal-shows setup (p ∷ past) each = all-append Shows (entered_until setup past) (entries_at p) (journal-shows setup past each.1) each.0

-- ---- every list of events

module _ (setup : Setup) (hs : List Happening) (m : MayHappen setup hs) (written : AreWritten hs) (sound : IsSound (leaked_of setup) (log_since setup hs)) (fresh : IsFresh (log_since setup hs)) where
  reads : EachPoint ReadsLow (points setup hs)
  reads = each-happening (λ (h : Happening). h.reading < 4000000000000000000) hs [] (nodes_of setup) m.readings tt

  writes : EachPoint (λ older p. IsWrittenInput p.happening.input) (points setup hs)
  writes = each-happening (λ (h : Happening). IsWrittenInput h.input) hs [] (nodes_of setup) written tt

  tickets : (t : Issued) → Contains (journal_since setup hs) (journal.Issued t) → IsLow t
  tickets t has =
      before-then (TicketsLow setup m.begins) (λ older p. Contains (entries_at p) (journal.Issued t)) (IsLow t) (λ older p each here. each t here) (points setup hs)
      (tickets-low setup m.begins hs reads)
      (entered-at (journal.Issued t) tt setup (points setup hs) (subst (λ (es : List Entry). Contains es (journal.Issued t)) (journal-told setup hs) has))

  fetches : (f : Fetched) → Contains (journal_since setup hs) (journal.Fetched f) → f.asked < 4000000000000000000
  fetches f has =
      before-then FetchesLow (λ older p. Contains (entries_at p) (journal.Fetched f)) (f.asked < 4000000000000000000) (λ older p each here. each f here) (points setup hs)
      (fetches-low setup hs m sound fresh reads)
      (entered-at (journal.Fetched f) tt setup (points setup hs) (subst (λ (es : List Entry). Contains es (journal.Fetched f)) (journal-told setup hs) has))

  shows : AllByRecursion Shows (journal_since setup hs)
  shows =
      subst (λ (es : List Entry). AllByRecursion Shows es) (sym (journal-told setup hs)) (journal-shows setup (points setup hs) (point-shows (points setup hs) reads writes))

  pub any-bounded : AreBounded (journal_since setup hs)
  any-bounded =
      let kept : KeepsTickets (journal_since setup hs) = keeps-tickets (run_of setup hs true) refl (journal_since setup hs) (any-law setup hs m sound fresh) in
      whole-bounded (journal_since setup hs) tickets fetches shows kept.backed kept.keeps_expiry (all-looks setup hs m.looks)

pub schedule-bounded : (handlers : Handlers) (bytes : List ℕ) (script : List Numbered) → Lines bytes script → IsFoundOf handlers script None → AreBounded (run_journal handlers script)
schedule-bounded handlers bytes script said found =
    any-bounded (setup_of handlers script) (trace handlers script) (may-happen handlers bytes script said) (sends-written handlers bytes script said) found.0 found.1
