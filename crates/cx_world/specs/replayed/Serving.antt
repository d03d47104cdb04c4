-- What comes of the run of a schedule.
use Rattle.std.specs.Prelude.{◌≡◌, Bool, List, [], ◌∷◌, ◌++◌, Option, Some, None}
use Rattle.cx_base.specs.declared.kinds.Access.{Access}
use Rattle.cx_base.specs.Names.{Name}
use Rattle.cx_desk.specs.Handlers.{Handlers, has_handler}
use Rattle.cx_journal.specs.declared.entries.Entry.{Entry}
use Rattle.cx_journal.specs.declared.entries.Entry.TheVariants as entry
use Rattle.cx_journal.specs.declared.premises.Broken.{Broken}
use Rattle.cx_journal.specs.Enforced.{IsEnforced}
use Rattle.cx_journal.specs.InSession.{IsInSession}
use Rattle.cx_laws_run.specs.cx_laws_sessions.specs.session.Entering.{EntersOwn}
use Rattle.cx_laws_run.specs.cx_laws_tickets.specs.authorize.Expiring.{ExpireAtReadings}
use Rattle.cx_laws_run.specs.cx_laws_tickets.specs.chain.Granted.{AreOfKeyring}
use Rattle.cx_laws_run.specs.cx_laws_tickets.specs.fetch.Covered.{FetchesPaced, IsCovered, IsSteadyFor}
use Rattle.cx_laws_run.specs.cx_laws_tickets.specs.fetch.Fetches.{AreOfMoments}
use Rattle.cx_laws_run.specs.run.Fronts.{HoldUntilBreach}
use Rattle.cx_laws_run.specs.run.Laws.{KeepsExpiry, KeepsLaws, LooksLast}
use Rattle.cx_laws_run.specs.run.Logins.{LogIn, Stands}
use Rattle.cx_laws_run.specs.run.Origins.{GoBack}
use Rattle.cx_laws_run.specs.sent.Answering.{AnswerWhatWasSent}
use Rattle.cx_schedule.specs.cx_lines.specs.declared.lines.Numbered.{Numbered}
use Rattle.cx_laws_run.specs.cx_run.specs.Points.{EachPoint, points}
use Rattle.cx_laws_run.specs.cx_run.specs.Runs.{IsFoundOf, run_journal, setup_of, trace}
pub use Rattle.cx_world.specs.Idle.{idle_lines}

-- whether operations of this kind have a handler
abbrev pub serves : Handlers → Access → Bool
serves handlers kind = has_handler kind handlers

-- the journal is that of the run of the schedule over these handlers, and this is found of its premises: that it is sound and fresh, or its first breach.
-- Either way each ticket was asked for, has the keyring's caps, was made at the reading of its event and lives for one life; each look is at what the daemon fetched last,
-- and a ticket is refused as expired at the reading of the event alone; each operation is handled in an admitted session and ends as the caps of that session and the
-- handlers say; what is said of a node in entries of sessions, operations and answers, that node entered; and of each front of the events whose own log is sound and fresh all
-- that follows holds. Where it is sound and fresh, the other laws over every run hold: all laws of a journal (sessions are backed by
-- tickets, no key that is there is denied, a global id is given once, what is handled under a cookie for an entity that isn't leaked is a front of what it sent
-- under it, and what it is told of an operation is how that ended); that this operation is the one that it sent under that number; that an issued ticket is said to have expired only where it has; that each ticket of an entity
-- that isn't leaked was asked for by its own node, and no challenge lets in twice; that each session goes back to its ticket's issue; that, where the clocks of the monitor and of a daemon never fall,
-- the looks of this daemon cover the live tickets of its type; and that what daemons fetch is paced, was saved by the monitor at a moment, before which
-- the daemon had an event at the reading that is entered as that of its asking
pub record IsReplayOf (handlers : Handlers) (script : List Numbered) (journal : List Entry) (found : Option Broken) : Type 0 where
  pub run : journal ≡ run_journal handlers script
  pub found_so : IsFoundOf handlers script found
  pub stands : Stands (setup_of handlers script) (trace handlers script)
  pub granted : AreOfKeyring (setup_of handlers script) (points (setup_of handlers script) (trace handlers script))
  pub looks : LooksLast journal
  pub expired : ExpireAtReadings (points (setup_of handlers script) (trace handlers script))
  pub entered : EachPoint EntersOwn (points (setup_of handlers script) (trace handlers script))
  pub in_session : IsInSession journal
  pub enforced : IsEnforced (serves handlers) journal
  pub until : HoldUntilBreach (setup_of handlers script) (trace handlers script)
  pub lawful : found ≡ None → KeepsLaws (serves handlers) journal
  pub answered : found ≡ None → AnswerWhatWasSent journal
  pub expiry : found ≡ None → KeepsExpiry journal
  pub logged_in : found ≡ None → LogIn (setup_of handlers script) (points (setup_of handlers script) (trace handlers script))
  pub goes_back : found ≡ None → GoBack (setup_of handlers script) (points (setup_of handlers script) (trace handlers script))
  pub covered : found ≡ None → (daemon : Name) → IsSteadyFor daemon (trace handlers script)
      → IsCovered (setup_of handlers script) daemon (points (setup_of handlers script) (trace handlers script))
  pub paced : found ≡ None → FetchesPaced (setup_of handlers script) (points (setup_of handlers script) (trace handlers script))
  pub fetched : found ≡ None → AreOfMoments (points (setup_of handlers script) (trace handlers script))

-- the journal with the first breach as its last entry, where there is one
abbrev pub told : List Entry → Option Broken → List Entry
told journal None = journal
told journal (Some broken) = journal ++ entry.Broken broken ∷ []
