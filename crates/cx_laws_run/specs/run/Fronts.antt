-- What holds of each front of a run that keeps both premises by its own log.
use Rattle.std.specs.Prelude.{◌≡◌, List, ◌++◌}
use Rattle.cx_base.specs.Names.{Name}
use Rattle.cx_laws_links.specs.cx_laws_tickets.specs.cx_run.specs.Happenings.{Happening}
use Rattle.cx_laws_links.specs.cx_laws_tickets.specs.cx_run.specs.Opening.{Setup, leaked_of}
use Rattle.cx_laws_links.specs.cx_laws_tickets.specs.cx_run.specs.Points.{journal_since, log_since, points}
use Rattle.cx_laws_links.specs.cx_laws_tickets.specs.fetch.Covered.{FetchesPaced, IsCovered, IsSteadyFor}
use Rattle.cx_laws_links.specs.cx_laws_tickets.specs.fetch.Fetches.{AreOfMoments}
use Rattle.cx_laws_run.specs.run.Laws.{KeepsExpiry, KeepsLaws}
use Rattle.cx_laws_run.specs.run.Logins.{LogIn}
use Rattle.cx_laws_run.specs.run.Origins.{GoBack}
use Rattle.cx_laws_run.specs.sent.Answering.{AnswerWhatWasSent}
use Rattle.cx_laws_sessions.specs.session.Serving.{serves}
use Rattle.cx_steps.specs.Premises.{IsFresh, IsSound}

-- all that is said of a run that is sound and fresh, of these events and their journal
pub record HoldsOf (setup : Setup) (hs : List Happening) : Type 0 where
  pub lawful : KeepsLaws (serves setup.handlers) (journal_since setup hs)
  pub expiry : KeepsExpiry (journal_since setup hs)
  pub answered : AnswerWhatWasSent (journal_since setup hs)
  pub logged_in : LogIn setup (points setup hs)
  pub goes_back : GoBack setup (points setup hs)
  pub covered : (daemon : Name) → IsSteadyFor daemon hs → IsCovered setup daemon (points setup hs)
  pub paced : FetchesPaced setup (points setup hs)
  pub fetched : AreOfMoments (points setup hs)

-- it holds of each front of these events whose own log is sound and fresh, whatever comes behind it. (A front may break a premise that the whole log keeps: where a key is
-- found leaked only behind it.)
abbrev pub HoldUntilBreach : Setup → List Happening → Type 0
HoldUntilBreach setup hs =
    (front rest : List Happening) → hs ≡ front ++ rest → IsSound (leaked_of setup) (log_since setup front) → IsFresh (log_since setup front) → HoldsOf setup front
