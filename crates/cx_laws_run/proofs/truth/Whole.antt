-- Of every list of events that may happen, with operations that have a spelling, and of the run of every schedule: what clients are told is true, and all laws of a journal hold.
use Rattle.std.proofs.Common.{ℕ, true, List, refl}
use Rattle.std.specs.Prelude.{None}
use Rattle.cx_desk.specs.Handlers.{Handlers}
use Rattle.cx_journal.specs.Legal.{IsLegal}
use Rattle.cx_journal.specs.Truthful.{IsTruthful}
use Rattle.cx_laws_run.specs.cx_laws_sessions.proofs.queues.Cookies.{cookies-numbered}
use Rattle.cx_laws_run.specs.cx_laws_sessions.proofs.session.Runs.{all-enforced, all-in-session, schedules-in-session}
use Rattle.cx_laws_run.specs.cx_laws_sessions.specs.session.Serving.{serves}
use Rattle.cx_laws_run.proofs.run.Happening.{any-law}
use Rattle.cx_laws_run.proofs.run.Journals.{keeps-tickets}
use Rattle.cx_laws_run.proofs.run.Schedules.{may-happen}
use Rattle.cx_laws_run.proofs.run.Whole.{run_of}
use Rattle.cx_laws_run.specs.run.Laws.{KeepsLaws, KeepsTickets, MayHappen}
use Rattle.cx_laws_run.specs.cx_lines.specs.declared.lines.Numbered.{Numbered}
use Rattle.cx_laws_run.specs.cx_run.specs.Happenings.{Happening}
use Rattle.cx_laws_run.specs.cx_run.specs.Opening.{Setup, leaked_of}
use Rattle.cx_laws_run.specs.cx_run.specs.Points.{journal_since, log_since}
use Rattle.cx_laws_run.specs.cx_run.specs.Runs.{IsFoundOf, run_journal, setup_of, trace}
use Rattle.cx_laws_run.specs.cx_schedule.specs.Files.{Lines}
use Rattle.cx_steps.specs.Premises.{IsFresh, IsSound}
use Rattle.cx_laws_run.proofs.sent.Sending.{trace-fits}
use Rattle.cx_laws_run.proofs.sent.Whole.{any-ordered}
use Rattle.cx_laws_run.specs.sent.Fitting.{AreFit}
use Rattle.cx_laws_run.proofs.truth.Answering.{answers-sent}
use Rattle.cx_laws_run.proofs.truth.Truthful.{any-truthful}
use Rattle.cx_laws_run.specs.sent.Answering.{AnswerWhatWasSent}

pub schedule-truthful : (handlers : Handlers) (bytes : List ℕ) (script : List Numbered) → Lines bytes script → IsFoundOf handlers script None → IsTruthful (run_journal handlers script)
schedule-truthful handlers bytes script said found =
    any-truthful (setup_of handlers script) (trace handlers script) (may-happen handlers bytes script said) (trace-fits handlers bytes script said) found.0 found.1

-- each answer is of the operation that its client sent under its number
pub any-answered : (setup : Setup) (hs : List Happening) → MayHappen setup hs → AreFit hs → IsSound (leaked_of setup) (log_since setup hs) → IsFresh (log_since setup hs)
    → AnswerWhatWasSent (journal_since setup hs)
any-answered setup hs m fits sound fresh =
    answers-sent (journal_since setup hs) (any-ordered setup hs m fits sound fresh) (cookies-numbered setup hs fresh) (any-truthful setup hs m fits sound fresh)

pub schedule-answered : (handlers : Handlers) (bytes : List ℕ) (script : List Numbered) → Lines bytes script → IsFoundOf handlers script None → AnswerWhatWasSent (run_journal handlers script)
schedule-answered handlers bytes script said found =
    any-answered (setup_of handlers script) (trace handlers script) (may-happen handlers bytes script said) (trace-fits handlers bytes script said) found.0 found.1

-- the laws that a journal shows by itself
any-legal : (setup : Setup) (hs : List Happening) → MayHappen setup hs → AreFit hs → IsSound (leaked_of setup) (log_since setup hs) → IsFresh (log_since setup hs) → IsLegal (journal_since setup hs)
any-legal setup hs m fits sound fresh =
    let tickets : KeepsTickets (journal_since setup hs) = keeps-tickets (run_of setup hs true) refl (journal_since setup hs) (any-law setup hs m sound fresh) in
    record {
      backed = tickets.backed;
      in_session = all-in-session setup hs;
      keeps_keys = tickets.keeps_keys;
      prefix_of_sent = any-ordered setup hs m fits sound fresh;
      gid_once = tickets.gid_once;
    }

-- all of them
pub any-lawful : (setup : Setup) (hs : List Happening) → MayHappen setup hs → AreFit hs → IsSound (leaked_of setup) (log_since setup hs) → IsFresh (log_since setup hs)
    → KeepsLaws (serves setup.handlers) (journal_since setup hs)
any-lawful setup hs m fits sound fresh =
    record { legal = any-legal setup hs m fits sound fresh; enforced = all-enforced setup hs; truthful = any-truthful setup hs m fits sound fresh }

pub schedule-lawful : (handlers : Handlers) (bytes : List ℕ) (script : List Numbered) → Lines bytes script → IsFoundOf handlers script None → KeepsLaws (serves handlers) (run_journal handlers script)
schedule-lawful handlers bytes script said found =
    record {
      legal = any-legal (setup_of handlers script) (trace handlers script) (may-happen handlers bytes script said) (trace-fits handlers bytes script said) found.0 found.1;
      enforced = (schedules-in-session handlers script).1;
      truthful = schedule-truthful handlers bytes script said found;
    }
