-- Of every list of events that may happen, with operations that have a spelling, and of the run of every schedule: what is handled is a front of what was sent.
use Rattle.std.proofs.Common.{◌≡◌, ℕ, true, List}
use Rattle.std.specs.Prelude.{None}
use Rattle.cx_desk.specs.Handlers.{Handlers}
use Rattle.cx_journal.specs.PrefixOfSent.{IsPrefixOfSent}
use Rattle.cx_laws_run.proofs.run.Happening.{visited}
use Rattle.cx_laws_run.proofs.run.Schedules.{may-happen}
use Rattle.cx_laws_run.proofs.run.Whole.{run_of}
use Rattle.cx_laws_run.specs.run.Laws.{MayHappen}
use Rattle.cx_laws_sessions.specs.cx_lines.specs.declared.lines.Numbered.{Numbered}
use Rattle.cx_laws_sessions.specs.cx_run.specs.Happenings.{Happening}
use Rattle.cx_laws_sessions.specs.cx_run.specs.Opening.{Setup, leaked_of}
use Rattle.cx_laws_sessions.specs.cx_run.specs.Points.{journal_since, log_since}
use Rattle.cx_laws_sessions.specs.cx_run.specs.Runs.{IsFoundOf, run_journal, run_log, setup_of, trace}
use Rattle.cx_laws_run.specs.cx_schedule.specs.Files.{Lines}
use Rattle.cx_steps.specs.Premises.{IsFresh, IsSound}
use Rattle.cx_laws_run.proofs.sent.ClientSteps.{client-step}
use Rattle.cx_laws_run.proofs.sent.DaemonReadies.{daemon-step}
use Rattle.cx_laws_run.proofs.sent.Ordered.{run-ordered}
use Rattle.cx_laws_run.proofs.sent.Sending.{trace-fits}
use Rattle.cx_laws_run.specs.sent.Fitting.{AreFit}

pub any-ordered : (setup : Setup) (hs : List Happening) → MayHappen setup hs → AreFit hs → IsSound (leaked_of setup) (log_since setup hs) → IsFresh (log_since setup hs)
    → IsPrefixOfSent (journal_since setup hs)
any-ordered setup hs m fits sound fresh =
    run-ordered setup hs true m.begins.clients (client-step (run_of setup hs true) (log_since setup hs)) (daemon-step (run_of setup hs true) (log_since setup hs)) (visited setup hs m) m.bytes fits sound fresh

pub schedule-ordered : (handlers : Handlers) (bytes : List ℕ) (script : List Numbered) → Lines bytes script → IsFoundOf handlers script None → IsPrefixOfSent (run_journal handlers script)
schedule-ordered handlers bytes script said found =
    any-ordered (setup_of handlers script) (trace handlers script) (may-happen handlers bytes script said) (trace-fits handlers bytes script said) found.0 found.1
