-- Coverage and pace over every run: of every list of events that may happen, sound and fresh, and of the run of every schedule in which no breach is found.
use Rattle.std.proofs.Common.{ℕ, List, None, true}
use Rattle.cx_base.specs.Names.{Name}
use Rattle.cx_desk.specs.Handlers.{Handlers}
use Rattle.cx_laws_run.proofs.cover.Covers.{covers, of-moments, paces}
use Rattle.cx_laws_run.proofs.cover.MonitorEvents.{monitor-step}
use Rattle.cx_laws_run.proofs.cover.RunBeginning.{any-replied}
use Rattle.cx_laws_run.specs.cx_laws_tickets.specs.fetch.Covered.{FetchesPaced, IsCovered, IsSteadyFor}
use Rattle.cx_laws_run.specs.cx_laws_tickets.specs.fetch.Fetches.{AreOfMoments}
use Rattle.cx_laws_run.proofs.run.Schedules.{may-happen}
use Rattle.cx_laws_run.specs.cx_laws_tickets.proofs.fetch.RepliedMoments.{AreReplied}
use Rattle.cx_laws_run.proofs.run.Whole.{run_of}
use Rattle.cx_laws_run.specs.run.Laws.{MayHappen}
use Rattle.cx_laws_run.specs.cx_lines.specs.declared.lines.Numbered.{Numbered}
use Rattle.cx_laws_run.specs.cx_run.specs.Happenings.{Happening}
use Rattle.cx_laws_run.specs.cx_run.specs.Opening.{Setup, leaked_of}
use Rattle.cx_laws_run.specs.cx_run.specs.Points.{log_since, points}
use Rattle.cx_laws_run.specs.cx_run.specs.Runs.{IsFoundOf, setup_of, trace}
use Rattle.cx_laws_run.specs.cx_schedule.specs.Files.{Lines}
use Rattle.cx_steps.specs.Premises.{IsFresh, IsSound}

-- each fetch is what the monitor replied to that daemon behind its asking
run-replied : (setup : Setup) (hs : List Happening) → MayHappen setup hs → IsSound (leaked_of setup) (log_since setup hs) → IsFresh (log_since setup hs) → AreReplied (points setup hs)
run-replied setup hs = any-replied setup hs (monitor-step (run_of setup hs true) (log_since setup hs))

pub any-covered : (setup : Setup) (hs : List Happening) → MayHappen setup hs → IsSound (leaked_of setup) (log_since setup hs) → IsFresh (log_since setup hs)
    → (daemon : Name) → IsSteadyFor daemon hs → IsCovered setup daemon (points setup hs)
any-covered setup hs m sound fresh = covers setup hs m (run-replied setup hs m sound fresh)

pub any-paced : (setup : Setup) (hs : List Happening) → MayHappen setup hs → IsSound (leaked_of setup) (log_since setup hs) → IsFresh (log_since setup hs)
    → FetchesPaced setup (points setup hs)
any-paced setup hs m sound fresh = paces setup hs m (run-replied setup hs m sound fresh)

pub any-moments : (setup : Setup) (hs : List Happening) → MayHappen setup hs → IsSound (leaked_of setup) (log_since setup hs) → IsFresh (log_since setup hs)
    → AreOfMoments (points setup hs)
any-moments setup hs m sound fresh = of-moments setup hs m (run-replied setup hs m sound fresh)

pub schedule-moments : (handlers : Handlers) (bytes : List ℕ) (script : List Numbered) → Lines bytes script → IsFoundOf handlers script None
    → AreOfMoments (points (setup_of handlers script) (trace handlers script))
schedule-moments handlers bytes script said found =
    any-moments (setup_of handlers script) (trace handlers script) (may-happen handlers bytes script said) found.0 found.1

pub schedule-covered : (handlers : Handlers) (bytes : List ℕ) (script : List Numbered) → Lines bytes script → IsFoundOf handlers script None
    → (daemon : Name) → IsSteadyFor daemon (trace handlers script) → IsCovered (setup_of handlers script) daemon (points (setup_of handlers script) (trace handlers script))
schedule-covered handlers bytes script said found =
    any-covered (setup_of handlers script) (trace handlers script) (may-happen handlers bytes script said) found.0 found.1

pub schedule-paced : (handlers : Handlers) (bytes : List ℕ) (script : List Numbered) → Lines bytes script → IsFoundOf handlers script None
    → FetchesPaced (setup_of handlers script) (points (setup_of handlers script) (trace handlers script))
schedule-paced handlers bytes script said found =
    any-paced (setup_of handlers script) (trace handlers script) (may-happen handlers bytes script said) found.0 found.1
