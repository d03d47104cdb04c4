-- The rows of one that asks the monitor enter nothing of sessions.
use Rattle.std.proofs.Common.{Result, Ok, Err}
use Rattle.std.specs.List.{AllByRecursion}
use Rattle.cx_run.specs.cx_rules.specs.Connector.{MonClientArrival, Stage, turned_at}
use Rattle.cx_run.specs.cx_rules.specs.Holdings.{MonClient}
use Rattle.cx_run.specs.cx_rules.specs.Rows.{Arrival, Row}
use Rattle.cx_run.specs.cx_rules.specs.Secured.{SealedFrame, Secured}
use Rattle.cx_run.specs.cx_rules.specs.Requests.{Requests, sends_request}
use Rattle.cx_run.specs.cx_rules.specs.declared.requests.Want.{Want}
use Rattle.cx_journal.specs.declared.outcomes.Reason.{Reason}
use Rattle.cx_run.proofs.Taking.{EachRow}
use Rattle.cx_laws_sessions.proofs.session.Moves.{IsQuiet}
use Rattle.cx_run.specs.cx_rules.specs.Connector.{MonClientRow}
use Rattle.cx_run.specs.cx_rules.proofs.MonClientWalk.{MonClientWays, mon_client-walk}

abbrev pub EntersNone : {Own Stage : Type 0} → Row Own Stage → Type 0
EntersNone row = AllByRecursion IsQuiet row.entries

abbrev Enters : MonClientArrival → MonClientRow → Type 0
Enters a row = EntersNone row

enters-ways : MonClientWays Enters
enters-ways = record {
  refused = λ a why seals fine. (tt, tt);
  gone_on = λ a stage bytes seals logs. tt;
  held = λ a holdings row h. h;
  behind = λ a opened row h. h;
}

pub mon_client-enters : (a : MonClientArrival) (stage : Stage) → EachRow EntersNone (turned_at a stage)
mon_client-enters a stage = mon_client-walk Enters enters-ways (λ b link row h. h) (λ b s r f reading generations opened is. (tt, tt)) a stage

-- what an open link asks at a fetch
pub fetch-enters : {T : Type 0} (open_with : Secured → Requests → T) (a : Arrival MonClient T) (s : Secured) (requests : Requests) (want : Want) (sealed : Result SealedFrame Reason)
    → EntersNone (sends_request open_with a s requests want sealed)
fetch-enters open_with a s requests want (Ok sealed) = tt
fetch-enters open_with a s requests want (Err why) = (tt, tt)
