-- The rows of one that asks the monitor save nothing.
use Rattle.std.proofs.Common.{Result, Ok, Err, refl}
use Rattle.cx_run.specs.cx_rules.specs.Connector.{MonClientArrival, Stage, turned_at}
use Rattle.cx_run.specs.cx_rules.specs.Holdings.{MonClient}
use Rattle.cx_run.specs.cx_rules.specs.Rows.{Arrival}
use Rattle.cx_run.specs.cx_rules.specs.Secured.{SealedFrame, Secured}
use Rattle.cx_run.specs.cx_rules.specs.Requests.{Requests, sends_request}
use Rattle.cx_run.specs.cx_rules.specs.declared.requests.Want.{Want}
use Rattle.cx_journal.specs.declared.outcomes.Reason.{Reason}
use Rattle.cx_run.proofs.Taking.{EachRow}
use Rattle.cx_laws_node.proofs.saving.IncomingSaves.{SavesNone}
use Rattle.cx_run.specs.cx_rules.specs.Connector.{MonClientRow}
use Rattle.cx_run.specs.cx_rules.proofs.MonClientWalk.{MonClientWays, mon_client-walk}

abbrev Saves : MonClientArrival → MonClientRow → Type 0
Saves a row = SavesNone row

saves-ways : MonClientWays Saves
saves-ways = record {
  refused = λ a why seals fine. refl;
  gone_on = λ a stage bytes seals logs. refl;
  held = λ a holdings row h. h;
  behind = λ a opened row h. h;
}

pub mon_client-none : (a : MonClientArrival) (stage : Stage) → EachRow SavesNone (turned_at a stage)
mon_client-none a stage = mon_client-walk Saves saves-ways (λ b link row h. h) (λ b s r f reading generations opened is. refl) a stage

-- what an open link asks at a fetch
pub fetch-none : {T : Type 0} (open_with : Secured → Requests → T) (a : Arrival MonClient T) (s : Secured) (requests : Requests) (want : Want) (sealed : Result SealedFrame Reason)
    → SavesNone (sends_request open_with a s requests want sealed)
fetch-none open_with a s requests want (Ok sealed) = refl
fetch-none open_with a s requests want (Err why) = refl
