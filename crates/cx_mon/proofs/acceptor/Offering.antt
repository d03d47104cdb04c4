-- A challenge is offered behind the entry that it was drawn.
use Rattle.std.proofs.Common.{◌≡◌, ℕ, List, [], ◌∷◌, Result}
use Rattle.cx_journal.specs.declared.faults.BytesFault.{BytesFault}
use Rattle.cx_rules.specs.Monitor.{MonitorArrival, MonitorStage}
use Rattle.cx_rules.specs.Rows.{goes_on, plain_sent, with_opened}
use Rattle.cx_steps.specs.declared.seals.SealEntry.{SealEntry}
use Rattle.cx_node.proofs.steps.MadeRows.{unless_behind}

pub offered_behind : (a : MonitorArrival) (stage : MonitorStage) (drawn : SealEntry) (made : Result (List ℕ) BytesFault)
    → with_opened (drawn ∷ []) (plain_sent a stage [] made) ≡ plain_sent a stage (drawn ∷ []) made
offered_behind a stage drawn made = unless_behind a (drawn ∷ []) made (λ (bytes : List ℕ). goes_on a stage bytes [])
