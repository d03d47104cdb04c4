use Rattle.std.proofs.Common.{map}
use Rattle.std.specs.List.{flat_map}
use Rattle.cx_schedule.specs.Drills.{client_line, ended}
use Rattle.cx_schedule.proofs.DrillTexts.{clients_push, grown}
use Rattle.cx_schedule.proofs.drilled.put_clients.Goals as goal

pub loop-i-preserved : goal.loop-i-preserved
loop-i-preserved c = grown (λ xs. flat_map ended (map client_line xs)) (λ x. ended (client_line x)) clients_push c.loop-i.i _ _ _ c.loop-i.invariant c.in_ok-put_client.ensures
