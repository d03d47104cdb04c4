use Rattle.std.proofs.Common.{◌≡◌}
use Rattle.std.specs.Prelude.{take, sum_by}
use Rattle.cx_enc.specs.Values.{number_of}
use Rattle.cx_drive_commands.proofs.orders.services_sum.Given as goal

abbrev pub invariant-loop-service : goal.invariant-loop-service
invariant-loop-service l = l.sum ≡ sum_by number_of (take l.service-index l.services)
