use Rattle.std.proofs.Common.{◌≡◌, ◌++◌, map}
use Rattle.std.specs.List.{flat_map}
use Rattle.cx_schedule.specs.Drills.{client_line, clients_to, ended}
use Rattle.cx_schedule.proofs.drilled.put_clients.Given as goal

abbrev pub invariant-loop-i : goal.invariant-loop-i
invariant-loop-i l = l.into ≡ l.initial.into ++ flat_map ended (map client_line (clients_to l.i))
