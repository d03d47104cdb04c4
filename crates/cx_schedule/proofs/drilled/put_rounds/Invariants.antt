use Rattle.std.proofs.Common.{◌≡◌, ◌++◌}
use Rattle.std.specs.List.{flat_map}
use Rattle.cx_schedule.specs.Drills.{clients_to, ended, round_lines}
use Rattle.cx_schedule.proofs.drilled.put_rounds.Given as goal

abbrev pub invariant-loop-i : goal.invariant-loop-i
invariant-loop-i l = l.into ≡ l.initial.into ++ flat_map ended (flat_map (round_lines l.seed) (clients_to l.i))
