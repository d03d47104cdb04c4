use Rattle.std.proofs.Common.{◌≡◌, ◌++◌}
use Rattle.cx_world.proofs.records.enter.Given as goal

abbrev pub invariant-loop-entry : goal.invariant-loop-entry
invariant-loop-entry l = l.journal ≡ l.initial.journal ++ l.yielded
