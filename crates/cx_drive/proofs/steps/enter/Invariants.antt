use Rattle.std.proofs.Common.{◌≡◌, ◌++◌, take}
use Rattle.cx_drive.proofs.steps.enter.Given as goal

abbrev pub invariant-loop-entry : goal.invariant-loop-entry
invariant-loop-entry l = l.journal ≡ l.fn.journal ++ take l.entry-index l.entries
