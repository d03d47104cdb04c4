use Rattle.std.proofs.Common.{◌≡◌, ◌++◌, length}
use Rattle.cx_keyring.specs.Collected.{entries_of}
use Rattle.cx_keyring.proofs.sections.entries_of.Given as goal

abbrev pub invariant-loop-rest : goal.invariant-loop-rest
invariant-loop-rest l = l.entries ++ entries_of l.rest ≡ entries_of l.fn.lines

abbrev pub decreases-loop-rest : goal.decreases-loop-rest
decreases-loop-rest l = length l.rest
