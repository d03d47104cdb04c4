use Rattle.std.proofs.Common.{◌≡◌, ◌++◌, length}
use Rattle.cx_keyring.specs.Lines.{lines_said}
use Rattle.cx_keyring.proofs.reading.lines_said.Given as goal

abbrev pub invariant-lines : goal.invariant-lines
invariant-lines l = l.lines ++ lines_said l.rest ≡ lines_said l.fn.bytes

abbrev pub decreases-lines : goal.decreases-lines
decreases-lines l = length l.rest
