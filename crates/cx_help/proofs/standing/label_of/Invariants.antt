-- What was put so far is what the line sets before what is left of it.
use Rattle.std.proofs.Common.{◌≡◌, ◌++◌, length}
use Rattle.cx_help.specs.keyring.Standing.{label_of}
use Rattle.cx_help.proofs.standing.label_of.Given as goal

abbrev pub invariant-loop-rest : goal.invariant-loop-rest
invariant-loop-rest l = l.label.items ++ label_of l.rest ≡ label_of l.fn.line

abbrev pub decreases-loop-rest : goal.decreases-loop-rest
decreases-loop-rest l = length l.rest
