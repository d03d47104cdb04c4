use Rattle.std.proofs.Common.{◌≡◌, length}
use Rattle.cx_keyring.specs.Lines.{without_back}
use Rattle.cx_keyring.proofs.cut.without_back.Given as goal

abbrev pub invariant-loop-rest : goal.invariant-loop-rest
invariant-loop-rest l = without_back l.rest ≡ without_back l.text

abbrev pub decreases-loop-rest : goal.decreases-loop-rest
decreases-loop-rest l = length l.rest
