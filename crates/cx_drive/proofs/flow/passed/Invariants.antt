use Rattle.std.proofs.Common.{◌≡◌, length}
use Rattle.cx_drive.specs.Agendas.{passed}
use Rattle.cx_drive.proofs.flow.passed.Given as goal

abbrev pub invariant-loop-links : goal.invariant-loop-links
invariant-loop-links l = passed l.gone l.left ≡ passed l.gone l.orders

abbrev pub decreases-loop-links : goal.decreases-loop-links
decreases-loop-links l = length l.left
