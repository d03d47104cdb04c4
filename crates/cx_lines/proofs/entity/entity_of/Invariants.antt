use Rattle.std.proofs.Common.{◌-◌, length}
use Rattle.cx_lines.proofs.Pairs.{Reads}
use Rattle.cx_lines.proofs.entity.entity_of.Given as goal

abbrev pub invariant-pairs : goal.invariant-pairs
invariant-pairs l = Reads l.known (λ w. w.now) l.words l.at l.grants

abbrev pub decreases-pairs : goal.decreases-pairs
decreases-pairs l = length l.words - l.at
