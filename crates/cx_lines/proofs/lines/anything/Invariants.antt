use Rattle.std.proofs.Common.{◌≡◌, ◌++◌, map, length}
use Rattle.cx_lines.specs.Lines.{anything}
use Rattle.cx_lines.proofs.lines.anything.Given as goal

abbrev pub invariant-loop-rest : goal.invariant-loop-rest
invariant-loop-rest l = l.found.items ++ anything (map (λ w. w.now) l.rest) ≡ anything (map (λ w. w.now) l.fn.words)

abbrev pub decreases-loop-rest : goal.decreases-loop-rest
decreases-loop-rest l = length l.rest
