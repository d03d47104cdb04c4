use Rattle.std.proofs.Common.{◌≡◌, ◌++◌, map, length}
use Rattle.cx_lines.specs.Settings.{entity_places, pair_places}
use Rattle.cx_lines.proofs.entity.entity_places.Given as goal

abbrev pub invariant-loop-rest : goal.invariant-loop-rest
invariant-loop-rest l = l.found.items ++ pair_places (map (λ w. w.now) l.rest) ≡ entity_places (map (λ w. w.now) l.fn.words)

abbrev pub decreases-loop-rest : goal.decreases-loop-rest
decreases-loop-rest l = length l.rest
