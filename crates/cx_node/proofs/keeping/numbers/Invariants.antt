use Rattle.std.proofs.Common.{◌≡◌, map, take}
use Rattle.cx_node.specs.Places.{links_in}
use Rattle.cx_node.proofs.keeping.numbers.Given as goal

abbrev pub invariant-loop-place : goal.invariant-loop-place
invariant-loop-place g l = l.numbers ≡ map g.L.Numbered.number_of (links_in (take l.place-index l.places))
