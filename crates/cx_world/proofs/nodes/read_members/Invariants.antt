use Rattle.std.proofs.Common.{◌≡◌, ◌++◌, map, take, drop}
use Rattle.cx_world.specs.actors.Held.{reads}
use Rattle.cx_world.proofs.nodes.read_members.Given as goal

abbrev pub invariant-loop-member : goal.invariant-loop-member
invariant-loop-member l = l.member-items ≡ map (λ m. reads l.reading m) (take l.member-index l.initial.member-items) ++ drop l.member-index l.initial.member-items
