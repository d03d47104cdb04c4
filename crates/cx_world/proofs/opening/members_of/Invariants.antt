use Rattle.std.proofs.Common.{drop}
use Rattle.cx_world.proofs.actors.Finding.{SoFar}
use Rattle.cx_world.proofs.opening.members_of.Given as goal

abbrev pub invariant-loop-entity : goal.invariant-loop-entity
invariant-loop-entity l = SoFar l.entities (drop l.entity-index l.entities) l.members.items
