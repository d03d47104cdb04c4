use Rattle.std.proofs.Common.{◌≡◌, take}
use Rattle.std.specs.Prelude.{position}
use Rattle.cx_base.specs.Names.{Name, same_name}
use Rattle.cx_name_index.specs.Indexed.{place_of}
use Rattle.cx_world.specs.declared.members.Member.{Member}
use Rattle.cx_world.proofs.nodes.places_of.Given as goal

abbrev pub invariant-loop-i : goal.invariant-loop-i
invariant-loop-i l = (name : Name) → place_of l.places.ids name ≡ position (λ (m : Member). same_name m.name name) (take l.i l.members)
