-- The entities of a run as they begin.
use Rattle.std.specs.Prelude.{◌≡◌, List, [], ◌∷◌, Some}
use Rattle.cx_world.specs.actors.Held.{NodeStands}
use Rattle.cx_world.specs.actors.Posts.{IsOf}
use Rattle.cx_world.specs.declared.members.Member.{Member}
use Rattle.cx_world_start.specs.cx_run.specs.Opening.{Declared, entity_in, post_for}

-- the member is this entity: it has its name, sits in its post, and its node is the opening one
pub record IsMemberOf (e : Declared) (member : Member) : Type 0 where
  pub name : member.name ≡ e.name
  pub post : IsOf (post_for e) member.post
  pub node : NodeStands member.node (Some (entity_in e))

-- the members are these entities, one by one
abbrev pub AreMembersOf : List Declared → List Member → Type 0
AreMembersOf [] [] = Unit {0}
AreMembersOf [] (m ∷ members) = ⊥
AreMembersOf (e ∷ es) [] = ⊥
AreMembersOf (e ∷ es) (m ∷ members) = IsMemberOf e m × AreMembersOf es members
