use Rattle.std.proofs.Common.{◌≡◌, List, Option, Some, None, get_or, set, refl, sym, subst, ap, ◌∙◌}
use Rattle.std.specs.List.{position}
use Rattle.cx_base.specs.Names.{same_name}
use Rattle.cx_desk.specs.Handlers.{Handlers}
use Rattle.cx_world_start.specs.cx_rules.specs.Inputs.{input_of}
use Rattle.cx_world.specs.actors.Steps.{IsMemberStep}
use Rattle.cx_world.specs.declared.members.Member.{Member}
use Rattle.cx_world.specs.declared.nodes.Nodes.{Nodes}
use Rattle.cx_world.proofs.actors.Placing.{is_first, is_none}
use Rattle.cx_world.proofs.actors.Stepping.{member_given, nobody_given}
use Rattle.cx_world.proofs.nodes.Nodes.step_member.Goals as goal

pub returns-in_ok-made-in-Some : goal.returns-in_ok-made-in-Some
returns-in_ok-made-in-Some g c =
    λ w k.
    let held : Nodes = c.args.self.now in
    let p = λ (m : Member). same_name m.name c.args.name.now in
    let slice : c.as_slice.result.now ≡ held.members.items = c.as_slice.ensures.value in
    let there : position p held.members.items ≡ Some c.in-Some.place = sym (c.in-Some.ensures.found (λ n. k.placed n ∙ sym (ap (λ (ms : List Member). position (λ (m : Member). same_name m.name n) ms) slice)) ∙ ap (λ (ms : List Member). position p ms) slice) in
    member_given (input_of c.args.event) w c.args.name.now held _ c.in-Some.place c.index_mut-member.result.now c.step.new.self c.in_ok-made-in-Some.made k
    (is_first p held.members.items c.in-Some.place there) c.index_mut-member.ensures.value refl refl refl refl (λ post entity s.
    let P : Handlers → Type 0 = λ h. IsMemberStep h (input_of c.args.event) post entity c.in_ok-made-in-Some.made c.index_mut-member.result.now c.step.new.self in
    subst P (sym k.serves) (c.in_ok-made-in-Some.ensures post entity s))

pub returns-in-None : goal.returns-in-None
returns-in-None g c =
    λ w k.
    let held : Nodes = c.args.self.now in
    let p = λ (m : Member). same_name m.name c.args.name.now in
    let slice : c.as_slice.result.now ≡ held.members.items = c.as_slice.ensures.value in
    let there : position p held.members.items ≡ None = sym (c.in-None.ensures.found (λ n. k.placed n ∙ sym (ap (λ (ms : List Member). position (λ (m : Member). same_name m.name n) ms) slice)) ∙ ap (λ (ms : List Member). position p ms) slice) in
    nobody_given (input_of c.args.event) w c.args.name.now held c.nothing.result k (is_none p held.members.items there) c.nothing.ensures
