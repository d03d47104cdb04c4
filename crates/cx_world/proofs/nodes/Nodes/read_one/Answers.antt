use Rattle.std.proofs.Common.{◌≡◌, List, Option, Some, None, get_or, set, refl, sym, ap, ◌∙◌}
use Rattle.std.specs.List.{position}
use Rattle.cx_base.specs.Names.{same_name}
use Rattle.cx_world.specs.declared.members.Member.{Member}
use Rattle.cx_world.specs.declared.nodes.Nodes.{Nodes}
use Rattle.cx_world.specs.actors.Posts.{Sitting}
use Rattle.cx_world.proofs.actors.Placing.{is_first, is_none}
use Rattle.cx_world.proofs.actors.Reading.{member_reads, monitor_reads, nobody_reads}
use Rattle.cx_world.proofs.nodes.Nodes.read_one.Goals as goal

pub returns-in-Monitor : goal.returns-in-Monitor
returns-in-Monitor c = rw c.in-Monitor.is (λ handlers w k. monitor_reads c.args.reading w c.args.self.now _ k refl c.set.ensures refl refl)

pub returns-in-Some : goal.returns-in-Some
returns-in-Some c = rw c.in-Entity.is (
    λ handlers w k.
    let held : Nodes = c.args.self.now in
    let old : Member = c.index_mut-member.result.now in
    let p = λ (m : Member). same_name m.name c.in-Entity.name in
    let slice : c.as_slice.result.now ≡ held.members.items = c.as_slice.ensures.value in
    let there : position p held.members.items ≡ Some c.in-Some.place = sym (c.in-Some.ensures.found (λ n. k.placed n ∙ sym (ap (λ (ms : List Member). position (λ (m : Member). same_name m.name n) ms) slice)) ∙ ap (λ (ms : List Member). position p ms) slice) in
    member_reads c.args.reading w c.in-Entity.name held _ k refl refl refl c.in-Some.place old _
    (is_first p held.members.items c.in-Some.place there) c.index_mut-member.ensures.value
    (ap (λ (s : Sitting). let m : Member = record old { post = s } in m) c.set-in-Some.ensures) refl)

pub returns-in-None : goal.returns-in-None
returns-in-None c = rw c.in-Entity.is (
    λ handlers w k.
    let held : Nodes = c.args.self.now in
    let p = λ (m : Member). same_name m.name c.in-Entity.name in
    let slice : c.as_slice.result.now ≡ held.members.items = c.as_slice.ensures.value in
    let there : position p held.members.items ≡ None = sym (c.in-None.ensures.found (λ n. k.placed n ∙ sym (ap (λ (ms : List Member). position (λ (m : Member). same_name m.name n) ms) slice)) ∙ ap (λ (ms : List Member). position p ms) slice) in
    nobody_reads c.args.reading w c.in-Entity.name held _ k refl refl refl (is_none p held.members.items there) refl)
