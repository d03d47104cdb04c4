use Rattle.std.proofs.Common.{List, get_or, set, ap, ◌∙◌}
use Rattle.cx_world.specs.actors.Held.{reads}
use Rattle.cx_world.specs.actors.Posts.{Sitting}
use Rattle.cx_world.specs.declared.members.Member.{Member}
use Rattle.cx_world.proofs.actors.Reading.{mapped_more}
use Rattle.cx_world.proofs.nodes.read_members.Goals as goal

pub loop-member-preserved : goal.loop-member-preserved
loop-member-preserved c =
    let items : List Member = c.loop-member.member-items in
    let i = c.loop-member.member-index in
    let old : Member = get_or items i c.member-item.result in
    ap (λ (s : Sitting). set items i (let m : Member = record old { post = s } in m)) c.set.ensures
    ∙ mapped_more (λ m. reads c.args.reading m) c.deref_mut-member-items.result.now items i c.member-item.result c.loop-member.invariant c.loop-member-test.true
