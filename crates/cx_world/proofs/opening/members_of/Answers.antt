use Rattle.std.proofs.Common.{rules}
use Rattle.cx_world.proofs.actors.Finding.{all_of, one_more}
use Rattle.cx_world.proofs.opening.members_of.Goals as goal

pub loop-entity-preserved : goal.loop-entity-preserved
loop-entity-preserved c =
    one_more c.args.entities.now c.loop-entity.entity-index c.entity-item.result _ _ _ c.loop-entity.invariant c.loop-entity-test.true c.entity-item.is c.in_ok-member.ensures c.in_ok-push.ensures.items

pub returns : goal.returns
returns c = all_of c.args.entities.now c.loop-entity.entity-index c.loop-entity.members.items c.loop-entity.invariant c.loop-entity-test.false
