use Rattle.std.proofs.lemmas.Result.{on_ok_weaker}
use Rattle.cx_world.proofs.Carrying.{opened_to}
use Rattle.cx_world.proofs.world.World.open.Goals as goal

pub returns : goal.returns
returns g c =
    on_ok_weaker c.tell-2.result
    (λ makes b seen w k.
    opened_to b seen c.args.self.now w k c.tell.new.self c.tell-2.new.self c.args.who.now c.args.to.now c.in_ok-copy.field-0 c.in_ok-accepting.accepting c.in_ok-there.there c.in_ok-peer.peer
    c.in_ok-number.number c.open.new.self c.in_ok-copy.ensures c.in_ok-accepting.ensures c.in_ok-there.ensures c.in_ok-peer.ensures c.in_ok-number.ensures.number c.in_ok-number.ensures.ok
    c.in_ok-tell.ensures makes)
    c.tell-2.ensures
