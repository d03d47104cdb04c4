use Rattle.std.proofs.Common.{◌≡◌, None, ◌∙◌, arith}
use Rattle.cx_world_start.specs.cx_run.specs.Worlds.{World as RunWorld}
use Rattle.cx_world.proofs.Making.{ok_makes}
use Rattle.cx_world_start.specs.cx_run.specs.Deliveries.{delivers, drains_side}
use Rattle.cx_world.specs.Settling.{delivers_many}
use Rattle.cx_world.proofs.Rounds.{delivered_one_more, drained}
use Rattle.cx_world.proofs.world.World.drain.Goals as goal

pub loop-init : goal.loop-init
loop-init g c = λ b seen w h. h

pub loop-preserved : goal.loop-preserved
loop-preserved g c =
    delivered_one_more c.args.self.now c.loop.self c.deliver.new.self c.args.number c.loop.counter c.args.side c.loop.invariant c.in_ok-deliver.ensures

pub returns : goal.returns
returns g c =
    let same : c.loop.counter ≡ c.under_way-end.result = omega arith in
    ok_makes c.deliver-2.result c.loop.self c.deliver-2.new.self
    (λ (w : RunWorld). delivers w c.args.number c.args.side None) c.deliver-2.ensures
    c.args.self.now (λ (w : RunWorld). drains_side w c.args.number c.args.side)
    (λ b seen w h m. drained b seen c.args.self.now c.deliver-2.new.self w c.args.number c.loop.counter c.args.side h (same ∙ c.under_way-end.ensures)
    (m (delivers_many c.loop.counter c.args.number c.args.side w) (c.loop.invariant b seen w h)))
