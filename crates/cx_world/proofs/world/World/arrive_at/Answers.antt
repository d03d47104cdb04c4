use Rattle.std.proofs.Common.{sym, subst}
use Rattle.cx_world_start.specs.cx_run.specs.Worlds.{World as RunWorld}
use Rattle.cx_world.specs.Carried.{Carries}
use Rattle.cx_world.proofs.Making.{if_so, ok_makes}
use Rattle.cx_world_start.specs.cx_run.specs.Deliveries.{arrives}
use Rattle.cx_world.specs.Ends.{arrives_end}
use Rattle.cx_world.proofs.world.World.arrive_at.Goals as goal

pub returns-then-end : goal.returns-then-end
returns-then-end g c = ok_makes c.arrive.result c.args.self.now c.arrive.new.self
    (λ (w : RunWorld). arrives w c.args.end.now.node c.args.end.now.number c.args.bytes.now) c.arrive.ensures
    c.args.self.now (λ (w : RunWorld). arrives_end w c.args.end.now c.args.bytes.now)
    (λ b seen w h m. subst (λ (x : RunWorld). Carries b seen c.arrive.new.self x)
    (sym (if_so c.args.end.now.lives (arrives w c.args.end.now.node c.args.end.now.number c.args.bytes.now) w c.if-end.true)) (m w h))
