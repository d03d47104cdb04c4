use Rattle.cx_world_start.specs.cx_run.specs.Worlds.{World as RunWorld}
use Rattle.cx_world.proofs.Making.{ok_makes_alone}
use Rattle.std.proofs.Common.{None}
use Rattle.cx_world_start.specs.cx_run.specs.Deliveries.{settles}
use Rattle.cx_world_start.specs.cx_run.specs.Schedules.{submits, submitted}
use Rattle.cx_world.proofs.world.World.submit_and_settle.Goals as goal

pub returns : goal.returns
returns g c =
    ok_makes_alone c.settle.result c.submit.new.self c.settle.new.self (λ (w : RunWorld). settles w) c.settle.ensures
    c.args.self.now (λ (w : RunWorld). submits w c.args.command.now)
    (λ b w h m. m (submitted w c.args.command.now) (c.in_ok-submit.ensures b None w h))
