use Rattle.std.proofs.Common.{None}
use Rattle.cx_world_start.specs.cx_rules.specs.Inputs.{Tick}
use Rattle.cx_world_start.specs.cx_run.specs.Deliveries.{comes, settles}
use Rattle.cx_world_start.specs.cx_run.specs.Worlds.{World as RunWorld}
use Rattle.cx_world.proofs.Making.{ok_makes_alone}
use Rattle.cx_world.proofs.world.World.tick.Goals as goal

pub returns : goal.returns
returns g c =
    ok_makes_alone c.settle.result c.come.new.self c.settle.new.self (λ (w : RunWorld). settles w) c.settle.ensures
    c.args.self.now (λ (w : RunWorld). settles (comes w c.args.who.now Tick))
    (λ b w h m. m (comes w c.args.who.now Tick) (c.in_ok-come.ensures b None w h))
