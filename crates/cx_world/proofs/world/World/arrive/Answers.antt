use Rattle.cx_world_start.specs.cx_run.specs.Worlds.{World as RunWorld}
use Rattle.cx_world.proofs.Making.{ok_makes}
use Rattle.cx_world_start.specs.cx_rules.specs.Inputs.{Bytes}
use Rattle.cx_world_start.specs.cx_run.specs.Deliveries.{arrives, comes}
use Rattle.cx_world.specs.Arriving.{turns_all}
use Rattle.cx_world.proofs.world.World.arrive.Goals as goal

pub returns : goal.returns
returns g c = ok_makes c.turn_all.result c.come.new.self c.turn_all.new.self (turns_all c.args.who.now c.args.number) c.turn_all.ensures
    c.args.self.now (λ (w : RunWorld). arrives w c.args.who.now c.args.number c.args.bytes.now)
    (λ b seen w h m. m (comes w c.args.who.now (Bytes c.args.number c.args.bytes.now)) (c.in_ok-come.ensures b seen w h))
