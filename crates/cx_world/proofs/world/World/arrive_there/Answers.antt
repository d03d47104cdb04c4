use Rattle.std.proofs.Common.{Option, sym, subst}
use Rattle.cx_world_start.specs.cx_run.specs.Worlds.{World as RunWorld}
use Rattle.cx_world.specs.Carried.{Carries}
use Rattle.cx_world.proofs.Making.{ok_makes}
use Rattle.cx_world.specs.Arriving.{arrives_there}
use Rattle.cx_world.specs.Ends.{arrives_end}
use Rattle.cx_world.specs.declared.ends.LinkEnd.{LinkEnd}
use Rattle.cx_world.proofs.world.World.arrive_there.Goals as goal

pub returns-in-Some : goal.returns-in-Some
returns-in-Some g c = ok_makes c.arrive_at.result c.args.self.now c.arrive_at.new.self
    (λ (w : RunWorld). arrives_end w c.in-Some.end c.args.bytes.now) c.arrive_at.ensures
    c.args.self.now (λ (w : RunWorld). arrives_there w c.args.end.now c.args.bytes.now)
    (λ b seen w h m. subst (λ (e : Option LinkEnd). Carries b seen c.arrive_at.new.self (arrives_there w e c.args.bytes.now)) (sym c.in-Some.is) (m w h))
