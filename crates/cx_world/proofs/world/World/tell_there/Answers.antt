use Rattle.std.proofs.Common.{Option, sym, subst}
use Rattle.cx_world_start.specs.cx_run.specs.Worlds.{World as RunWorld}
use Rattle.cx_world.specs.Arriving.{tells_there}
use Rattle.cx_world.specs.Carried.{Carries}
use Rattle.cx_world.specs.Ends.{tells_end}
use Rattle.cx_world.specs.declared.ends.LinkEnd.{LinkEnd}
use Rattle.cx_world.proofs.Making.{ok_makes}
use Rattle.cx_world.proofs.world.World.tell_there.Goals as goal

pub returns-in-Some : goal.returns-in-Some
returns-in-Some g c = ok_makes c.tell_gone.result c.args.self.now c.tell_gone.new.self
    (λ (w : RunWorld). tells_end w c.in-Some.end) c.tell_gone.ensures
    c.args.self.now (λ (w : RunWorld). tells_there w c.args.end.now)
    (λ b seen w h m. subst (λ (e : Option LinkEnd). Carries b seen c.tell_gone.new.self (tells_there w e)) (sym c.in-Some.is) (m w h))
