use Rattle.std.proofs.Common.{sym, subst}
use Rattle.cx_world_start.specs.cx_rules.specs.Inputs.{Gone}
use Rattle.cx_world_start.specs.cx_run.specs.Deliveries.{tells}
use Rattle.cx_world_start.specs.cx_run.specs.Worlds.{World as RunWorld}
use Rattle.cx_world.specs.Carried.{Carries}
use Rattle.cx_world.specs.Ends.{tells_end}
use Rattle.cx_world.proofs.Making.{if_so, ok_makes}
use Rattle.cx_world.proofs.world.World.tell_gone.Goals as goal

pub returns-then-end : goal.returns-then-end
returns-then-end g c = ok_makes c.tell.result c.args.self.now c.tell.new.self
    (λ (w : RunWorld). tells w c.args.end.now.node (Gone c.args.end.now.number)) c.tell.ensures
    c.args.self.now (λ (w : RunWorld). tells_end w c.args.end.now)
    (λ b seen w h m. subst (λ (x : RunWorld). Carries b seen c.tell.new.self x)
    (sym (if_so c.args.end.now.lives (tells w c.args.end.now.node (Gone c.args.end.now.number)) w c.if-end.true)) (m w h))
