use Rattle.std.proofs.lemmas.Result.{on_ok_weaker}
use Rattle.cx_world_start.specs.cx_rules.specs.Inputs.{Restart}
use Rattle.cx_world_start.specs.cx_run.specs.Deliveries.{tells}
use Rattle.cx_world.proofs.world.World.restart.Goals as goal

pub returns : goal.returns
returns g c =
    on_ok_weaker c.vanish.result
    (λ makes b seen w k. makes b seen (tells w c.args.who.now Restart) (c.in_ok-tell.ensures b seen w k))
    c.vanish.ensures
