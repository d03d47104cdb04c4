use Rattle.cx_world_start.specs.cx_rules.specs.Inputs.{input_of}
use Rattle.cx_world_start.specs.cx_run.specs.Deliveries.{gives}
use Rattle.cx_world.proofs.world.World.come.Goals as goal

pub returns : goal.returns
returns g c = λ b seen w k. c.in_ok-follow.ensures b seen (gives w c.args.who.now (input_of c.args.event)) (c.in_ok-made.ensures b seen w k)
