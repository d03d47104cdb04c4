use Rattle.cx_world_start.specs.cx_run.specs.Deliveries.{drains_side}
use Rattle.cx_words.specs.declared.choices.Side.TheVariants.{Connector}
use Rattle.cx_world.specs.Settling.{drains_both}
use Rattle.cx_world.proofs.Rounds.{same_wires}
use Rattle.cx_world.proofs.world.World.drain_both.Goals as goal

pub returns : goal.returns
returns g c = λ b seen w k.
    same_wires b seen c.drain-2.new.self (drains_both c.args.number w) c.rest.new.self c.rest.ensures
    (c.in_ok-drain-2.ensures b seen (drains_side w c.args.number Connector) (c.in_ok-drain.ensures b seen w k))
