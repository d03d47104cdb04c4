use Rattle.std.proofs.Common.{◌≡◌, ap, subst}
use Rattle.cx_world_start.specs.cx_run.specs.Worlds.{World as RunWorld}
use Rattle.cx_world.specs.Carried.{Carries}
use Rattle.cx_world.proofs.Making.{ok_makes}
use Rattle.cx_base.specs.Names.{Name}
use Rattle.cx_base.specs.declared.nodes.NodeName.TheVariants as node
use Rattle.cx_lines.specs.declared.commands.LineCommand.TheVariants as command
use Rattle.cx_world_start.specs.cx_rules.specs.Inputs.{Submit}
use Rattle.cx_world_start.specs.cx_run.specs.Deliveries.{comes}
use Rattle.cx_world_start.specs.cx_run.specs.Schedules.{submitted}
use Rattle.cx_steps.specs.declared.events.Command.TheVariants as told
use Rattle.cx_world.proofs.world.World.fetch.Goals as goal

pub returns : goal.returns
returns g c = ok_makes c.come.result c.args.self.now c.come.new.self
    (λ (w : RunWorld). comes w (node.Entity c.in_ok-copy.field-0) (Submit told.Fetch)) c.come.ensures
    c.args.self.now (λ (w : RunWorld). submitted w (command.Fetch c.args.daemon.now))
    (λ b seen w h m.
    let is : comes w (node.Entity c.in_ok-copy.field-0) (Submit told.Fetch) ≡ submitted w (command.Fetch c.args.daemon.now) =
    ap (λ (n : Name). comes w (node.Entity n) (Submit told.Fetch)) c.in_ok-copy.ensures in
    subst (λ (x : RunWorld). Carries b seen c.come.new.self x) is (m w h))
