use Rattle.std.proofs.Common.{◌≡◌, ap, ◌∙◌, subst}
use Rattle.cx_world_start.specs.cx_run.specs.Worlds.{World as RunWorld}
use Rattle.cx_world.specs.Carried.{Carries}
use Rattle.cx_world.proofs.Making.{ok_makes}
use Rattle.cx_base.specs.Names.{Name}
use Rattle.cx_base.specs.declared.nodes.NodeName.TheVariants as node
use Rattle.cx_lines.specs.declared.commands.LineCommand.TheVariants as command
use Rattle.cx_world_start.specs.cx_rules.specs.Inputs.{Submit}
use Rattle.cx_world_start.specs.cx_run.specs.Deliveries.{comes}
use Rattle.cx_world_start.specs.cx_run.specs.Schedules.{submitted}
use Rattle.cx_world_start.specs.cx_run.proofs.Written.{is-writable}
use Rattle.cx_steps.specs.declared.events.Command.{Command}
use Rattle.cx_world.proofs.world.World.send.Goals as goal

pub come-requires : goal.come-requires
come-requires g c = rw c.in_ok-told.ensures (is-writable c.args.operation.now c.requires)

pub returns : goal.returns
returns g c = ok_makes c.come.result c.args.self.now c.come.new.self
    (λ (w : RunWorld). comes w (node.Entity c.in_ok-copy.field-0) (Submit c.in_ok-told.told)) c.come.ensures
    c.args.self.now (λ (w : RunWorld). submitted w (command.Send c.args.client.now c.args.daemon.now c.args.operation.now))
    (λ b seen w h m.
    let is : comes w (node.Entity c.in_ok-copy.field-0) (Submit c.in_ok-told.told) ≡ submitted w (command.Send c.args.client.now c.args.daemon.now c.args.operation.now) =
    ap (λ (n : Name). comes w (node.Entity n) (Submit c.in_ok-told.told)) c.in_ok-copy.ensures
    ∙ ap (λ (t : Command). comes w (node.Entity c.args.client.now) (Submit t)) c.in_ok-told.ensures in
    subst (λ (x : RunWorld). Carries b seen c.come.new.self x) is (m w h))
