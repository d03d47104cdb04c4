use Rattle.cx_base.specs.declared.kinds.EntityType.TheVariants.{Mon}
use Rattle.cx_link.specs.Wires.{wired}
use Rattle.cx_rules.specs.Abridged.{abridged_link}
use Rattle.cx_rules.specs.Acceptor.{AwaitsBanner, on_banner}
use Rattle.cx_rules.specs.Monitor.{MonitorArrival}
use Rattle.cx_node.proofs.steps.Handling.{banner_turn}
use Rattle.cx_mon.specs.acceptor.Rows.{arrived, with_keys}
use Rattle.cx_mon.proofs.turns.banner_turn.Goals as goal

pub returns-in-Takes : goal.returns-in-Takes
returns-in-Takes c =
    banner_turn abridged_link with_keys (arrived c.args.own.now c.args.at.now (wired c.args.at.now.number c.args.link AwaitsBanner)) c.args.at.now.number
    c.args.link c.in-Takes.link AwaitsBanner (λ (a : MonitorArrival). on_banner Mon a) c.on_banner-made.result c.handles.result c.in-Takes.ensures
    c.on_banner-made.ensures (rw c.new-in-Takes.ensures at c.handles.ensures)
