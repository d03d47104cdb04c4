use Rattle.cx_link.specs.Wires.{wired}
use Rattle.cx_node.specs.cx_rules.specs.Abridged.{abridged_mon_client_link}
use Rattle.cx_node.specs.cx_rules.specs.Connector.{MonClientArrival, AwaitsBanner, on_banner}
use Rattle.cx_node.proofs.steps.Handling.{banner_turn}
use Rattle.cx_monclient.specs.connector.Rows.{arrived, changed}
use Rattle.cx_monclient.proofs.turns.banner_turn.Goals as goal

pub returns-in-Takes : goal.returns-in-Takes
returns-in-Takes c =
    banner_turn abridged_mon_client_link changed (arrived c.args.mon_client.now c.args.at.now (wired c.args.at.now.number c.args.link (AwaitsBanner c.args.asked)))
    c.args.at.now.number c.args.link c.in-Takes.link (AwaitsBanner c.args.asked) (λ (a : MonClientArrival). on_banner a c.args.asked) c.on_banner-made.result
    c.handles.result c.in-Takes.ensures c.on_banner-made.ensures (rw c.new-in-Takes.ensures at c.handles.ensures)
