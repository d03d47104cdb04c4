use Rattle.cx_rules_session.specs.cx_desk.specs.Handlers.{Handlers}
use Rattle.cx_link.specs.Wires.{wired}
use Rattle.cx_node.specs.cx_rules.specs.Abridged.{abridged_link}
use Rattle.cx_node.specs.cx_rules.specs.Acceptor.{AwaitsBanner, on_banner}
use Rattle.cx_rules_session.specs.IncomingLinks.{IncomingArrival}
use Rattle.cx_node.proofs.steps.Handling.{banner_turn}
use Rattle.cx_verifying.specs.Rows.{arrived, unchanged}
use Rattle.cx_verifying.proofs.turns.banner_turn.Goals as goal

pub returns-in-Takes : goal.returns-in-Takes
returns-in-Takes c =
    λ (handlers : Handlers).
    banner_turn abridged_link unchanged (arrived c.args.mon_client.now c.args.at.now (wired c.args.at.now.number c.args.link AwaitsBanner)) c.args.at.now.number
    c.args.link c.in-Takes.link AwaitsBanner (λ (a : IncomingArrival). on_banner c.args.mon_client.now.name.kind a) c.on_banner-made.result c.handles.result c.in-Takes.ensures
    c.on_banner-made.ensures (rw c.new-in-Takes.ensures at c.handles.ensures)
