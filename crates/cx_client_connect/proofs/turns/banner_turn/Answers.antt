use Rattle.std.proofs.Common.{Option}
use Rattle.cx_link.specs.Wires.{wired}
use Rattle.cx_client_connect.specs.cx_rules_session.specs.Forgets.{abridged_call_link}
use Rattle.cx_client_connect.specs.cx_rules_session.specs.Presenter.{AwaitsBanner, CallArrival, on_banner}
use Rattle.cx_client_connect.specs.cx_rules_session.specs.Sessions.{HeldSession}
use Rattle.cx_node.proofs.steps.Handling.{banner_turn}
use Rattle.cx_client_connect.specs.presenting.Rows.{arrived, caller, changed}
use Rattle.cx_client_connect.proofs.turns.banner_turn.Goals as goal

pub returns-in-Takes : goal.returns-in-Takes
returns-in-Takes c =
    λ (session : Option HeldSession).
    banner_turn abridged_call_link changed (arrived (caller c.args.mon_client.now session) c.args.at.now (wired c.args.at.now.number c.args.link (AwaitsBanner c.args.called)))
    c.args.at.now.number c.args.link c.in-Takes.link (AwaitsBanner c.args.called) (λ (a : CallArrival). on_banner a c.args.called) c.on_banner-made.result
    c.handles.result c.in-Takes.ensures (c.on_banner-made.ensures session) (rw c.new-in-Takes.ensures at c.handles.ensures)
