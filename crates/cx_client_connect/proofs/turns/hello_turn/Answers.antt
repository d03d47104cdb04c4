use Rattle.std.proofs.Common.{Option}
use Rattle.cx_control.specs.Hello.{hello_layout}
use Rattle.cx_frame.specs.declared.frame.Frame.{Frame}
use Rattle.cx_link.specs.Wires.{wired}
use Rattle.cx_node.specs.cx_rules.specs.Payloads.{due}
use Rattle.cx_client_connect.specs.cx_rules_session.specs.Forgets.{abridged_call_link}
use Rattle.cx_client_connect.specs.cx_rules_session.specs.Presenter.{AwaitsHello, CallArrival, on_hello}
use Rattle.cx_client_connect.specs.cx_rules_session.specs.Sessions.{HeldSession}
use Rattle.cx_node.proofs.steps.Handling.{plain_turn}
use Rattle.cx_client_connect.specs.presenting.Rows.{arrived, caller, changed}
use Rattle.cx_client_connect.proofs.turns.hello_turn.Goals as goal

pub returns-in_ok-hello-in-Takes : goal.returns-in_ok-hello-in-Takes
returns-in_ok-hello-in-Takes c =
    let t = rw c.in-Takes.is at c.in_ok-link.ensures in
    let m = rw c.in_ok-hello-in-Takes.ensures at c.on_hello-made.ensures in
    let h = rw c.new-in-Takes.ensures at c.handles.ensures in
    λ (session : Option HeldSession).
    plain_turn abridged_call_link changed (arrived (caller c.args.mon_client.now session) c.args.at.now (wired c.args.at.now.number c.args.link (AwaitsHello c.args.called)))
    c.args.at.now.number c.args.link c.in-Takes.link (AwaitsHello c.args.called) c.in-Takes.frame
    (λ (a : CallArrival) (f : Frame). on_hello a c.args.called (due 1 hello_layout.form f)) c.on_hello-made.result c.handles.result t (m session) h
