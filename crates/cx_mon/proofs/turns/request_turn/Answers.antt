use Rattle.cx_frame.specs.declared.frame.Frame.{Frame}
use Rattle.cx_control.specs.Auth.{auth_request_layout}
use Rattle.cx_link.specs.Wires.{wired}
use Rattle.cx_rules.specs.Acceptor.{AwaitsRequest, on_auth_request}
use Rattle.cx_rules.specs.MonitorRule.{on_request_payload}
use Rattle.cx_rules.specs.Abridged.{abridged_link}
use Rattle.cx_rules.specs.Monitor.{MonitorArrival}
use Rattle.cx_rules.specs.Payloads.{due}
use Rattle.cx_node.proofs.steps.Handling.{plain_turn}
use Rattle.cx_mon.specs.acceptor.Rows.{arrived, with_keys}
use Rattle.cx_mon.proofs.turns.request_turn.Goals as goal

pub returns-in_ok-request-in-Takes : goal.returns-in_ok-request-in-Takes
returns-in_ok-request-in-Takes c =
    let t = rw c.in-Takes.is at c.in_ok-link.ensures in
    let m = rw c.in_ok-request-in-Takes.ensures at c.on_auth_request-made.ensures in
    plain_turn abridged_link with_keys (arrived c.args.own.now c.args.at.now (wired c.args.at.now.number c.args.link AwaitsRequest)) c.args.at.now.number c.args.link c.in-Takes.link (AwaitsRequest)
    c.in-Takes.frame (λ (a : MonitorArrival) (f : Frame). on_auth_request on_request_payload a (due 2 auth_request_layout.form f)) c.on_auth_request-made.result c.handles.result t m (rw c.new-in-Takes.ensures at c.handles.ensures)
