use Rattle.cx_control.specs.Auth.{auth_request_layout}
use Rattle.cx_rules_session.specs.cx_desk.specs.Handlers.{Handlers}
use Rattle.cx_rules_session.specs.cx_frame.specs.declared.frame.Frame.{Frame}
use Rattle.cx_link.specs.Wires.{wired}
use Rattle.cx_node.specs.cx_rules.specs.Abridged.{abridged_link}
use Rattle.cx_node.specs.cx_rules.specs.Acceptor.{AwaitsRequest, on_auth_request}
use Rattle.cx_rules_session.specs.IncomingLinks.{IncomingArrival, on_first}
use Rattle.cx_node.specs.cx_rules.specs.Payloads.{due}
use Rattle.cx_node.proofs.steps.Handling.{plain_turn}
use Rattle.cx_verifying.specs.Rows.{arrived, unchanged}
use Rattle.cx_verifying.proofs.turns.request_turn.Goals as goal

pub returns-in_ok-request-in-Takes : goal.returns-in_ok-request-in-Takes
returns-in_ok-request-in-Takes c =
    let t = rw c.in-Takes.is at c.in_ok-link.ensures in
    let m = rw c.in_ok-request-in-Takes.ensures at c.on_auth_request-made.ensures in
    let h = rw c.new-in-Takes.ensures at c.handles.ensures in
    λ (handlers : Handlers).
    plain_turn abridged_link unchanged (arrived c.args.mon_client.now c.args.at.now (wired c.args.at.now.number c.args.link AwaitsRequest)) c.args.at.now.number
    c.args.link c.in-Takes.link AwaitsRequest c.in-Takes.frame (λ (a : IncomingArrival) (f : Frame). on_auth_request on_first a (due 2 auth_request_layout.form f))
    c.on_auth_request-made.result c.handles.result t m h
