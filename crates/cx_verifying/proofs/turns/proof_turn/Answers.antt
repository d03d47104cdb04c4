use Rattle.cx_control.specs.Auth.{auth_request_more_layout}
use Rattle.cx_rules_session.specs.cx_desk.specs.Handlers.{Handlers}
use Rattle.cx_rules_session.specs.cx_frame.specs.declared.frame.Frame.{Frame}
use Rattle.cx_link.specs.Wires.{wired}
use Rattle.cx_node.specs.cx_rules.specs.Abridged.{abridged_link}
use Rattle.cx_node.specs.cx_rules.specs.Acceptor.{AwaitsProof}
use Rattle.cx_rules_session.specs.IncomingLinks.{IncomingArrival, on_auth_request_more}
use Rattle.cx_node.specs.cx_rules.specs.Payloads.{due}
use Rattle.cx_node.proofs.steps.Handling.{plain_turn}
use Rattle.cx_verifying.specs.Rows.{arrived, unchanged}
use Rattle.cx_verifying.proofs.turns.proof_turn.Goals as goal

pub returns-in_ok-more-in-Takes : goal.returns-in_ok-more-in-Takes
returns-in_ok-more-in-Takes c =
    let t = rw c.in-Takes.is at c.in_ok-link.ensures in
    let m = rw c.in_ok-more-in-Takes.ensures at c.on_auth_request_more-made.ensures in
    let h = rw c.new-in-Takes.ensures at c.handles.ensures in
    λ (handlers : Handlers).
    plain_turn abridged_link unchanged (arrived c.args.mon_client.now c.args.at.now (wired c.args.at.now.number c.args.link (AwaitsProof c.args.awaiting))) c.args.at.now.number
    c.args.link c.in-Takes.link (AwaitsProof c.args.awaiting) c.in-Takes.frame (λ (a : IncomingArrival) (f : Frame). on_auth_request_more a c.args.awaiting (due 5 auth_request_more_layout.form f))
    c.on_auth_request_more-made.result c.handles.result t m h
