use Rattle.cx_control.specs.Hello.{hello_layout}
use Rattle.cx_rules_session.specs.cx_desk.specs.Handlers.{Handlers}
use Rattle.cx_rules_session.specs.cx_frame.specs.declared.frame.Frame.{Frame}
use Rattle.cx_link.specs.Wires.{wired}
use Rattle.cx_node.specs.cx_rules.specs.Abridged.{abridged_link}
use Rattle.cx_node.specs.cx_rules.specs.Acceptor.{AwaitsHello, on_hello}
use Rattle.cx_rules_session.specs.IncomingLinks.{IncomingArrival}
use Rattle.cx_node.specs.cx_rules.specs.Payloads.{due}
use Rattle.cx_node.proofs.steps.Handling.{plain_turn}
use Rattle.cx_verifying.specs.Rows.{arrived, unchanged}
use Rattle.cx_verifying.proofs.turns.hello_turn.Goals as goal

pub returns-in_ok-hello-in-Takes : goal.returns-in_ok-hello-in-Takes
returns-in_ok-hello-in-Takes c =
    let t = rw c.in-Takes.is at c.in_ok-link.ensures in
    let m = rw c.in_ok-hello-in-Takes.ensures at c.on_hello-made.ensures in
    let h = rw c.new-in-Takes.ensures at c.handles.ensures in
    λ (handlers : Handlers).
    plain_turn abridged_link unchanged (arrived c.args.mon_client.now c.args.at.now (wired c.args.at.now.number c.args.link AwaitsHello)) c.args.at.now.number
    c.args.link c.in-Takes.link AwaitsHello c.in-Takes.frame (λ (a : IncomingArrival) (f : Frame). on_hello a (due 1 hello_layout.form f))
    c.on_hello-made.result c.handles.result t m h
