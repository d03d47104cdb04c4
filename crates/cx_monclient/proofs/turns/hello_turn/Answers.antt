use Rattle.cx_frame.specs.declared.frame.Frame.{Frame}
use Rattle.cx_control.specs.Hello.{hello_layout}
use Rattle.cx_node.specs.cx_rules.specs.Connector.{MonClientArrival, AwaitsHello, on_hello}
use Rattle.cx_node.specs.cx_rules.specs.Payloads.{due}
use Rattle.cx_link.specs.Wires.{wired}
use Rattle.cx_node.specs.cx_rules.specs.Abridged.{abridged_mon_client_link}
use Rattle.cx_node.proofs.steps.Handling.{plain_turn}
use Rattle.cx_monclient.specs.connector.Rows.{arrived, changed}
use Rattle.cx_monclient.proofs.turns.hello_turn.Goals as goal

pub returns-in_ok-hello-in-Takes : goal.returns-in_ok-hello-in-Takes
returns-in_ok-hello-in-Takes c =
    let t = rw c.in-Takes.is at c.in_ok-link.ensures in
    let m = rw c.in_ok-hello-in-Takes.ensures at c.on_hello-made.ensures in
    plain_turn abridged_mon_client_link changed (arrived c.args.mon_client.now c.args.at.now (wired c.args.at.now.number c.args.link (AwaitsHello c.args.asked))) c.args.at.now.number
    c.args.link c.in-Takes.link (AwaitsHello c.args.asked) c.in-Takes.frame (λ (a : MonClientArrival) (f : Frame). on_hello a c.args.asked (due 1 hello_layout.form f)) c.on_hello-made.result c.handles.result t m
    (rw c.new-in-Takes.ensures at c.handles.ensures)
