use Rattle.cx_frame.specs.declared.frame.Frame.{Frame}
use Rattle.cx_control.specs.Hello.{hello_layout}
use Rattle.cx_link.specs.Wires.{wired}
use Rattle.cx_rules.specs.Acceptor.{AwaitsHello, on_hello}
use Rattle.cx_rules.specs.Abridged.{abridged_link}
use Rattle.cx_rules.specs.Monitor.{MonitorArrival}
use Rattle.cx_rules.specs.Payloads.{due}
use Rattle.cx_node.proofs.steps.Handling.{plain_turn}
use Rattle.cx_mon.specs.acceptor.Rows.{arrived, with_keys}
use Rattle.cx_mon.proofs.turns.hello_turn.Goals as goal

pub returns-in_ok-hello-in-Takes : goal.returns-in_ok-hello-in-Takes
returns-in_ok-hello-in-Takes c =
    let t = rw c.in-Takes.is at c.in_ok-link.ensures in
    let m = rw c.in_ok-hello-in-Takes.ensures at c.on_hello-made.ensures in
    plain_turn abridged_link with_keys (arrived c.args.own.now c.args.at.now (wired c.args.at.now.number c.args.link AwaitsHello)) c.args.at.now.number c.args.link c.in-Takes.link (AwaitsHello)
    c.in-Takes.frame (λ (a : MonitorArrival) (f : Frame). on_hello a (due 1 hello_layout.form f)) c.on_hello-made.result c.handles.result t m (rw c.new-in-Takes.ensures at c.handles.ensures)
