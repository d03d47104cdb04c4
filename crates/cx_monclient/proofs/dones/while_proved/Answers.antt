use Rattle.cx_link.specs.Wires.{wired}
use Rattle.cx_node.specs.cx_rules.specs.Abridged.{abridged_mon_client_link}
use Rattle.cx_node.specs.cx_rules.specs.Connector.{MonClientArrival, AwaitsDone, on_done, while_proved}
use Rattle.cx_node.proofs.steps.MadeRows.{makes_as}
use Rattle.cx_monclient.specs.connector.Rows.{arrived, changed, denied}
use Rattle.cx_monclient.proofs.connector.Choices.{proof_denied, proof_done}
use Rattle.cx_monclient.proofs.dones.while_proved.Goals as goal

pub returns-in_ok-read : goal.returns-in_ok-read
returns-in_ok-read c =
    let a : MonClientArrival = arrived c.args.mon_client.now c.args.at.now (wired c.args.at.now.number c.args.link AwaitsDone) in
    makes_as abridged_mon_client_link changed a (denied a c.in_ok-read.read) (while_proved a c.args.frame.now) c.on_bad_method.result
    (proof_denied a c.args.frame.now c.in_ok-read.read c.if-frame-eq-AUTH_BAD_METHOD.true c.in_ok-read.ensures) (c.on_bad_method.ensures c.args.link AwaitsDone)

pub returns-in_ok-read-2 : goal.returns-in_ok-read-2
returns-in_ok-read-2 c =
    let a : MonClientArrival = arrived c.args.mon_client.now c.args.at.now (wired c.args.at.now.number c.args.link AwaitsDone) in
    makes_as abridged_mon_client_link changed a (on_done a c.in_ok-read-2.read) (while_proved a c.args.frame.now) c.on_done.result
    (proof_done a c.args.frame.now c.in_ok-read-2.read c.if-frame-eq-AUTH_BAD_METHOD.false c.in_ok-read-2.ensures) c.on_done.ensures
