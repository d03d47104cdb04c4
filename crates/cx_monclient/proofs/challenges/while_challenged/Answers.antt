use Rattle.cx_link.specs.Wires.{wired}
use Rattle.cx_node.specs.cx_rules.specs.Abridged.{abridged_mon_client_link}
use Rattle.cx_node.specs.cx_rules.specs.Connector.{MonClientArrival, AwaitsChallenge, while_challenged}
use Rattle.cx_node.proofs.steps.MadeRows.{makes_as}
use Rattle.cx_monclient.specs.connector.Rows.{arrived, changed, denied}
use Rattle.cx_monclient.proofs.connector.Choices.{challenge_denied}
use Rattle.cx_monclient.proofs.challenges.while_challenged.Goals as goal

pub returns-in_ok-read : goal.returns-in_ok-read
returns-in_ok-read c =
    let a : MonClientArrival = arrived c.args.mon_client.now c.args.at.now (wired c.args.at.now.number c.args.link (AwaitsChallenge c.args.asked)) in
    makes_as abridged_mon_client_link changed a (denied a c.in_ok-read.read) (while_challenged a c.args.asked c.args.frame.now) c.on_bad_method.result
    (challenge_denied a c.args.asked c.args.frame.now c.in_ok-read.read c.if-frame-eq-AUTH_BAD_METHOD.true c.in_ok-read.ensures)
    (c.on_bad_method.ensures c.args.link (AwaitsChallenge c.args.asked))
