use Rattle.cx_control.specs.Auth.{auth_request_more_layout}
use Rattle.cx_link.specs.Wires.{wired}
use Rattle.cx_node.specs.cx_rules.specs.Abridged.{abridged_mon_client_link}
use Rattle.cx_node.specs.cx_rules.specs.Connector.{MonClientArrival, AwaitsChallenge, on_challenge, proves}
use Rattle.cx_node.specs.cx_rules.specs.Payloads.{control, whole}
use Rattle.cx_node.specs.cx_rules.specs.Secured.{plain_frame}
use Rattle.cx_login.specs.cx_wire.specs.Logins.{server_challenge_layout}
use Rattle.cx_node.proofs.steps.MadeRows.{makes_as}
use Rattle.cx_monclient.specs.connector.Rows.{arrived, changed}
use Rattle.cx_monclient.proofs.connector.Choices.{challenge_answered}
use Rattle.cx_monclient.proofs.challenges.on_challenge.Goals as goal

pub returns : goal.returns
returns c =
    let a : MonClientArrival = arrived c.args.mon_client.now c.args.at.now (wired c.args.at.now.number c.args.link (AwaitsChallenge c.args.asked)) in
    let k = rw (c.in_ok-answer.was, c.challenge-challenge.ensures) at c.in_ok-answered.ensures in
    makes_as abridged_mon_client_link changed a
    (proves a c.in_ok-answer.answer.server.challenge (plain_frame (control 5 auth_request_more_layout.form (record { payload = c.in_ok-answer.answer.bytes }))))
    (on_challenge a c.args.asked (whole server_challenge_layout.form c.args.payload.now)) c.proves.result
    (challenge_answered a c.args.asked (whole server_challenge_layout.form c.args.payload.now) c.in_ok-answer.answer.server c.in_ok-answer.answer.bytes k.0 k.1)
    (c.proves.ensures (AwaitsChallenge c.args.asked))
