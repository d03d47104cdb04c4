use Rattle.std.proofs.Common.{◌∙◌, sym}
use Rattle.cx_link.specs.Wires.{secured_link}
use Rattle.cx_node.specs.cx_rules.specs.Abridged.{abridged_mon_client_link}
use Rattle.cx_node.specs.cx_rules.specs.Connector.{MonClientArrival, Open}
use Rattle.cx_node.specs.cx_rules.specs.Requests.{asks_rotating, opens_to}
use Rattle.cx_node.proofs.steps.MadeRows.{makes_as}
use Rattle.cx_node.specs.steps.Stages.{keys_alone}
use Rattle.cx_monclient.specs.connector.Rows.{arrived, changed}
use Rattle.cx_monclient.proofs.connector.Choices.{daemon_asks}
use Rattle.cx_monclient.proofs.idents.opens_to.Goals as goal

pub returns-then-is_daemon : goal.returns-then-is_daemon
returns-then-is_daemon c = λ stage.
    let a : MonClientArrival = arrived c.args.mon_client.now c.args.at.now (secured_link c.args.at.now.number c.args.link.ahead stage) in
    makes_as abridged_mon_client_link changed a (asks_rotating Open a (keys_alone c.args.link.keys) c.args.requests) (opens_to Open a (keys_alone c.args.link.keys) c.args.requests)
    c.asks_rotating.result (daemon_asks a (keys_alone c.args.link.keys) c.args.requests (sym c.is_daemon.ensures ∙ c.if-is_daemon.true)) (c.asks_rotating.ensures stage)
