use Rattle.std.proofs.Common.{◌∙◌, [], ap, sym}
use Rattle.cx_node.specs.cx_rules.specs.Abridged.{abridged_mon_client_link}
use Rattle.cx_node.specs.cx_rules.specs.Connector.{MonClientArrival, MonClientRow, Open}
use Rattle.cx_node.specs.cx_rules.specs.Requests.{on_open, on_reply}
use Rattle.cx_node.specs.cx_rules.specs.Rows.{secure_sent}
use Rattle.cx_node.proofs.steps.Keeping.{keepalive-row}
use Rattle.cx_node.proofs.steps.MadeRows.{makes_as}
use Rattle.cx_node.specs.steps.Making.{row_due}
use Rattle.cx_node.specs.steps.Stages.{keys_alone}
use Rattle.cx_node.specs.steps.Upkeep.{upkept}
use Rattle.cx_monclient.specs.connector.Rows.{arrived, changed}
use Rattle.cx_monclient.specs.connector.Stages.{open_link}
use Rattle.cx_monclient.proofs.replies.on_open.Goals as goal

pub returns-then-is_keepalive : goal.returns-then-is_keepalive
returns-then-is_keepalive c =
    let a : MonClientArrival = arrived c.args.mon_client.now c.args.at.now (open_link c.args.at.now.number c.args.link c.args.requests) in
    let due : MonClientRow → MonClientRow = λ row. row_due abridged_mon_client_link row in
    makes_as abridged_mon_client_link changed a (secure_sent a (keys_alone c.args.link.keys) (λ behind. Open behind c.args.requests) [] (upkept c.args.link.keys c.args.frame.now))
    (on_open Open a (keys_alone c.args.link.keys) c.args.requests c.args.frame.now) c.stays_open.result
    (ap due (keepalive-row a c.args.link.keys (λ behind. Open behind c.args.requests) (on_reply Open a (keys_alone c.args.link.keys) c.args.requests) c.args.frame.now
    (sym c.is_keepalive.ensures ∙ c.if-is_keepalive.true)))
    c.stays_open.ensures
