use Rattle.cx_node.specs.cx_rules.specs.Abridged.{abridged_mon_client_link}
use Rattle.cx_node.specs.cx_rules.specs.Connector.{MonClientArrival, AwaitsIdent, on_missing_features, while_identified}
use Rattle.cx_node.proofs.steps.MadeRows.{makes_as}
use Rattle.cx_node.specs.steps.Stages.{keys_alone}
use Rattle.cx_monclient.specs.connector.Rows.{arrived, changed}
use Rattle.cx_monclient.specs.connector.Stages.{awaiting_ident}
use Rattle.cx_monclient.proofs.connector.Choices.{features_missing}
use Rattle.cx_monclient.proofs.idents.while_identified.Goals as goal

pub returns-in_ok-read : goal.returns-in_ok-read
returns-in_ok-read c =
    let a : MonClientArrival = arrived c.args.mon_client.now c.args.at.now (awaiting_ident c.args.at.now.number c.args.link c.args.session) in
    makes_as abridged_mon_client_link changed a (on_missing_features a c.in_ok-read.read) (while_identified a (keys_alone c.args.link.keys) c.args.session c.args.frame.now)
    c.on_missing_features.result
    (features_missing a (keys_alone c.args.link.keys) c.args.session c.args.frame.now c.in_ok-read.read c.if-frame-eq-IDENT_MISSING_FEATURES.true c.in_ok-read.ensures)
    (c.on_missing_features.ensures c.args.link.ahead (AwaitsIdent (keys_alone c.args.link.keys) c.args.session))
