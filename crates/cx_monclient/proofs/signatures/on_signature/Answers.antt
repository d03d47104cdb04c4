use Rattle.std.proofs.Common.{ap, ◌∙◌}
use Rattle.cx_link.specs.Sending.{secured_of}
use Rattle.cx_node.specs.cx_rules.specs.Abridged.{abridged_mon_client_link}
use Rattle.cx_node.specs.cx_rules.specs.Connector.{MonClientArrival, MonClientRow, AwaitsSignature, identifies, on_signature}
use Rattle.cx_node.specs.cx_rules.specs.Secured.{Secured, signature_found}
use Rattle.cx_node.proofs.steps.MadeRows.{makes_as, signature_right}
use Rattle.cx_node.specs.steps.Making.{row_due}
use Rattle.cx_monclient.specs.connector.Rows.{arrived, changed, identified}
use Rattle.cx_monclient.specs.connector.Stages.{awaiting_signature}
use Rattle.cx_monclient.proofs.connector.Behind.{identified-is}
use Rattle.cx_monclient.proofs.signatures.on_signature.Goals as goal

pub returns : goal.returns
returns c =
    let a : MonClientArrival = arrived c.args.mon_client.now c.args.at.now (awaiting_signature c.args.at.now.number c.args.signing c.args.login) in
    let s : Secured = secured_of c.args.signing in
    let due : MonClientRow → MonClientRow = λ row. row_due abridged_mon_client_link row in
    let m = rw c.in_ok-found.ensures.1 at (c.identifies.ensures (AwaitsSignature s c.args.login)) in
    makes_as abridged_mon_client_link changed a (identified a c.args.signing.link.keys (signature_found s) c.args.login) (on_signature a s c.args.login c.args.read)
    c.identifies.result
    (ap due (signature_right abridged_mon_client_link changed a s c.args.read (identifies a s c.args.login) c.in_ok-found.ensures.0) ∙ identified-is a s c.args.login) m
