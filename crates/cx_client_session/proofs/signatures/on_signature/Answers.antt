use Rattle.std.proofs.Common.{ap, ◌∙◌}
use Rattle.std.specs.Option.{option_copied}
use Rattle.cx_link.specs.Sending.{secured_of}
use Rattle.cx_node.specs.cx_rules.specs.Secured.{Secured, signature_found}
use Rattle.cx_client_connect.specs.cx_rules_session.specs.Forgets.{abridged_call_link}
use Rattle.cx_client_connect.specs.cx_rules_session.specs.Presenter.{AwaitsSignature, CallArrival, CallRow, on_signature, on_signed}
use Rattle.cx_node.proofs.steps.MadeRows.{makes_as, signature_right}
use Rattle.cx_node.specs.steps.Making.{row_due}
use Rattle.cx_client_connect.specs.presenting.Rows.{arrived, caller, changed}
use Rattle.cx_client_connect.specs.presenting.Stages.{awaiting_signature}
use Rattle.cx_client_session.specs.calling.Sent.{signed_on}
use Rattle.cx_client_session.proofs.calling.Behind.{signed-is}
use Rattle.cx_client_session.proofs.signatures.on_signature.Goals as goal

pub returns : goal.returns
returns c =
    let a : CallArrival = arrived (caller c.args.mon_client.now (option_copied c.args.session)) c.args.at.now (awaiting_signature c.args.at.now.number c.args.signing c.args.callee) in
    let s : Secured = secured_of c.args.signing in
    let due : CallRow → CallRow = λ row. row_due abridged_call_link row in
    let m = rw c.in_ok-found.ensures.1 at (c.on_signed.ensures (AwaitsSignature s c.args.callee)) in
    makes_as abridged_call_link changed a (signed_on a c.args.signing.link.keys c.args.callee (signature_found s) (option_copied c.args.session))
    (on_signature a s c.args.callee c.args.read) c.on_signed.result
    (ap due (signature_right abridged_call_link changed a s c.args.read (on_signed a s c.args.callee (option_copied c.args.session)) c.in_ok-found.ensures.0)
    ∙ signed-is a s c.args.callee (option_copied c.args.session)) m
