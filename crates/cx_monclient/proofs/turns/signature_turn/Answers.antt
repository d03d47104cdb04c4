use Rattle.std.proofs.Common.{ℕ}
use Rattle.cx_control.specs.Auth.{auth_signature_layout}
use Rattle.cx_frame.specs.declared.frame.Frame.{Frame}
use Rattle.cx_link.specs.Sending.{secured_of}
use Rattle.cx_node.specs.cx_rules.specs.Abridged.{abridged_mon_client_link}
use Rattle.cx_node.specs.cx_rules.specs.Connector.{MonClientArrival, AwaitsSignature, on_signature}
use Rattle.cx_node.specs.cx_rules.specs.Payloads.{due}
use Rattle.cx_node.specs.cx_rules.specs.Secured.{Secured}
use Rattle.cx_node.proofs.steps.Signing.{signing_turn}
use Rattle.cx_monclient.specs.connector.Rows.{arrived, changed}
use Rattle.cx_monclient.specs.connector.Stages.{awaiting_signature}
use Rattle.cx_monclient.proofs.connector.Behind.{signature-same}
use Rattle.cx_monclient.proofs.turns.signature_turn.Goals as goal

pub returns-in_ok-found-in-Takes : goal.returns-in_ok-found-in-Takes
returns-in_ok-found-in-Takes c =
    let t = rw (c.in-Takes.is, c.new-opened.ensures) at c.in_ok-signing.ensures in
    let m = rw c.in_ok-found-in-Takes.ensures at c.on_signature-made.ensures in
    signing_turn abridged_mon_client_link changed (arrived c.args.mon_client.now c.args.at.now (awaiting_signature c.args.at.now.number c.args.signing c.args.login)) c.args.at.now.number
    c.args.signing c.in-Takes.signing (AwaitsSignature (secured_of c.args.signing) c.args.login) (AwaitsSignature (secured_of c.in-Takes.signing) c.args.login)
    c.in-Takes.frame c.turn.new.seals (λ (a : MonClientArrival) (f : Frame) (s : Secured). on_signature a s c.args.login (due 7 auth_signature_layout.form f))
    c.on_signature-made.result c.handles.result t
    (λ (n : ℕ) (s : Secured). signature-same (record {
      a = arrived c.args.mon_client.now c.args.at.now (awaiting_signature c.args.at.now.number c.args.signing c.args.login);
      number = c.args.at.now.number;
      came = c.args.signing.link.ahead;
      n = n;
      stage = AwaitsSignature (secured_of c.args.signing) c.args.login;
      next = AwaitsSignature (secured_of c.in-Takes.signing) c.args.login;
    }) s c.args.login (due 7 auth_signature_layout.form c.in-Takes.frame))
    m c.handles.ensures
