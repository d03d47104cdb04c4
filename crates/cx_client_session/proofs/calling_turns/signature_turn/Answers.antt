use Rattle.std.proofs.Common.{ℕ}
use Rattle.std.specs.Option.{option_copied}
use Rattle.cx_control.specs.Auth.{auth_signature_layout}
use Rattle.cx_frame.specs.declared.frame.Frame.{Frame}
use Rattle.cx_link.specs.Sending.{secured_of}
use Rattle.cx_node.specs.cx_rules.specs.Payloads.{due}
use Rattle.cx_node.specs.cx_rules.specs.Secured.{Secured}
use Rattle.cx_client_connect.specs.cx_rules_session.specs.Forgets.{abridged_call_link}
use Rattle.cx_client_connect.specs.cx_rules_session.specs.Presenter.{AwaitsSignature, CallArrival, on_signature}
use Rattle.cx_node.proofs.steps.Signing.{signing_turn}
use Rattle.cx_client_connect.specs.presenting.Rows.{arrived, caller, changed}
use Rattle.cx_client_connect.specs.presenting.Stages.{awaiting_signature}
use Rattle.cx_client_session.proofs.calling.Behind.{signature-same}
use Rattle.cx_client_session.proofs.calling_turns.signature_turn.Goals as goal

pub returns-in_ok-found-in-Takes : goal.returns-in_ok-found-in-Takes
returns-in_ok-found-in-Takes c =
    let t = rw (c.in-Takes.is, c.new-opened.ensures) at c.in_ok-signing.ensures in
    let m = rw c.in_ok-found-in-Takes.ensures at c.on_signature-made.ensures in
    let a : CallArrival = arrived (caller c.args.mon_client.now (option_copied c.args.session)) c.args.at.now (awaiting_signature c.args.at.now.number c.args.signing c.args.callee) in
    signing_turn abridged_call_link changed a c.args.at.now.number
    c.args.signing c.in-Takes.signing (AwaitsSignature (secured_of c.args.signing) c.args.callee) (AwaitsSignature (secured_of c.in-Takes.signing) c.args.callee)
    c.in-Takes.frame c.turn.new.seals (λ (b : CallArrival) (f : Frame) (s : Secured). on_signature b s c.args.callee (due 7 auth_signature_layout.form f))
    c.on_signature-made.result c.handles.result t
    (λ (n : ℕ) (s : Secured). signature-same (record {
      a = a;
      number = c.args.at.now.number;
      came = c.args.signing.link.ahead;
      n = n;
      stage = AwaitsSignature (secured_of c.args.signing) c.args.callee;
      next = AwaitsSignature (secured_of c.in-Takes.signing) c.args.callee;
    }) s c.args.callee (due 7 auth_signature_layout.form c.in-Takes.frame))
    m c.handles.ensures
