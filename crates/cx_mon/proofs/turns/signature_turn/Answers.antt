use Rattle.std.proofs.Common.{ℕ, ap, subst}
use Rattle.cx_control.specs.Auth.{auth_signature_layout}
use Rattle.cx_frame.specs.declared.frame.Frame.{Frame}
use Rattle.cx_link.specs.Sending.{secured_of}
use Rattle.cx_link.specs.declared.links.Signing.{Signing}
use Rattle.cx_rules.specs.Abridged.{abridged_link}
use Rattle.cx_rules.specs.Acceptor.{AwaitsSignature, on_signature}
use Rattle.cx_rules.specs.Fronts.{keys_behind}
use Rattle.cx_rules.specs.Monitor.{MonitorArrival}
use Rattle.cx_rules.specs.Payloads.{due}
use Rattle.cx_rules.specs.Secured.{Keys, Secured, under}
use Rattle.cx_node.proofs.steps.Handling.{secure_turn}
use Rattle.cx_mon.specs.acceptor.Rows.{Makes, arrived, with_keys}
use Rattle.cx_mon.specs.acceptor.Stages.{awaiting_signature}
use Rattle.cx_mon.proofs.acceptor.Behind.{signature-same}
use Rattle.cx_mon.proofs.turns.signature_turn.Goals as goal

pub returns-in_ok-found-in-Takes : goal.returns-in_ok-found-in-Takes
returns-in_ok-found-in-Takes c =
    let t = rw (c.in-Takes.is, c.new-opened.ensures) at c.in_ok-signing.ensures in
    let MadeBy : Secured → Type 0 = λ s. Makes c.args.own.now c.args.at.now (awaiting_signature c.args.at.now.number c.in-Takes.signing c.args.bearer)
    (λ (a : MonitorArrival). on_signature a s c.args.bearer (due 7 auth_signature_layout.form c.in-Takes.frame)) c.on_signature-made.result in
    let m = subst MadeBy (ap (λ (s : Signing). secured_of s) t.1) (rw c.in_ok-found-in-Takes.ensures at c.on_signature-made.ensures) in
    secure_turn abridged_link with_keys (arrived c.args.own.now c.args.at.now (awaiting_signature c.args.at.now.number c.args.signing c.args.bearer)) c.args.at.now.number
    c.args.signing.link c.in-Takes.signing.link (AwaitsSignature (secured_of c.args.signing) c.args.bearer) (AwaitsSignature (secured_of c.in-Takes.signing) c.args.bearer)
    c.in-Takes.frame c.turn.new.seals
    (λ (a : MonitorArrival) (f : Frame) (keys : Keys). on_signature a (under (secured_of c.args.signing) keys) c.args.bearer (due 7 auth_signature_layout.form f))
    c.on_signature-made.result c.handles.result t.0
    (λ (n : ℕ). signature-same (record {
      a = arrived c.args.own.now c.args.at.now (awaiting_signature c.args.at.now.number c.args.signing c.args.bearer);
      number = c.args.at.now.number;
      came = c.args.signing.link.ahead;
      n = n;
      stage = AwaitsSignature (secured_of c.args.signing) c.args.bearer;
      next = AwaitsSignature (secured_of c.in-Takes.signing) c.args.bearer;
    }) (under (secured_of c.args.signing) (keys_behind c.args.signing.link.keys c.in-Takes.frame)) c.args.bearer (due 7 auth_signature_layout.form c.in-Takes.frame))
    m c.handles.ensures
