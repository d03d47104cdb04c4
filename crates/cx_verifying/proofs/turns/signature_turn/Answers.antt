use Rattle.cx_rules_session.specs.cx_desk.specs.Handlers.{Handlers}
use Rattle.cx_node.proofs.steps.Signing.{signature_turn}
use Rattle.cx_verifying.specs.Rows.{arrived, unchanged}
use Rattle.cx_verifying.specs.Stages.{awaiting_signature}
use Rattle.cx_verifying.proofs.turns.signature_turn.Goals as goal

pub returns-in_ok-found-in-Takes : goal.returns-in_ok-found-in-Takes
returns-in_ok-found-in-Takes c =
    let t = rw (c.in-Takes.is, c.new-opened.ensures) at c.in_ok-signing.ensures in
    let m = rw c.in_ok-found-in-Takes.ensures at c.on_signature-made.ensures in
    λ (handlers : Handlers).
    signature_turn unchanged (arrived c.args.mon_client.now c.args.at.now (awaiting_signature c.args.at.now.number c.args.signing c.args.owner)) c.args.at.now.number
    c.args.signing c.in-Takes.signing c.args.owner c.in-Takes.frame c.turn.new.seals c.on_signature-made.result c.handles.result t m c.handles.ensures
