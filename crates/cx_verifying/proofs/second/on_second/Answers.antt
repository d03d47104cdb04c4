-- The row of an authorizer is that of the verdict.
use Rattle.std.proofs.Common.{List}
use Rattle.cx_authorize.specs.Judging.{judged_second}
use Rattle.cx_authorize.specs.Passing.{IsAdmitted}
use Rattle.cx_authorize.specs.declared.judging.Shown.{Shown}
use Rattle.cx_rules_session.specs.cx_dice.specs.Draws.{connection_of}
use Rattle.cx_node.specs.cx_rules.specs.Acceptor.{AwaitsProof}
use Rattle.cx_rules_session.specs.IncomingLinks.{IncomingArrival, authorizes}
use Rattle.cx_steps.specs.declared.seals.SealEntry.{SealEntry}
use Rattle.cx_verifying.specs.Rows.{arrived}
use Rattle.cx_verifying.specs.Stages.{awaiting_proof}
use Rattle.cx_verifying.proofs.Passing.{passed_makes, refused_makes}
use Rattle.cx_verifying.proofs.second.on_second.Goals as goal

pub returns-in-Ok : goal.returns-in-Ok
returns-in-Ok c =
    let a : IncomingArrival = arrived c.args.mon_client.now c.args.at.now (awaiting_proof c.args.at.now.number c.args.link c.args.awaiting) in
    let checked = rw (c.view-view.ensures, c.connection_secret-secret.ensures, c.new-opened.ensures) at c.in-Ok.ensures in
    passed_makes a (judged_second c.args.awaiting c.args.mon_client.now.view c.args.at.now.reading c.args.payload.now)
    (IsAdmitted c.args.mon_client.now.view c.args.at.now.reading (connection_of c.args.at.now.draw.now.bytes)) c.check.new.log
    (λ (seals : List SealEntry) (shown : Shown). authorizes a seals shown.ticket shown.authorize.nonce) c.authorize_looked.result c.in-Ok.passed checked
    (c.authorize_looked.ensures c.args.awaiting)

pub returns-in-Err : goal.returns-in-Err
returns-in-Err c =
    let a : IncomingArrival = arrived c.args.mon_client.now c.args.at.now (awaiting_proof c.args.at.now.number c.args.link c.args.awaiting) in
    let checked = rw (c.view-view.ensures, c.new-opened.ensures) at c.in-Err.ensures in
    refused_makes a (judged_second c.args.awaiting c.args.mon_client.now.view c.args.at.now.reading c.args.payload.now)
    (IsAdmitted c.args.mon_client.now.view c.args.at.now.reading (connection_of c.args.at.now.draw.now.bytes)) c.check.new.log
    (λ (seals : List SealEntry) (shown : Shown). authorizes a seals shown.ticket shown.authorize.nonce) c.turn_away_looked.result c.in-Err.why checked
    (c.turn_away_looked.ensures.row c.args.link (AwaitsProof c.args.awaiting)) c.turn_away_looked.ensures.wanting
