-- The row of an authorizer is that of the verdict.
use Rattle.std.proofs.Common.{◌≡◌, ◌∙◌, List, ap}
use Rattle.cx_authorize.specs.Judging.{judged_first}
use Rattle.cx_authorize.specs.Passing.{IsChallenged}
use Rattle.cx_authorize.specs.declared.judging.Shown.{Shown}
use Rattle.cx_base.specs.Names.{Name}
use Rattle.cx_rules_session.specs.cx_dice.specs.Draws.{challenge_of}
use Rattle.cx_link.specs.Wires.{wired}
use Rattle.cx_node.specs.cx_rules.specs.Acceptor.{AwaitsRequest}
use Rattle.cx_rules_session.specs.IncomingLinks.{IncomingArrival, challenges}
use Rattle.cx_steps.specs.declared.seals.SealEntry.{SealEntry}
use Rattle.cx_verifying.specs.Rows.{arrived}
use Rattle.cx_verifying.proofs.Passing.{passed_makes, refused_makes}
use Rattle.cx_verifying.proofs.first.on_first.Goals as goal

pub returns-in-Ok : goal.returns-in-Ok
returns-in-Ok c =
    let a : IncomingArrival = arrived c.args.mon_client.now c.args.at.now (wired c.args.at.now.number c.args.link AwaitsRequest) in
    let kind : c.behind-mon_client.inside.kind ≡ c.args.mon_client.now.name.kind = ap (λ (n : Name). n.kind) (c.behind-mon_client.view_is ∙ c.name.ensures) in
    let checked = rw (c.new-first.ensures, kind, c.view-view.ensures, c.challenge-challenge.ensures, c.new-opened.ensures) at c.in-Ok.ensures in
    passed_makes a (judged_first c.args.mon_client.now.name.kind c.args.mon_client.now.view c.args.at.now.reading c.args.payload.now)
    (IsChallenged c.args.mon_client.now.name.kind (challenge_of c.args.at.now.draw.now.bytes)) c.check.new.log
    (λ (seals : List SealEntry) (shown : Shown). challenges a seals shown.ticket) c.challenge_looked.result c.in-Ok.passed checked c.challenge_looked.ensures

pub returns-in-Err : goal.returns-in-Err
returns-in-Err c =
    let a : IncomingArrival = arrived c.args.mon_client.now c.args.at.now (wired c.args.at.now.number c.args.link AwaitsRequest) in
    let kind : c.behind-mon_client.inside.kind ≡ c.args.mon_client.now.name.kind = ap (λ (n : Name). n.kind) (c.behind-mon_client.view_is ∙ c.name.ensures) in
    let checked = rw (c.new-first.ensures, kind, c.view-view.ensures, c.new-opened.ensures) at c.in-Err.ensures in
    refused_makes a (judged_first c.args.mon_client.now.name.kind c.args.mon_client.now.view c.args.at.now.reading c.args.payload.now)
    (IsChallenged c.args.mon_client.now.name.kind (challenge_of c.args.at.now.draw.now.bytes)) c.check.new.log
    (λ (seals : List SealEntry) (shown : Shown). challenges a seals shown.ticket) c.turn_away_looked.result c.in-Err.why checked
    (c.turn_away_looked.ensures.row c.args.link AwaitsRequest) c.turn_away_looked.ensures.wanting
