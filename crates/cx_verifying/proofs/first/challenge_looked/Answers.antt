-- The challenge stands behind what opened of the authorizer.
use Rattle.std.proofs.Common.{[], ap, refl, sym}
use Rattle.cx_authorize.specs.Passing.{IsChallenged}
use Rattle.cx_authorize.specs.declared.judging.Shown.{Shown}
use Rattle.cx_rules_session.specs.cx_dice.specs.Draws.{challenge_of}
use Rattle.cx_link.specs.Wires.{wired}
use Rattle.cx_node.specs.cx_rules.specs.Abridged.{abridged_link}
use Rattle.cx_node.specs.cx_rules.specs.Acceptor.{AwaitsRequest}
use Rattle.cx_node.specs.cx_rules.specs.Rows.{with_opened}
use Rattle.cx_rules_session.specs.IncomingLinks.{IncomingArrival, IncomingRow, challenges, looked_entry}
use Rattle.cx_rules_session.specs.Kinds.{entered_before}
use Rattle.cx_node.proofs.steps.MadeRows.{makes_as}
use Rattle.cx_node.specs.steps.Making.{row_due}
use Rattle.cx_verifying.specs.Rows.{arrived, unchanged}
use Rattle.cx_verifying.proofs.Passing.{challenges_behind}
use Rattle.cx_verifying.proofs.first.challenge_looked.Goals as goal

pub returns : goal.returns
returns c =
    λ (shown : Shown) (passes : IsChallenged c.args.mon_client.now.name.kind (challenge_of c.args.at.now.draw.now.bytes) shown c.args.passed).
    let a : IncomingArrival = arrived c.args.mon_client.now c.args.at.now (wired c.args.at.now.number c.args.link AwaitsRequest) in
    let entered : IncomingRow → IncomingRow = λ row. entered_before (looked_entry a) row in
    makes_as abridged_link unchanged a (entered (with_opened c.args.opened (challenges a [] shown.ticket))) (entered (challenges a c.args.opened shown.ticket)) c.looked.result
    (ap (λ (row : IncomingRow). row_due abridged_link (entered row)) (sym (challenges_behind a c.args.opened shown.ticket)))
    (c.looked.ensures.row (wired c.args.at.now.number c.args.link AwaitsRequest) (challenges a [] shown.ticket) refl (c.challenge-made.ensures shown passes))
