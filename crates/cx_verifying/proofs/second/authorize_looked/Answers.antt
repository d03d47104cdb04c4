-- AUTH_DONE stands behind what opened of the authorizer.
use Rattle.std.proofs.Common.{[], ap, refl, sym}
use Rattle.cx_authorize.specs.Daemon.{Awaited}
use Rattle.cx_authorize.specs.Passing.{IsAdmitted}
use Rattle.cx_authorize.specs.declared.judging.Shown.{Shown}
use Rattle.cx_rules_session.specs.cx_dice.specs.Draws.{connection_of}
use Rattle.cx_node.specs.cx_rules.specs.Abridged.{abridged_link}
use Rattle.cx_node.specs.cx_rules.specs.Rows.{with_opened}
use Rattle.cx_rules_session.specs.IncomingLinks.{IncomingArrival, IncomingRow, authorizes, looked_entry}
use Rattle.cx_rules_session.specs.Kinds.{entered_before}
use Rattle.cx_node.proofs.steps.MadeRows.{makes_as}
use Rattle.cx_node.specs.steps.Making.{row_due}
use Rattle.cx_verifying.specs.Rows.{arrived, unchanged}
use Rattle.cx_verifying.specs.Stages.{awaiting_proof}
use Rattle.cx_verifying.proofs.Passing.{authorizes_behind}
use Rattle.cx_verifying.proofs.second.authorize_looked.Goals as goal

pub returns : goal.returns
returns c =
    λ (awaited : Awaited) (shown : Shown) (passes : IsAdmitted c.args.mon_client.now.view c.args.at.now.reading (connection_of c.args.at.now.draw.now.bytes) shown c.args.passed).
    let a : IncomingArrival = arrived c.args.mon_client.now c.args.at.now (awaiting_proof c.args.at.now.number c.args.link awaited) in
    let entered : IncomingRow → IncomingRow = λ row. entered_before (looked_entry a) row in
    makes_as abridged_link unchanged a (entered (with_opened c.args.opened (authorizes a [] shown.ticket shown.authorize.nonce)))
    (entered (authorizes a c.args.opened shown.ticket shown.authorize.nonce)) c.looked.result
    (ap (λ (row : IncomingRow). row_due abridged_link (entered row)) (sym (authorizes_behind a c.args.opened shown.ticket shown.authorize.nonce)))
    (c.looked.ensures.row (awaiting_proof c.args.at.now.number c.args.link awaited) (authorizes a [] shown.ticket shown.authorize.nonce) refl
    (c.authorize-made.ensures awaited shown passes))
