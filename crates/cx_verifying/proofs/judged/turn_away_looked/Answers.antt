-- The row of an authorizer that doesn't pass stands behind what opened of it.
use Rattle.std.proofs.Common.{[], ap, refl, sym}
use Rattle.cx_link.specs.Wires.{Wire, wired}
use Rattle.cx_node.specs.cx_rules.specs.Abridged.{abridged_link}
use Rattle.cx_node.specs.cx_rules.specs.Rows.{with_opened}
use Rattle.cx_rules_session.specs.IncomingLinks.{IncomingArrival, IncomingRow, IncomingStage, looked_entry, turns_away}
use Rattle.cx_rules_session.specs.Kinds.{entered_before}
use Rattle.cx_node.proofs.steps.MadeRows.{makes_as}
use Rattle.cx_node.specs.steps.Making.{row_due}
use Rattle.cx_verifying.specs.Rows.{arrived, unchanged}
use Rattle.cx_verifying.proofs.Passing.{away_behind}
use Rattle.cx_verifying.proofs.judged.turn_away_looked.Goals as goal

pub returns-clause-row : goal.returns-clause-row
returns-clause-row c =
    λ (wire : Wire) (stage : IncomingStage).
    let a : IncomingArrival = arrived c.args.mon_client.now c.args.at.now (wired c.args.at.now.number wire stage) in
    let entered : IncomingRow → IncomingRow = λ row. entered_before (looked_entry a) row in
    makes_as abridged_link unchanged a (entered (with_opened c.args.opened (turns_away a [] c.args.why))) (entered (turns_away a c.args.opened c.args.why)) c.looked.result
    (ap (λ (row : IncomingRow). row_due abridged_link (entered row)) (sym (away_behind a c.args.opened c.args.why)))
    (c.looked.ensures.row (wired c.args.at.now.number wire stage) (turns_away a [] c.args.why) refl (c.turn_away-made.ensures.row wire stage))

pub returns-clause-wanting : goal.returns-clause-wanting
returns-clause-wanting c = λ wanting. c.looked.ensures.wanting (c.turn_away-made.ensures.wanting wanting)
