-- The row of what was made stands behind what opened, and behind the entry that the daemon looked.
use Rattle.std.proofs.Common.{◌≡◌}
use Rattle.cx_node.specs.cx_rules.specs.Abridged.{abridged_link}
use Rattle.cx_node.specs.cx_rules.specs.Rows.{with_opened}
use Rattle.cx_rules_session.specs.IncomingLinks.{IncomingArrival, IncomingRow, looked_entry}
use Rattle.cx_node.proofs.steps.MadeRows.{behind_due, entered_as}
use Rattle.cx_verifying.specs.Rows.{MakesRow, arrived, unchanged}
use Rattle.cx_verifying.specs.Stages.{IncomingLink}
use Rattle.cx_verifying.proofs.judged.looked.Goals as goal

pub returns-clause-row : goal.returns-clause-row
returns-clause-row c =
    λ (link : IncomingLink) (due : IncomingRow) (number : link.number ≡ c.args.at.now.number) (made : MakesRow (arrived c.args.mon_client.now c.args.at.now link) due c.args.made).
    let a : IncomingArrival = arrived c.args.mon_client.now c.args.at.now link in
    let is = rw (c.in_ok-me.ensures, ← number) at c.in_ok-row.ensures in
    let whole = behind_due abridged_link unchanged a c.args.opened due c.args.made c.in_ok-row.row made is in
    rw (c.in_ok-entered.ensures, c.in_ok-first.ensures link number)
    (entered_as abridged_link unchanged a (looked_entry a) (with_opened c.args.opened due) c.in_ok-row.row whole)

pub returns-clause-wanting : goal.returns-clause-wanting
returns-clause-wanting c = λ wanting. absurd (rw wanting at c.in_ok-row.ensures)
