use Rattle.cx_schedule.specs.NodeFiles.{bad_anywhere, itself, SpellsAnywhere}
use Rattle.cx_schedule.proofs.Grammars.{bad_here, reads_more, read_all}
use Rattle.cx_schedule.proofs.NodeLaws.{scripts}
use Rattle.cx_schedule.proofs.node_script.read_script.Goals as goal

pub returns-in-Err-Fault-clause-bad : goal.returns-in-Err-Fault-clause-bad
returns-in-Err-Fault-clause-bad c =
    let names = c.args.names.now in
    let refused = rw c.in-Err-Fault.field-0-is at c.in-Err-Fault.ensures.err in
    rw c.in-Err-Fault.field-0-is (c.requires, bad_here (SpellsAnywhere names) itself (bad_anywhere names) (scripts names) _ _ _ _ _ _ c.in-Err-Fault.bad c.lines.invariant c.in-Some.ensures.cut refused.0 refused.1)

pub lines-preserved : goal.lines-preserved
lines-preserved c =
    let names = c.args.names.now in
    reads_more (SpellsAnywhere names) itself (bad_anywhere names) (scripts names) _ _ _ _ _ _ _ c.lines.invariant c.in-Some.ensures.cut (c.in-Ok.ensures.ok c.lines.number)

pub returns-clause-found : goal.returns-clause-found
returns-clause-found c =
    let names = c.args.names.now in
    read_all (SpellsAnywhere names) itself (bad_anywhere names) (scripts names) _ _ _ _ c.lines.invariant c.in_default.ensures.cut
