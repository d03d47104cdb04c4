use Rattle.cx_audit_text.proofs.lines.Wholes.{all_read, reads_more}
use Rattle.cx_audit_text.proofs.reading.said_in.Goals as goal

pub lines-preserved : goal.lines-preserved
lines-preserved c =
    rw c.counted_behind-counted.ensures
    (reads_more c.args.bytes.now c.lines.said.items c.add.new.said.items c.lines.counted c.lines.number c.lines.rest.now c.in-Some.line.now c.in-Some.after.now c.in-Ok.next
    c.lines.invariant c.in-Some.ensures.cut c.in-Some.ensures.shorter c.in-Ok.ensures.ok c.in_ok-add-in-Ok.ensures)

pub returns-clause-found : goal.returns-clause-found
returns-clause-found c =
    all_read c.args.bytes.now c.lines.said.items c.lines.counted c.lines.number c.lines.rest.now c.lines.invariant c.in_default.ensures.cut
