use Rattle.cx_schedule.specs.Files.{SpellsBehind, bad_behind, numbered}
use Rattle.cx_schedule.proofs.Grammars.{bad_here, reads_more, read_all}
use Rattle.cx_schedule.proofs.Whole.{schedules}
use Rattle.cx_schedule.proofs.script.read_lines.Goals as goal

pub returns-in-Err-Fault-clause-bad : goal.returns-in-Err-Fault-clause-bad
returns-in-Err-Fault-clause-bad c =
    let refused = rw c.in-Err-Fault.field-0-is at c.in-Err-Fault.ensures.err in
    rw c.in-Err-Fault.field-0-is (c.requires, bad_here SpellsBehind numbered bad_behind schedules _ _ _ _ _ _ c.in-Err-Fault.bad c.lines.invariant.reads c.in-Some.ensures.cut refused.0 refused.1)

pub lines-preserved : goal.lines-preserved
lines-preserved c = record {
  reads = reads_more SpellsBehind numbered bad_behind schedules _ _ _ _ _ _ _ c.lines.invariant.reads c.in-Some.ensures.cut c.in-Ok.ensures.ok;
  known = c.in-Ok.ensures.known;
}

pub returns-clause-found : goal.returns-clause-found
returns-clause-found c = read_all SpellsBehind numbered bad_behind schedules _ _ _ _ c.lines.invariant.reads c.in_default.ensures.cut
