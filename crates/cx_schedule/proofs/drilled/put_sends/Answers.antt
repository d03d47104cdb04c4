use Rattle.cx_schedule.specs.Drills.{send_line}
use Rattle.cx_schedule.proofs.DrillTexts.{sent_more}
use Rattle.cx_schedule.proofs.drilled.put_sends.Goals as goal

pub sends-preserved : goal.sends-preserved
sends-preserved c = sent_more (send_line c.args.i) c.args.count c.sends._sent _ _ _ c.sends-test.true c.sends.invariant c.in_ok-put_send.ensures
