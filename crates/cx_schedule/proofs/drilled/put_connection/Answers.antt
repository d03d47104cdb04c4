use Rattle.std.specs.Prelude.{replicate}
use Rattle.cx_schedule.specs.Drills.{connect_line, send_line}
use Rattle.cx_schedule.proofs.DrillTexts.{line_then}
use Rattle.cx_schedule.proofs.drilled.put_connection.Goals as goal

pub returns : goal.returns
returns c =
    line_then c.put_sends.result (connect_line c.args.i) (replicate c.args.count (send_line c.args.i)) c.args.into.now c.put_connect.new.into c.put_sends.new.into c.in_ok-put_connect.ensures c.put_sends.ensures
