use Rattle.std.specs.Prelude.{◌+◌, ◌*◌, ◌%◌, ◌∷◌, [], replicate}
use Rattle.cx_schedule.specs.Drills.{connect_line, cut_line, login_line, send_line}
use Rattle.cx_schedule.proofs.DrillTexts.{lines_then}
use Rattle.cx_schedule.proofs.drilled.put_session.Goals as goal

pub returns : goal.returns
returns c =
    lines_then c.put_cuts.result (login_line c.args.i ∷ connect_line c.args.i ∷ replicate ((c.args.i + c.args.seed) % 4) (send_line c.args.i)) (cut_line (2 * c.args.i) ∷ cut_line (2 * c.args.i + 1) ∷ []) c.args.into.now c.put_work.new.into c.put_cuts.new.into c.in_ok-put_work.ensures c.put_cuts.ensures
