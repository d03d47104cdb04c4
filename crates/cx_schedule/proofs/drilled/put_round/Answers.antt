use Rattle.std.specs.Prelude.{◌+◌, ◌*◌, ◌%◌, ◌∷◌, ◌++◌, [], replicate}
use Rattle.cx_schedule.specs.Drills.{clock_line, connect_line, cut_line, fetch_lines, login_line, send_line}
use Rattle.cx_schedule.proofs.DrillTexts.{lines_then}
use Rattle.cx_schedule.proofs.drilled.put_round.Goals as goal

pub returns : goal.returns
returns c =
    lines_then c.put_session.result (clock_line c.args.i ∷ fetch_lines c.args.i) ((login_line c.args.i ∷ connect_line c.args.i ∷ replicate ((c.args.i + c.args.seed) % 4) (send_line c.args.i)) ++ (cut_line (2 * c.args.i) ∷ cut_line (2 * c.args.i + 1) ∷ [])) c.args.into.now c.put_begin.new.into c.put_session.new.into c.in_ok-put_begin.ensures c.put_session.ensures
