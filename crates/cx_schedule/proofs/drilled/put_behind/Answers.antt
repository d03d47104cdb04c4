use Rattle.std.specs.Prelude.{codes}
use Rattle.std.specs.List.{flat_map}
use Rattle.cx_schedule.specs.Drills.{clients_to, round_lines}
use Rattle.cx_schedule.proofs.DrillTexts.{line_then}
use Rattle.cx_schedule.proofs.drilled.put_behind.Goals as goal

pub returns : goal.returns
returns c =
    line_then c.put_rounds.result (codes "entity osd.0") (flat_map (round_lines c.args.seed) (clients_to c.args.n)) c.args.into.now c.put_daemon.new.into c.put_rounds.new.into c.in_ok-put_daemon.ensures c.put_rounds.ensures
