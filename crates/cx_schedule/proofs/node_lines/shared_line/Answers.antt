use Rattle.std.proofs.Common.{map}
use Rattle.cx_schedule.proofs.NodeLaws.{is_one}
use Rattle.cx_schedule.proofs.node_lines.shared_line.Goals as goal

pub of_schedule-requires : goal.of_schedule-requires
of_schedule-requires c = is_one c.args.known.now c.args.form c.in_ok-line.line (map (λ w. w.now) c.args.words.now) c.requires c.in_ok-line.ensures.ok
