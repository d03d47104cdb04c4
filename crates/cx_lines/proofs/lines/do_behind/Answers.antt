use Rattle.std.proofs.Common.{map}
use Rattle.cx_lines.proofs.Behind.{command_behind}
use Rattle.cx_lines.proofs.lines.do_behind.Goals as goal

pub returns : goal.returns
returns c =
    command_behind c.args.known.now c.in-Some.form c.args.first.now (map (λ w. w.now) c.args.rest.now) c.command_of.result c.in-Some.ensures.read c.command_of.ensures
