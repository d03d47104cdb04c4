use Rattle.std.proofs.Common.{rules}
use Rattle.cx_lines.proofs.lines.line_behind.Goals as goal

pub returns-in_ok-link_step_of-in-Link : goal.returns-in_ok-link_step_of-in-Link
returns-in_ok-link_step_of-in-Link c = let found = c.link_step_of.ensures c.args.known.now in search rules
