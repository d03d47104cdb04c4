use Rattle.std.proofs.Common.{◌∙◌}
use Rattle.cx_secure.proofs.Lists.{all_taken}
use Rattle.cx_secure.proofs.parts.eighty.Goals as goal

pub returns : goal.returns
returns c = c.in-Some.ensures.cases.0 ∙ all_taken 80 c.args.bytes.now c.requires
