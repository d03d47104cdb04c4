use Rattle.std.proofs.Common.{◌∙◌, arith}
use Rattle.cx_secure.proofs.Lists.{all_taken}
use Rattle.cx_secure.proofs.opening.inline_of.Goals as goal

pub returns : goal.returns
returns c = c.in-Some.ensures.cases.0 ∙ all_taken 48 c.split_at.result.1.now (omega (arith, c.split_at.ensures.back_len, c.told-plain)) ∙ c.split_at.ensures.back
