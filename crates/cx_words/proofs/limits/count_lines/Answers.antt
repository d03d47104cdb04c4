use Rattle.cx_words.proofs.Counted.{counted_all}
use Rattle.cx_words.proofs.limits.count_lines.Goals as goal

pub returns : goal.returns
returns c = counted_all _ _ _ c.lines.invariant.counted c.in_default.ensures.cut
