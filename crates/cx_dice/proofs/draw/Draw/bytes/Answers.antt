-- The part that is the whole.
use Rattle.std.proofs.Common.{take_all, arith, ◌∙◌}
use Rattle.cx_dice.proofs.draw.Draw.bytes.Goals as goal

pub returns-clause-bytes : goal.returns-clause-bytes
returns-clause-bytes c = c.part.ensures.taken ∙ take_all 384 c.args.self.now.bytes (omega (arith, c.part.ensures.whole))
