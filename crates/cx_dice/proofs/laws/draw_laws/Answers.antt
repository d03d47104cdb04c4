-- The law, by its lemma.
use Rattle.cx_dice.proofs.Places.{seed_draws}
use Rattle.cx_dice.proofs.laws.draw_laws.Goals as goal

pub returns : goal.returns
returns c = seed_draws
