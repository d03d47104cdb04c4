use Rattle.cx_aes.specs.InverseBasis.{linear}
use Rattle.cx_aes.proofs.inverse_basis.linear.Goals as goal

pub returns : goal.returns
unfolding linear
returns c = c.by_halves.ensures
