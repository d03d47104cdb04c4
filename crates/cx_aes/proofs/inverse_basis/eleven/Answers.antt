use Rattle.cx_aes.specs.InverseBasis.{eleven}
use Rattle.cx_aes.proofs.inverse_basis.eleven.Goals as goal

pub returns : goal.returns
unfolding eleven
returns c = c.by_parts.ensures
