use Rattle.cx_aes.specs.InverseBasis.{thirteen}
use Rattle.cx_aes.proofs.inverse_basis.thirteen.Goals as goal

pub returns : goal.returns
unfolding thirteen
returns c = c.by_parts.ensures
