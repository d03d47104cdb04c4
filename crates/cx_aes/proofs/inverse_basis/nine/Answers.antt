use Rattle.cx_aes.specs.InverseBasis.{nine}
use Rattle.cx_aes.proofs.inverse_basis.nine.Goals as goal

pub returns : goal.returns
unfolding nine
returns c = c.by_parts.ensures
