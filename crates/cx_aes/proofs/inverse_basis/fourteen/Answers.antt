use Rattle.cx_aes.specs.InverseBasis.{fourteen}
use Rattle.cx_aes.proofs.inverse_basis.fourteen.Goals as goal

pub returns : goal.returns
unfolding fourteen
returns c = c.by_parts.ensures
