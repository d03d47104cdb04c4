use Rattle.cx_aes.specs.InverseBasis.{undone}
use Rattle.cx_aes.proofs.inverse_basis.undone.Goals as goal

pub returns : goal.returns
unfolding undone
returns c = c.by_parts.ensures
