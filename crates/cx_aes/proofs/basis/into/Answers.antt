use Rattle.cx_aes.specs.Basis.{into}
use Rattle.cx_aes.proofs.basis.into.Goals as goal

pub returns : goal.returns
unfolding into
returns c = c.by_halves.ensures
