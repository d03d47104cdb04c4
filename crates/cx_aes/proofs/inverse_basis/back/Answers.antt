use Rattle.cx_aes.proofs.Maps.{sums-splat}
use Rattle.cx_aes.specs.declared.inverse_basis.TheConstants.{BACK}
use Rattle.cx_aes.specs.InverseBasis.{back, linear}
use Rattle.cx_aes.proofs.inverse_basis.back.Goals as goal

pub returns : goal.returns
unfolding back
returns c = sums-splat linear BACK c.args.bytes c.linear.result c.sum.result c.fits-bytes.0 c.sum.ensures c.linear.ensures
