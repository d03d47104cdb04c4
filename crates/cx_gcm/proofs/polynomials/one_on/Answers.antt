use Rattle.cx_gcm.proofs.Lists.{after_zero}
use Rattle.cx_gcm.proofs.polynomials.one_on.Goals as goal

pub returns : goal.returns
returns c = after_zero c.args.bytes c.fits-bytes.0
