use Rattle.cx_gcm.proofs.Lists.{joined}
use Rattle.cx_gcm.proofs.polynomials.next_upper.Goals as goal

pub returns : goal.returns
returns c = joined c.args.lower c.args.upper c.fits-lower.0 c.fits-upper.0
