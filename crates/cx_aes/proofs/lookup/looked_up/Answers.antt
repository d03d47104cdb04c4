use Rattle.std.proofs.Common.{arith}
use Rattle.cx_aes.proofs.Swizzles.{are_indices, swizzled}
use Rattle.cx_aes.proofs.lookup.looked_up.Goals as goal

pub swizzle : goal.swizzle
swizzle c = are_indices c.args.at c.fits-at.0 c.requires

pub returns : goal.returns
returns c = swizzled c.args.table c.args.at 0 (omega (arith, c.fits-at.0))
