use Rattle.cx_aes.proofs.Maps.{sums-splat}
use Rattle.cx_aes.specs.declared.basis.TheConstants.{ONCE_LEFT, ONCE_RIGHT, ONCE}
use Rattle.cx_aes.specs.Basis.{by_parts, once}
use Rattle.cx_aes.proofs.basis.once.Goals as goal

pub returns : goal.returns
unfolding once
returns c =
    sums-splat (by_parts ONCE_LEFT ONCE_RIGHT) ONCE c.args.state c.by_parts.result c.sum.result c.fits-state.0 c.sum.ensures c.by_parts.ensures
