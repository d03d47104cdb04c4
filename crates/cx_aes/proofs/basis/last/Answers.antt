use Rattle.cx_aes.proofs.Maps.{sums-splat}
use Rattle.cx_aes.specs.declared.basis.TheConstants.{LAST_LEFT, LAST_RIGHT, LAST}
use Rattle.cx_aes.specs.Basis.{by_parts, last}
use Rattle.cx_aes.proofs.basis.last.Goals as goal

pub returns : goal.returns
unfolding last
returns c =
    sums-splat (by_parts LAST_LEFT LAST_RIGHT) LAST c.args.state c.by_parts.result c.sum.result c.fits-state.0 c.sum.ensures c.by_parts.ensures
