use Rattle.cx_aes.proofs.Maps.{sums-splat}
use Rattle.cx_aes.specs.declared.basis.TheConstants.{TWICE_LEFT, TWICE_RIGHT, TWICE}
use Rattle.cx_aes.specs.Basis.{by_parts, twice}
use Rattle.cx_aes.proofs.basis.twice.Goals as goal

pub returns : goal.returns
unfolding twice
returns c =
    sums-splat (by_parts TWICE_LEFT TWICE_RIGHT) TWICE c.args.state c.by_parts.result c.sum.result c.fits-state.0 c.sum.ensures c.by_parts.ensures
