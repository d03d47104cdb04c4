use Rattle.std.proofs.lemmas.Simd.{zip2_splat}
use Rattle.cx_aes.specs.Lookup.{high}
use Rattle.cx_aes.proofs.lookup.high.Goals as goal

pub returns : goal.returns
unfolding high
returns c = zip2_splat _ c.args.bytes 16 4 c.fits-bytes.0
