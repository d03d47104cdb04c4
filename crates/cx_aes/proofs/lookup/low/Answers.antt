use Rattle.std.proofs.lemmas.Simd.{zip2_splat}
use Rattle.cx_aes.specs.Lookup.{low}
use Rattle.cx_aes.proofs.lookup.low.Goals as goal

pub returns : goal.returns
unfolding low
returns c = zip2_splat _ c.args.bytes 16 15 c.fits-bytes.0
