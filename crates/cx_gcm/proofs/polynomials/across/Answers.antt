use Rattle.std.proofs.Common.{◌/◌, bit_xor}
use Rattle.std.proofs.lemmas.Simd.{zip2_of_maps, zip2_splat}
use Rattle.cx_gcm.specs.Fronts.{across}
use Rattle.cx_gcm.proofs.Lists.{map_itself}
use Rattle.cx_gcm.proofs.polynomials.across.Goals as goal

pub returns : goal.returns
unfolding across
returns c =
    let v = c.args.bytes in
    let len = c.fits-bytes.0 in
    zip2_of_maps bit_xor (λ x. bit_xor x (x / 2)) (λ x. bit_xor (x / 4) (x / 128)) v
    (zip2_of_maps bit_xor (λ x. x) (λ x. x / 2) v (map_itself v) (zip2_splat _ v 16 1 len))
    (zip2_of_maps bit_xor (λ x. x / 4) (λ x. x / 128) v (zip2_splat _ v 16 2 len) (zip2_splat _ v 16 7 len))
