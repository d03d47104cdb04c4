use Rattle.std.proofs.Common.{◌*◌, ◌%◌, bit_xor}
use Rattle.std.proofs.lemmas.Simd.{zip2_of_maps, zip2_splat}
use Rattle.cx_gcm.specs.Fronts.{carried}
use Rattle.cx_gcm.proofs.polynomials.carried.Goals as goal

pub returns : goal.returns
unfolding carried
returns c =
    let v = c.args.bytes in
    let len = c.fits-bytes.0 in
    zip2_of_maps bit_xor (λ x. x * 128 % 256) (λ x. bit_xor (x * 64 % 256) (x * 2 % 256)) v (zip2_splat _ v 16 7 len)
    (zip2_of_maps bit_xor (λ x. x * 64 % 256) (λ x. x * 2 % 256) v (zip2_splat _ v 16 6 len) (zip2_splat _ v 16 1 len))
