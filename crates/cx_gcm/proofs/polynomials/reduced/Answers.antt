use Rattle.std.proofs.Common.{◌∷◌, map, bit_xor, take, ap, ◌∙◌}
use lib.Lanes.{zip2}
use Rattle.cx_aes.proofs.Maps.{bytes_of_vector}
use Rattle.cx_gcm.specs.Fronts.{across, front}
use Rattle.cx_gcm.proofs.Fronts.{reduced_front}
use Rattle.cx_gcm.proofs.polynomials.reduced.Goals as goal

pub returns : goal.returns
returns c =
    let lower = c.args.lower in
    let upper = c.args.upper in
    ap (λ v. front (zip2 bit_xor lower (zip2 bit_xor v c.one_on.result))) c.across.ensures
    ∙ ap (λ v. front (zip2 bit_xor lower (zip2 bit_xor (map across upper) v))) (c.one_on.ensures ∙ ap (λ v. 0 ∷ take 15 v) c.carried.ensures)
    ∙ reduced_front lower upper c.fits-lower.0 c.fits-upper.0 (bytes_of_vector upper c.fits-upper) c.requires
