use Rattle.std.proofs.Common.{◌≡◌, ℕ, List, length, map, bit_xor, get_or, refl, sym, ap, ◌∙◌}
use Rattle.std.specs.List.{range_with_len}
use Rattle.std.proofs.lemmas.List.FromFn.{fill_by_all}
use Rattle.cx_digest.specs.Checksum.{crc32c}
use Rattle.cx_digest.proofs.Register.{eight}
use Rattle.cx_digest.proofs.checksum.after_eight.Goals as goal

-- eight bytes, written out
written : (b : List ℕ) → length b ≡ 8 → map (λ i. get_or b i 0) (range_with_len 0 8) ≡ b
written b len = sym (fill_by_all (λ i. get_or b i 0) b 8 0 len (λ k lt. refl))

sums : {p p' q q' r r' s s' t t' u u' v v' w w' : ℕ} → p ≡ p' → q ≡ q' → r ≡ r' → s ≡ s' → t ≡ t' → u ≡ u' → v ≡ v' → w ≡ w'
    → bit_xor (bit_xor (bit_xor p q) (bit_xor r s)) (bit_xor (bit_xor t u) (bit_xor v w))
    ≡ bit_xor (bit_xor (bit_xor p' q') (bit_xor r' s')) (bit_xor (bit_xor t' u') (bit_xor v' w'))
sums a b c d e f g h = cc (a, b, c, d, e, f, g, h)

pub returns : goal.returns
returns c =
    let b : ℕ → ℕ = λ i. get_or c.args.block.now i 0 in
    let fits = c.fits-block in
    sums c.moved.ensures c.moved-2.ensures c.moved-3.ensures c.moved-4.ensures c.moved-5.ensures c.moved-6.ensures c.moved-7.ensures c.moved-8.ensures
    ∙ eight c.args.state (b 0) (b 1) (b 2) (b 3) (b 4) (b 5) (b 6) (b 7) c.ranges.state.fits
    (fits 0) (fits 1) (fits 2) (fits 3) (fits 4) (fits 5) (fits 6) (fits 7)
    ∙ ap (crc32c c.args.state) (written c.args.block.now c.told-block)
