use Rattle.std.proofs.Common.{◌≡◌, ℕ, get_or, bit_or, bit_xor, inl, inr, ap, ◌∙◌, sym, arith}
use Rattle.std.specs.Int.Bits.{or_zero_l, xor_self, xor_zero_l}
use Rattle.std.proofs.lemmas.Bool.{cases_lt}
use Rattle.std.proofs.lemmas.Bool.Decides.{Decides-eqb}
use Rattle.std.proofs.lemmas.Nat.{le_or_l, le_or_r}
use Rattle.std.proofs.lemmas.List.{ext_get_or}
use Rattle.cx_aes.proofs.Sums.{sum_twice}
use Rattle.cx_gcm.proofs.hashing.is_same_tag.Goals as goal

-- no difference
same : (a b : ℕ) → bit_xor a b ≡ 0 → a ≡ b
same a b e = sym (sum_twice a b) ∙ ap (λ v. bit_xor v b) e ∙ xor_zero_l b

pub loop-i-preserved : goal.loop-i-preserved
loop-i-preserved c =
    let a = c.args.first.now in
    let b = c.args.second.now in
    let i = c.loop-i.i in
    let d = c.loop-i.differences in
    let x = bit_xor (get_or a i 0) (get_or b i 0) in (
      λ e j lt.
          let none : d ≡ 0 = omega (arith, le_or_l d x, e) in
          let here : x ≡ 0 = omega (arith, le_or_r d x, e) in
          elim (cases_lt j i) [
            | inl below ↦ c.loop-i.invariant.0 none j below
            | inr above ↦ let at : j ≡ i = omega (arith, lt, above) in rw at (same (get_or a i 0) (get_or b i 0) here)
          ],
      λ all.
          ap (λ v. bit_or v x) (c.loop-i.invariant.1 (λ j lt. all j (omega (arith, lt)))) ∙ or_zero_l x
          ∙ ap (λ v. bit_xor v (get_or b i 0)) (all i (omega arith)) ∙ xor_self (get_or b i 0),
    )

pub returns : goal.returns
returns c =
    let a = c.args.first.now in
    let b = c.args.second.now in
    let zero = Decides-eqb c.loop-i.differences 0 in (
      λ e. ext_get_or 0 a b (c.told-first ∙ sym c.told-second) (λ k lt. c.loop-i.invariant.0 (zero.0 e) k (omega (arith, lt, c.told-first))),
      λ e. zero.1 (c.loop-i.invariant.1 (λ j lt. ap (λ s. get_or s j 0) e)),
    )
