-- The shift of a block is linear, and four shifts are one table.
use Rattle.std.proofs.Common.{◌≡◌, ℕ, zero, suc, ◌<◌, ◌*◌, ◌/◌, ◌%◌, ◌==◌, ◌⊎◌, Bool, true, false, if◌then◌else◌, bit_xor, refl, sym, ap, ◌∙◌, inl, inr, arith}
use Rattle.std.specs.Int.Bits.{xor_assoc, xor_zero_r}
use Rattle.std.proofs.lemmas.Nat.{xor_comm, xor_shr, xor_mod}
use Rattle.cx_gcm.specs.Blocks.{shifted, shifted_by}

-- R where a bit 1 went out
reduction : ℕ → ℕ
reduction r = if r == 1 then 0xe1000000000000000000000000000000 else 0

shifted_is : (v : ℕ) → shifted v ≡ bit_xor (v / 2) (reduction (v % 2))
unfolding shifted reduction
shifted_is v = chosen (v % 2 == 1)
  where
    chosen : (b : Bool) → (if b then bit_xor (v / 2) 0xe1000000000000000000000000000000 else v / 2)
        ≡ bit_xor (v / 2) (if b then 0xe1000000000000000000000000000000 else 0)
    chosen true = refl
    chosen false = sym (xor_zero_r (v / 2))

pub bit_cases : (r : ℕ) → r < 2 → (r ≡ 0) ⊎ (r ≡ 1)
bit_cases zero lt = inl refl
bit_cases (suc zero) lt = inr refl
bit_cases (suc (suc n)) lt = absurd (omega arith)

reduction-xor : (r s : ℕ) → r < 2 → s < 2 → reduction (bit_xor r s) ≡ bit_xor (reduction r) (reduction s)
unfolding reduction
reduction-xor r s lr ls =
    elim (bit_cases r lr) [
      | inl a ↦ elim (bit_cases s ls) [ inl b ↦ rw (a, b) refl | inr b ↦ rw (a, b) refl ]
      | inr a ↦ elim (bit_cases s ls) [ inl b ↦ rw (a, b) refl | inr b ↦ rw (a, b) refl ]
    ]

pub xor_exchange : (a b c d : ℕ) → bit_xor (bit_xor a b) (bit_xor c d) ≡ bit_xor (bit_xor a c) (bit_xor b d)
xor_exchange a b c d =
    xor_assoc a b (bit_xor c d)
    ∙ ap (λ x. bit_xor a x) (sym (xor_assoc b c d) ∙ ap (λ x. bit_xor x d) (xor_comm b c) ∙ xor_assoc c b d)
    ∙ sym (xor_assoc a c (bit_xor b d))

pub shifted-xor : (a b : ℕ) → shifted (bit_xor a b) ≡ bit_xor (shifted a) (shifted b)
shifted-xor a b =
    shifted_is (bit_xor a b)
    ∙ ap (λ x. bit_xor x (reduction (bit_xor a b % 2))) (xor_shr a b 1)
    ∙ ap (λ x. bit_xor (bit_xor (a / 2) (b / 2)) (reduction x)) (xor_mod a b 1)
    ∙ ap (λ x. bit_xor (bit_xor (a / 2) (b / 2)) x) (reduction-xor (a % 2) (b % 2) (omega arith) (omega arith))
    ∙ xor_exchange (a / 2) (b / 2) (reduction (a % 2)) (reduction (b % 2))
    ∙ sym (ap (λ x. bit_xor x (shifted b)) (shifted_is a) ∙ ap (λ x. bit_xor (bit_xor (a / 2) (reduction (a % 2))) x) (shifted_is b))

pub shifted_by-xor : (a b : ℕ) (n : ℕ) → shifted_by (bit_xor a b) n ≡ bit_xor (shifted_by a n) (shifted_by b n)
unfolding shifted_by
shifted_by-xor a b zero = refl
shifted_by-xor a b (suc n) = ap shifted (shifted_by-xor a b n) ∙ shifted-xor (shifted_by a n) (shifted_by b n)

pub shifted_by-zero : (n : ℕ) → shifted_by 0 n ≡ 0
unfolding shifted shifted_by
shifted_by-zero zero = refl
shifted_by-zero (suc n) = ap shifted (shifted_by-zero n)

-- one shift before the others, or after them
pub shifted_by-shifted : (y n : ℕ) → shifted_by (shifted y) n ≡ shifted_by y (suc n)
unfolding shifted_by
shifted_by-shifted y zero = refl
shifted_by-shifted y (suc n) = ap shifted (shifted_by-shifted y n)

-- a bit 0 goes out
shifted-even : (v w : ℕ) → v ≡ 2 * w → shifted v ≡ w
unfolding reduction
shifted-even v w e =
    let half : v / 2 ≡ w = omega arith in
    let even : v % 2 ≡ 0 = omega arith in
    shifted_is v ∙ ap (λ x. bit_xor x (reduction (v % 2))) half ∙ ap (λ x. bit_xor w (reduction x)) even ∙ xor_zero_r w

pub four_even : (w : ℕ) → shifted_by (16 * w) 4 ≡ w
unfolding shifted_by
four_even w =
    ap (λ v. shifted (shifted (shifted v))) (shifted-even (16 * w) (8 * w) (omega arith))
    ∙ ap (λ v. shifted (shifted v)) (shifted-even (8 * w) (4 * w) (omega arith))
    ∙ ap shifted (shifted-even (4 * w) (2 * w) (omega arith))
    ∙ shifted-even (2 * w) w (omega arith)
