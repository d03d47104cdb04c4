-- A product from the first bit on is a product from the last bit on, and that goes four bits at a time.
use Rattle.std.proofs.Common.{◌≡◌, ℕ, zero, suc, ◌+◌, ◌-◌, ◌/◌, ◌%◌, ◌^◌, ◌==◌, Bool, true, false, if◌then◌else◌, bit_xor, refl, sym, ap, ◌∙◌, arith}
use Rattle.std.specs.Int.{bit_at}
use Rattle.std.specs.Int.Bits.{xor_assoc, xor_zero_l, xor_zero_r}
use Rattle.std.proofs.lemmas.Nat.{xor_comm, shr-shr}
use Rattle.cx_gcm.specs.Blocks.{partial_product, product, shifted, shifted_by}
use Rattle.cx_gcm.specs.Multiples.{from_last}
use Rattle.cx_gcm.proofs.Shifts.{shifted-xor, shifted_by-shifted, shifted_by-xor, shifted_by-zero}

chosen_shift : (b : Bool) (y m : ℕ) → shifted_by (if b then y else 0) m ≡ (if b then shifted_by y m else 0)
chosen_shift true y m = refl
chosen_shift false y m = shifted_by-zero m

chosen_sum : (b : Bool) (p v : ℕ) → bit_xor p (if b then v else 0) ≡ (if b then bit_xor p v else p)
chosen_sum true p v = refl
chosen_sum false p v = xor_zero_r p

-- the first m bits from the front, and the last n from the back
pub meet : (x y m n : ℕ) → m + n ≡ 128 → bit_xor (partial_product x y m) (shifted_by (from_last x y n) m) ≡ product x y
unfolding product partial_product from_last
meet x y m zero e =
    let all : m ≡ 128 = omega arith in
    ap (λ v. bit_xor (partial_product x y m) v) (shifted_by-zero m) ∙ xor_zero_r (partial_product x y m)
    ∙ ap (λ i. partial_product x y i) all
meet x y m (suc n) e =
    let p = partial_product x y m in
    let f = from_last x y n in
    let here : 127 - m ≡ n = omega arith in
    let b = bit_at x n == 1 in
    let next : bit_xor p (if b then shifted_by y m else 0) ≡ partial_product x y (suc m) =
    chosen_sum b p (shifted_by y m)
    ∙ sym (ap (λ i. if bit_at x i == 1 then bit_xor p (shifted_by y m) else p) here) in
    ap (λ v. bit_xor p v) (shifted_by-xor (shifted f) (if b then y else 0) m)
    ∙ ap (λ v. bit_xor p (bit_xor v (shifted_by (if b then y else 0) m))) (shifted_by-shifted f m)
    ∙ ap (λ v. bit_xor p (bit_xor (shifted_by f (suc m)) v)) (chosen_shift b y m)
    ∙ ap (λ v. bit_xor p v) (xor_comm (shifted_by f (suc m)) (if b then shifted_by y m else 0))
    ∙ sym (xor_assoc p (if b then shifted_by y m else 0) (shifted_by f (suc m)))
    ∙ ap (λ v. bit_xor v (shifted_by f (suc m))) next
    ∙ meet x y (suc m) n (omega arith)

pub from_last_all : (x y : ℕ) → from_last x y 128 ≡ product x y
unfolding shifted_by partial_product
from_last_all x y = sym (xor_zero_l (from_last x y 128)) ∙ meet x y 0 128 refl

pub from_last_none : (x y : ℕ) → from_last x y 0 ≡ 0
unfolding from_last
from_last_none x y = refl

bit_at-shr : (x m n : ℕ) → bit_at x (m + n) ≡ bit_at (x / 2 ^ m) n
bit_at-shr x m n = ap (λ v. v % 2) (sym (shr-shr x m n))

pub from_last-add : (x y m n : ℕ) → from_last x y (m + n) ≡ bit_xor (shifted_by (from_last x y m) n) (from_last (x / 2 ^ m) y n)
unfolding from_last shifted_by
from_last-add x y m zero =
    let e : m + 0 ≡ m = omega arith in
    ap (λ i. from_last x y i) e ∙ sym (xor_zero_r (from_last x y m))
from_last-add x y m (suc n) =
    let e : m + suc n ≡ suc (m + n) = omega arith in
    let f = shifted_by (from_last x y m) n in
    let g = from_last (x / 2 ^ m) y n in
    let c : ℕ → ℕ = λ b. if b == 1 then y else 0 in
    ap (λ i. from_last x y i) e
    ∙ ap (λ v. bit_xor (shifted v) (c (bit_at x (m + n)))) (from_last-add x y m n)
    ∙ ap (λ v. bit_xor v (c (bit_at x (m + n)))) (shifted-xor f g)
    ∙ ap (λ b. bit_xor (bit_xor (shifted f) (shifted g)) (c b)) (bit_at-shr x m n)
    ∙ xor_assoc (shifted f) (shifted g) (c (bit_at (x / 2 ^ m) n))

-- only the last four bits count
pub from_last-mod : (z y : ℕ) → from_last z y 4 ≡ from_last (z % 16) y 4
unfolding from_last
from_last-mod z y =
    let b0 : z / 1 % 2 ≡ z % 16 / 1 % 2 = omega arith in
    let b1 : z / 2 % 2 ≡ z % 16 / 2 % 2 = omega arith in
    let b2 : z / 4 % 2 ≡ z % 16 / 4 % 2 = omega arith in
    let b3 : z / 8 % 2 ≡ z % 16 / 8 % 2 = omega arith in
    cc (b0, b1, b2, b3)

-- the first of four bits gives the block itself
pub from_last_first : (y : ℕ) → from_last 8 y 4 ≡ y
unfolding from_last shifted
from_last_first y = xor_zero_l y
