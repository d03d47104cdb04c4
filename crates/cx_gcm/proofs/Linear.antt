-- The product is linear in its first factor, and products associate.
use Rattle.std.proofs.Common.{◌≡◌, ℕ, zero, suc, ◌<◌, ◌≤◌, ◌+◌, ◌*◌, ◌/◌, ◌%◌, ◌^◌, ◌==◌, if◌then◌else◌, map, get_or, bit_xor, refl, sym, ap, ◌∙◌, inl, inr, subst, arith}
use Rattle.std.specs.Int.{bit_at}
use Rattle.std.specs.Int.Bits.{xor_assoc, xor_self, xor_zero_l, xor_zero_r}
use Rattle.std.specs.List.{range_with_len}
use Rattle.std.proofs.Math.Nat.{mod-lt, pow-zero}
use Rattle.std.proofs.Math.Pow.{shr_lt}
use Rattle.std.proofs.lemmas.Nat.{div-add-mod', pow_pos, xor_block, xor_comm, xor_lt, xor_mod, xor_shr}
use Rattle.std.proofs.lemmas.List.FromFn.{get_or-map-range_with_len}
use Rattle.cx_gcm.specs.Blocks.{partial_product, product, shifted, shifted_by}
use Rattle.cx_gcm.specs.Multiples.{from_last}
use Rattle.cx_gcm.proofs.Shifts.{bit_cases, shifted-xor, shifted_by-xor, shifted_by-zero, xor_exchange}
use Rattle.cx_gcm.proofs.Products.{from_last-add, from_last_all}

-- the polynomial, which a bit 1 becomes that is shifted out
abbrev pub polynomial : ℕ
polynomial = 0xe1000000000000000000000000000000

bit_at-xor : (a b n : ℕ) → bit_at (bit_xor a b) n ≡ bit_xor (bit_at a n) (bit_at b n)
bit_at-xor a b n = ap (λ v. v % 2) (xor_shr a b n) ∙ xor_mod (a / 2 ^ n) (b / 2 ^ n) 1

bit_at-lt : (a n : ℕ) → bit_at a n < 2
bit_at-lt a n = omega arith

-- a block where the bit is set
unfoldable pub chosen : ℕ → ℕ → ℕ
chosen bit y = if bit == 1 then y else 0

chosen-xor : (a b y : ℕ) → a < 2 → b < 2 → chosen (bit_xor a b) y ≡ bit_xor (chosen a y) (chosen b y)
unfolding chosen
chosen-xor a b y la lb =
    elim (bit_cases a la) [
      | inl ea ↦ elim (bit_cases b lb) [ inl eb ↦ rw (ea, eb) refl | inr eb ↦ rw (ea, eb) (sym (xor_zero_l y)) ]
      | inr ea ↦ elim (bit_cases b lb) [ inl eb ↦ rw (ea, eb) (sym (xor_zero_r y)) | inr eb ↦ rw (ea, eb) (sym (xor_self y)) ]
    ]

from_last-xor : (a b y n : ℕ) → from_last (bit_xor a b) y n ≡ bit_xor (from_last a y n) (from_last b y n)
unfolding from_last chosen
from_last-xor a b y zero = refl
from_last-xor a b y (suc n) =
    ap (λ v. bit_xor (shifted v) (chosen (bit_at (bit_xor a b) n) y)) (from_last-xor a b y n)
    ∙ ap (λ v. bit_xor v (chosen (bit_at (bit_xor a b) n) y)) (shifted-xor (from_last a y n) (from_last b y n))
    ∙ ap (λ v. bit_xor (bit_xor (shifted (from_last a y n)) (shifted (from_last b y n))) (chosen v y)) (bit_at-xor a b n)
    ∙ ap (bit_xor (bit_xor (shifted (from_last a y n)) (shifted (from_last b y n)))) (chosen-xor (bit_at a n) (bit_at b n) y (bit_at-lt a n) (bit_at-lt b n))
    ∙ xor_exchange (shifted (from_last a y n)) (shifted (from_last b y n)) (chosen (bit_at a n) y) (chosen (bit_at b n) y)

pub product-xor : (a b y : ℕ) → product (bit_xor a b) y ≡ bit_xor (product a y) (product b y)
product-xor a b y =
    sym (from_last_all (bit_xor a b) y) ∙ from_last-xor a b y 128
    ∙ ap (λ v. bit_xor v (from_last b y 128)) (from_last_all a y) ∙ ap (bit_xor (product a y)) (from_last_all b y)

from_last_of_zero : (y n : ℕ) → from_last 0 y n ≡ 0
unfolding from_last shifted
from_last_of_zero y zero = refl
from_last_of_zero y (suc n) =
    let none : bit_at 0 n ≡ 0 = omega arith in
    ap (λ v. bit_xor (shifted v) (if bit_at 0 n == 1 then y else 0)) (from_last_of_zero y n) ∙ ap (λ b. bit_xor 0 (if b == 1 then y else 0)) none

pub product_of_zero : (y : ℕ) → product 0 y ≡ 0
product_of_zero y = sym (from_last_all 0 y) ∙ from_last_of_zero y 128

-- two linear functions that agree on the bits of a block agree on it
record IsLinear (f : ℕ → ℕ) : Type 0 where
  zero : f 0 ≡ 0
  sum : (a b : ℕ) → f (bit_xor a b) ≡ bit_xor (f a) (f b)

top_bit : (c n : ℕ) → bit_xor (c / 2 ^ n * 2 ^ n) (c % 2 ^ n) ≡ c
top_bit c n =
    let q = c / 2 ^ n in
    let r = c % 2 ^ n in
    let a : q * 2 ^ n + 0 ≡ q * 2 ^ n = omega arith in
    let b : 0 * 2 ^ n + r ≡ r = omega arith in
    sym (ap (λ x. bit_xor x (0 * 2 ^ n + r)) a ∙ ap (bit_xor (q * 2 ^ n)) b)
    ∙ xor_block n q 0 0 r (pow_pos n) (mod-lt c (pow_pos n))
    ∙ ap (λ x. x * 2 ^ n + bit_xor 0 r) (xor_zero_r q) ∙ ap (λ x. q * 2 ^ n + x) (xor_zero_l r) ∙ div-add-mod' c (2 ^ n)

same_where_bits_are : (f g : ℕ → ℕ) → IsLinear f → IsLinear g → ((i : ℕ) → i < 128 → f (2 ^ i) ≡ g (2 ^ i))
    → (n : ℕ) → n ≤ 128 → (c : ℕ) → c < 2 ^ n → f c ≡ g c
same_where_bits_are f g hf hg e zero le c lt =
    let none : c ≡ 0 = omega (arith, pow-zero 2) in
    ap f none ∙ hf.zero ∙ sym (ap g none ∙ hg.zero)
same_where_bits_are f g hf hg e (suc n) le c lt =
    let q = c / 2 ^ n in
    let r = c % 2 ^ n in
    let sum : suc n ≡ 1 + n = omega arith in
    let small : q < 2 = shr_lt 1 n (subst (λ m. c < 2 ^ m) sum lt) in
    let rest = same_where_bits_are f g hf hg e n (omega arith) r (mod-lt c (pow_pos n)) in
    let top : f (q * 2 ^ n) ≡ g (q * 2 ^ n) =
    elim (bit_cases q small) [
      | inl z ↦ let nothing : 0 * 2 ^ n ≡ 0 = omega arith in let none : q * 2 ^ n ≡ 0 = ap (λ v. v * 2 ^ n) z ∙ nothing in rw none (hf.zero ∙ sym hg.zero)
      | inr o ↦ let single : 1 * 2 ^ n ≡ 2 ^ n = omega arith in let one : q * 2 ^ n ≡ 2 ^ n = ap (λ v. v * 2 ^ n) o ∙ single in rw one (e n (omega arith))
    ] in
    ap f (sym (top_bit c n)) ∙ hf.sum (q * 2 ^ n) r ∙ ap (λ v. bit_xor v (f r)) top ∙ ap (bit_xor (g (q * 2 ^ n))) rest
    ∙ sym (hg.sum (q * 2 ^ n) r) ∙ ap g (top_bit c n)

-- the polynomial is the 128th shift of the first bit
around : ℕ → ℕ
around c = bit_xor (bit_xor c (shifted c)) (bit_xor (shifted_by c 2) (shifted_by c 7))

around_linear : IsLinear around
unfolding around shifted_by shifted
around_linear = record {
  zero = refl;
  sum = λ a b.
      ap (λ v. bit_xor (bit_xor (bit_xor a b) v) (bit_xor (shifted_by (bit_xor a b) 2) (shifted_by (bit_xor a b) 7))) (shifted-xor a b)
      ∙ ap (λ v. bit_xor (bit_xor (bit_xor a b) (bit_xor (shifted a) (shifted b))) (bit_xor v (shifted_by (bit_xor a b) 7))) (shifted_by-xor a b 2)
      ∙ ap (λ v. bit_xor (bit_xor (bit_xor a b) (bit_xor (shifted a) (shifted b))) (bit_xor (bit_xor (shifted_by a 2) (shifted_by b 2)) v)) (shifted_by-xor a b 7)
      ∙ ap (λ v. bit_xor v (bit_xor (bit_xor (shifted_by a 2) (shifted_by b 2)) (bit_xor (shifted_by a 7) (shifted_by b 7)))) (xor_exchange a b (shifted a) (shifted b))
      ∙ ap (bit_xor (bit_xor (bit_xor a (shifted a)) (bit_xor b (shifted b)))) (xor_exchange (shifted_by a 2) (shifted_by b 2) (shifted_by a 7) (shifted_by b 7))
      ∙ xor_exchange (bit_xor a (shifted a)) (bit_xor b (shifted b)) (bit_xor (shifted_by a 2) (shifted_by a 7)) (bit_xor (shifted_by b 2) (shifted_by b 7));
}

all_round_linear : IsLinear (λ c. shifted_by c 128)
all_round_linear = record { zero = shifted_by-zero 128; sum = λ a b. shifted_by-xor a b 128 }

around_at_bits : map (λ i. around (2 ^ i)) (range_with_len 0 128) ≡ map (λ i. shifted_by (2 ^ i) 128) (range_with_len 0 128)
unfolding around shifted_by shifted
around_at_bits = refl

around-is : (c : ℕ) → c < 2 ^ 128 → around c ≡ shifted_by c 128
around-is c lt =
    same_where_bits_are around (λ c. shifted_by c 128) around_linear all_round_linear
    (λ i small.
    sym (get_or-map-range_with_len (λ i. around (2 ^ i)) 0 128 i i 0 small (omega arith)) ∙ ap (λ xs. get_or xs i 0) around_at_bits
    ∙ get_or-map-range_with_len (λ i. shifted_by (2 ^ i) 128) 0 128 i i 0 small (omega arith))
    128 (omega arith) c lt

product_of_polynomial : (c : ℕ) → product polynomial c ≡ around c
unfolding product partial_product shifted_by around
product_of_polynomial c =
    ap (λ v. bit_xor v (shifted_by c 7)) (ap (λ v. bit_xor v (shifted_by c 2)) (ap (λ v. bit_xor v (shifted c)) (xor_zero_l c)))
    ∙ xor_assoc (bit_xor c (shifted c)) (shifted_by c 2) (shifted_by c 7)

-- a shift of the first factor is a shift of the product
from_last_one : (b c : ℕ) → from_last b c 1 ≡ chosen (b % 2) c
unfolding from_last chosen shifted
from_last_one b c = let first : bit_at b 0 ≡ b % 2 = omega arith in ap (λ v. bit_xor 0 (if v == 1 then c else 0)) first ∙ xor_zero_l (if b % 2 == 1 then c else 0)

shifted_chosen : (r c n : ℕ) → r < 2 → shifted_by (chosen r c) n ≡ chosen r (shifted_by c n)
unfolding chosen
shifted_chosen r c n lt =
    elim (bit_cases r lt) [ inl e ↦ rw e (shifted_by-zero n) | inr e ↦ rw e refl ]

product_chosen : (r a c : ℕ) → r < 2 → product (chosen r a) c ≡ chosen r (product a c)
unfolding chosen
product_chosen r a c lt =
    elim (bit_cases r lt) [ inl e ↦ rw e (product_of_zero c) | inr e ↦ rw e refl ]

pub shifted-chosen : (b : ℕ) → shifted b ≡ bit_xor (b / 2) (chosen (b % 2) polynomial)
unfolding shifted chosen
shifted-chosen b =
    elim (bit_cases (b % 2) (omega arith)) [ inl e ↦ rw e (sym (xor_zero_r (b / 2))) | inr e ↦ rw e refl ]

pub shifted_by-lt : (c n : ℕ) → c < 2 ^ 128 → shifted_by c n < 2 ^ 128
unfolding shifted_by chosen
shifted_by-lt c zero lt = lt
shifted_by-lt c (suc n) lt = shifted-lt (shifted_by c n) (shifted_by-lt c n lt)
  where
    chosen-lt : (r : ℕ) → r < 2 → chosen r polynomial < 2 ^ 128
    chosen-lt r small = elim (bit_cases r small) [ inl e ↦ rw e (omega arith) | inr e ↦ rw e (omega arith) ]

    shifted-lt : (v : ℕ) → v < 2 ^ 128 → shifted v < 2 ^ 128
    shifted-lt v small =
        let is = shifted-chosen v in
        rw is (xor_lt 128 (v / 2) (chosen (v % 2) polynomial) (omega (arith, small)) (chosen-lt (v % 2) (omega arith)))

-- only the last bits count
from_last_rest : (b c : ℕ) → b < 2 ^ 127 → from_last b c 128 ≡ shifted (from_last b c 127)
unfolding from_last
from_last_rest b c lt =
    let none : bit_at b 127 ≡ 0 = omega arith in
    ap (λ v. bit_xor (shifted (from_last b c 127)) (if v == 1 then c else 0)) none ∙ xor_zero_r (shifted (from_last b c 127))

pub product-shifted : (b c : ℕ) → b < 2 ^ 128 → c < 2 ^ 128 → product (shifted b) c ≡ shifted (product b c)
unfolding shifted_by
product-shifted b c lb lc =
    let q = b / 2 in
    let r = b % 2 in
    let small : r < 2 = omega arith in
    let rest = from_last q c 127 in
    let whole : shifted (product b c) ≡ bit_xor (chosen r (shifted_by c 128)) (shifted rest) =
    ap shifted (sym (from_last_all b c) ∙ from_last-add b c 1 127 ∙ ap (λ v. bit_xor (shifted_by v 127) rest) (from_last_one b c)
    ∙ ap (λ v. bit_xor v rest) (shifted_chosen r c 127 small))
    ∙ shifted-xor (chosen r (shifted_by c 127)) rest ∙ ap (λ v. bit_xor v (shifted rest)) (one_shift r small) in
    let parts : product (shifted b) c ≡ bit_xor (shifted rest) (chosen r (shifted_by c 128)) =
    ap (λ v. product v c) (shifted-chosen b) ∙ product-xor q (chosen r polynomial) c
    ∙ ap (λ v. bit_xor v (product (chosen r polynomial) c)) (sym (from_last_all q c) ∙ from_last_rest q c (omega (arith, lb)))
    ∙ ap (bit_xor (shifted rest)) (product_chosen r polynomial c small ∙ ap (chosen r) (product_of_polynomial c ∙ around-is c lc)) in
    parts ∙ xor_comm (shifted rest) (chosen r (shifted_by c 128)) ∙ sym whole
  where
    one_shift : (r : ℕ) → r < 2 → shifted (chosen r (shifted_by c 127)) ≡ chosen r (shifted_by c 128)
    one_shift r small = shifted_chosen r (shifted_by c 127) 1 small ∙ refl

pub from_last-lt : (a b n : ℕ) → b < 2 ^ 128 → from_last a b n < 2 ^ 128
unfolding from_last chosen shifted_by
from_last-lt a b zero lt = omega arith
from_last-lt a b (suc n) lt =
    xor_lt 128 (shifted (from_last a b n)) (chosen (bit_at a n) b) (shifted_by-lt (from_last a b n) 1 (from_last-lt a b n lt))
    (chosen-lt (bit_at a n) (bit_at-lt a n))
  where
    chosen-lt : (r : ℕ) → r < 2 → chosen r b < 2 ^ 128
    chosen-lt r small = elim (bit_cases r small) [ inl e ↦ rw e (omega arith) | inr e ↦ rw e lt ]

pub product-lt : (a b : ℕ) → b < 2 ^ 128 → product a b < 2 ^ 128
product-lt a b lt = subst (λ v. v < 2 ^ 128) (from_last_all a b) (from_last-lt a b 128 lt)

-- products associate
pub product-product : (a b c : ℕ) → b < 2 ^ 128 → c < 2 ^ 128 → product (product a b) c ≡ product a (product b c)
unfolding from_last chosen
product-product a b c lb lc =
    ap (λ v. product v c) (sym (from_last_all a b)) ∙ sym (walk 128) ∙ from_last_all a (product b c)
  where
    walk : (n : ℕ) → from_last a (product b c) n ≡ product (from_last a b n) c
    walk zero = sym (product_of_zero c)
    walk (suc n) =
        let f = from_last a b n in
        let bit = bit_at a n in
        ap (λ v. bit_xor (shifted v) (chosen bit (product b c))) (walk n)
        ∙ ap (λ v. bit_xor v (chosen bit (product b c))) (sym (product-shifted f c (from_last-lt a b n lb) lc))
        ∙ ap (bit_xor (product (shifted f) c)) (sym (product_chosen bit b c (bit_at-lt a n)))
        ∙ sym (product-xor (shifted f) (chosen bit b) c)

-- four steps of a sum of products, by powers
pub four_steps : (s a b c d h two three four : ℕ) → h < 2 ^ 128 → two ≡ product h h → three ≡ product two h → four ≡ product three h
    → bit_xor (bit_xor (product (bit_xor s a) four) (product b three)) (bit_xor (product c two) (product d h))
    ≡ product (bit_xor (product (bit_xor (product (bit_xor (product (bit_xor s a) h) b) h) c) h) d) h
four_steps s a b c d h two three four lh e2 e3 e4 =
    let l2 : two < 2 ^ 128 = subst (λ v. v < 2 ^ 128) (sym e2) (product-lt h h lh) in
    let l3 : three < 2 ^ 128 = subst (λ v. v < 2 ^ 128) (sym e3) (product-lt two h lh) in
    let x = bit_xor s a in
    let square : (y : ℕ) → product (product y h) h ≡ product y two = λ y. product-product y h h lh lh ∙ ap (product y) (sym e2) in
    let cube : (y : ℕ) → product (product y two) h ≡ product y three = λ y. product-product y two h l2 lh ∙ ap (product y) (sym e3) in
    let tesseract : (y : ℕ) → product (product y three) h ≡ product y four = λ y. product-product y three h l3 lh ∙ ap (product y) (sym e4) in
    let second : product (bit_xor (product x h) b) h ≡ bit_xor (product x two) (product b h) =
    product-xor (product x h) b h ∙ ap (λ v. bit_xor v (product b h)) (square x) in
    let third : product (bit_xor (product (bit_xor (product x h) b) h) c) h ≡ bit_xor (bit_xor (product x three) (product b two)) (product c h) =
    product-xor (product (bit_xor (product x h) b) h) c h
    ∙ ap (λ v. bit_xor v (product c h))
    (ap (λ v. product v h) second ∙ product-xor (product x two) (product b h) h ∙ ap (λ v. bit_xor v (product (product b h) h)) (cube x)
    ∙ ap (bit_xor (product x three)) (square b)) in
    sym
    (product-xor (product (bit_xor (product (bit_xor (product x h) b) h) c) h) d h
    ∙ ap (λ v. bit_xor v (product d h))
    (ap (λ v. product v h) third ∙ product-xor (bit_xor (product x three) (product b two)) (product c h) h
    ∙ ap (λ v. bit_xor v (product (product c h) h)) (product-xor (product x three) (product b two) h)
    ∙ ap (λ v. bit_xor (bit_xor v (product (product b two) h)) (product (product c h) h)) (tesseract x)
    ∙ ap (λ v. bit_xor (bit_xor (product x four) v) (product (product c h) h)) (cube b)
    ∙ ap (bit_xor (bit_xor (product x four) (product b three))) (square c))
    ∙ xor_assoc (bit_xor (product x four) (product b three)) (product c two) (product d h))
