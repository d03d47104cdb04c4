-- Sums of bytes, and that a product by a fixed byte is linear.
use Rattle.std.proofs.Common.{◌≡◌, ℕ, zero, suc, ◌<◌, ◌/◌, ◌%◌, ◌==◌, Bool, true, false, if◌then◌else◌, map, bit_xor, refl, sym, ap, ◌∙◌, arith}
use Rattle.std.specs.Int.Bits.{xor_assoc, xor_self, xor_zero_r}
use Rattle.std.proofs.lemmas.Nat.{xor_comm, xor_lt}
use Rattle.cx_aes.specs.Field.{xtimes, product, times}
use Rattle.cx_aes.proofs.Bytes.{bytes, same_at_bytes, xtimes-lt}

pub sum-lt : (a b : ℕ) → a < 256 → b < 256 → bit_xor a b < 256
sum-lt a b la lb = xor_lt 8 a b la lb

pub sum_twice : (a b : ℕ) → bit_xor (bit_xor a b) b ≡ a
sum_twice a b = xor_assoc a b b ∙ ap (λ x. bit_xor a x) (xor_self b) ∙ xor_zero_r a

pub xor_exchange : (a b c d : ℕ) → bit_xor (bit_xor a b) (bit_xor c d) ≡ bit_xor (bit_xor a c) (bit_xor b d)
xor_exchange a b c d =
    xor_assoc a b (bit_xor c d)
    ∙ ap (λ x. bit_xor a x) (sym (xor_assoc b c d) ∙ ap (λ x. bit_xor x d) (xor_comm b c) ∙ xor_assoc c b d)
    ∙ sym (xor_assoc a c (bit_xor b d))

-- four summands
abbrev pub sum4 : ℕ → ℕ → ℕ → ℕ → ℕ
sum4 a b c d = bit_xor (bit_xor a b) (bit_xor c d)

pub sum4-sum : (a b c d w x y z : ℕ)
    → bit_xor (sum4 a b c d) (sum4 w x y z) ≡ sum4 (bit_xor a w) (bit_xor b x) (bit_xor c y) (bit_xor d z)
sum4-sum a b c d w x y z =
    xor_exchange (bit_xor a b) (bit_xor c d) (bit_xor w x) (bit_xor y z)
    ∙ ap (λ v. bit_xor v (bit_xor (bit_xor c d) (bit_xor y z))) (xor_exchange a b w x)
    ∙ ap (λ v. bit_xor (bit_xor (bit_xor a w) (bit_xor b x)) v) (xor_exchange c d y z)

-- sixteen summands, by rows and by columns
pub sum4-turned : (a b c d e f g h i j k l m n o p : ℕ)
    → sum4 (sum4 a b c d) (sum4 e f g h) (sum4 i j k l) (sum4 m n o p)
    ≡ sum4 (sum4 a e i m) (sum4 b f j n) (sum4 c g k o) (sum4 d h l p)
sum4-turned a b c d e f g h i j k l m n o p =
    ap (λ v. bit_xor v (bit_xor (sum4 i j k l) (sum4 m n o p))) (sum4-sum a b c d e f g h)
    ∙ ap (λ v. bit_xor (sum4 (bit_xor a e) (bit_xor b f) (bit_xor c g) (bit_xor d h)) v) (sum4-sum i j k l m n o p)
    ∙ sum4-sum (bit_xor a e) (bit_xor b f) (bit_xor c g) (bit_xor d h) (bit_xor i m) (bit_xor j n) (bit_xor k o) (bit_xor l p)

-- over all pairs of bytes
pub xtimes-xor : (a b : ℕ) → a < 256 → b < 256 → xtimes (bit_xor a b) ≡ bit_xor (xtimes a) (xtimes b)
unfolding xtimes
xtimes-xor a b la lb =
    same_at_bytes (λ y. xtimes (bit_xor a y)) (λ y. bit_xor (xtimes a) (xtimes y))
    (same_at_bytes (λ x. map (λ y. xtimes (bit_xor x y)) bytes) (λ x. map (λ y. bit_xor (xtimes x) (xtimes y)) bytes) refl a la) b lb

pub product-lt : (n a k : ℕ) → a < 256 → product n a k < 256
unfolding product
product-lt zero a k la = omega arith
product-lt (suc n) a k la =
    sum-lt (if k % 2 == 1 then a else 0) (xtimes (product n a (k / 2))) (chosen (k % 2 == 1))
    (xtimes-lt (product n a (k / 2)) (product-lt n a (k / 2) la))
  where
    chosen : (b : Bool) → (if b then a else 0) < 256
    chosen true = la
    chosen false = omega arith

pub times-lt : (a k : ℕ) → a < 256 → times a k < 256
unfolding times
times-lt a k la = product-lt 8 a k la

chosen-xor : (t : Bool) (a b : ℕ) → (if t then bit_xor a b else 0) ≡ bit_xor (if t then a else 0) (if t then b else 0)
chosen-xor true a b = refl
chosen-xor false a b = refl

pub product-xor : (n a b k : ℕ) → a < 256 → b < 256 → product n (bit_xor a b) k ≡ bit_xor (product n a k) (product n b k)
unfolding product
product-xor zero a b k la lb = refl
product-xor (suc n) a b k la lb =
    let p = product n a (k / 2) in
    let q = product n b (k / 2) in
    let t = k % 2 == 1 in
    ap (λ v. bit_xor (if t then bit_xor a b else 0) (xtimes v)) (product-xor n a b (k / 2) la lb)
    ∙ ap (λ v. bit_xor (if t then bit_xor a b else 0) v) (xtimes-xor p q (product-lt n a (k / 2) la) (product-lt n b (k / 2) lb))
    ∙ ap (λ v. bit_xor v (bit_xor (xtimes p) (xtimes q))) (chosen-xor t a b)
    ∙ xor_exchange (if t then a else 0) (if t then b else 0) (xtimes p) (xtimes q)

pub times-xor : (a b k : ℕ) → a < 256 → b < 256 → times (bit_xor a b) k ≡ bit_xor (times a k) (times b k)
unfolding times
times-xor a b k la lb = product-xor 8 a b k la lb

pub times-sum4 : (k a b c d : ℕ) → a < 256 → b < 256 → c < 256 → d < 256
    → times (sum4 a b c d) k ≡ sum4 (times a k) (times b k) (times c k) (times d k)
times-sum4 k a b c d la lb lc ld =
    times-xor (bit_xor a b) (bit_xor c d) k (sum-lt a b la lb) (sum-lt c d lc ld)
    ∙ ap (λ v. bit_xor v (times (bit_xor c d) k)) (times-xor a b k la lb)
    ∙ ap (λ v. bit_xor (bit_xor (times a k) (times b k)) v) (times-xor c d k lc ld)
