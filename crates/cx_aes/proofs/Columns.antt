-- The matrices of MixColumns and InvMixColumns undo each other. A row of one times the rows of the
-- other, on a column of four variables, is a sum of four functions of one byte each.
use Rattle.std.proofs.Common.{◌≡◌, ℕ, ◌<◌, List, ◌∷◌, map, bit_xor, refl, ◌∙◌}
use Rattle.std.specs.Int.Bits.{xor_zero_l, xor_zero_r}
use Rattle.cx_aes.specs.Field.{xtimes, product, times}
use Rattle.cx_aes.specs.Cipher.{row}
use Rattle.cx_aes.proofs.Bytes.{bytes, same_at_bytes}
use Rattle.cx_aes.proofs.Sums.{sum4, sum4-turned, sum-lt, times-lt, times-sum4}

pub row-lt : (p q r s a b c d : ℕ) → a < 256 → b < 256 → c < 256 → d < 256 → row p q r s a b c d < 256
unfolding row
row-lt p q r s a b c d la lb lc ld =
    sum-lt _ _ (sum-lt _ _ (times-lt a p la) (times-lt b q lb)) (sum-lt _ _ (times-lt c r lc) (times-lt d s ld))

-- what one byte, times the column w x y z of a matrix, adds to the row p q r s of another
unfoldable pub part : ℕ → ℕ → ℕ → ℕ → ℕ → ℕ → ℕ → ℕ → ℕ → ℕ
part p q r s w x y z a = row p q r s (times a w) (times a x) (times a y) (times a z)

-- the rows k l m n, n k l m, m n k l, l m n k of a matrix
row-rows : (p q r s k l m n a b c d : ℕ) → a < 256 → b < 256 → c < 256 → d < 256
    → row p q r s (row k l m n a b c d) (row n k l m a b c d) (row m n k l a b c d) (row l m n k a b c d)
    ≡ sum4 (part p q r s k n m l a) (part p q r s l k n m b) (part p q r s m l k n c) (part p q r s n m l k d)
unfolding row part
row-rows p q r s k l m n a b c d la lb lc ld =
    let spread : (e w x y z : ℕ) → times (row w x y z a b c d) e
    ≡ sum4 (times (times a w) e) (times (times b x) e) (times (times c y) e) (times (times d z) e) =
    λ e w x y z. times-sum4 e (times a w) (times b x) (times c y) (times d z)
    (times-lt a w la) (times-lt b x lb) (times-lt c y lc) (times-lt d z ld) in
    rw (spread p k l m n, spread q n k l m, spread r m n k l, spread s l m n k)
    (sum4-turned
    (times (times a k) p) (times (times b l) p) (times (times c m) p) (times (times d n) p)
    (times (times a n) q) (times (times b k) q) (times (times c l) q) (times (times d m) q)
    (times (times a m) r) (times (times b n) r) (times (times c k) r) (times (times d l) r)
    (times (times a l) s) (times (times b m) s) (times (times c n) s) (times (times d k) s))

-- the same where the four functions are known at every byte
row-rows-are : (p q r s k l m n : ℕ) (fa fb fc fd : ℕ → ℕ)
    → map (part p q r s k n m l) bytes ≡ map fa bytes → map (part p q r s l k n m) bytes ≡ map fb bytes
    → map (part p q r s m l k n) bytes ≡ map fc bytes → map (part p q r s n m l k) bytes ≡ map fd bytes
    → (a b c d : ℕ) → a < 256 → b < 256 → c < 256 → d < 256
    → row p q r s (row k l m n a b c d) (row n k l m a b c d) (row m n k l a b c d) (row l m n k a b c d)
    ≡ sum4 (fa a) (fb b) (fc c) (fd d)
row-rows-are p q r s k l m n fa fb fc fd ea eb ec ed a b c d la lb lc ld =
    row-rows p q r s k l m n a b c d la lb lc ld
    ∙ rw (
      same_at_bytes (part p q r s k n m l) fa ea a la,
      same_at_bytes (part p q r s l k n m) fb eb b lb,
      same_at_bytes (part p q r s m l k n) fc ec c lc,
      same_at_bytes (part p q r s n m l k) fd ed d ld,
    ) refl

unmixed0 : (a b c d : ℕ) → a < 256 → b < 256 → c < 256 → d < 256
    → row 14 11 13 9 (row 2 3 1 1 a b c d) (row 1 2 3 1 a b c d) (row 1 1 2 3 a b c d) (row 3 1 1 2 a b c d) ≡ a
unfolding xtimes product times row part
unmixed0 a b c d la lb lc ld =
    row-rows-are 14 11 13 9 2 3 1 1 (λ x. x) (λ x. 0) (λ x. 0) (λ x. 0) refl refl refl refl a b c d la lb lc ld
    ∙ xor_zero_r (bit_xor a 0) ∙ xor_zero_r a

unmixed1 : (a b c d : ℕ) → a < 256 → b < 256 → c < 256 → d < 256
    → row 9 14 11 13 (row 2 3 1 1 a b c d) (row 1 2 3 1 a b c d) (row 1 1 2 3 a b c d) (row 3 1 1 2 a b c d) ≡ b
unfolding xtimes product times row part
unmixed1 a b c d la lb lc ld =
    row-rows-are 9 14 11 13 2 3 1 1 (λ x. 0) (λ x. x) (λ x. 0) (λ x. 0) refl refl refl refl a b c d la lb lc ld
    ∙ xor_zero_r (bit_xor 0 b) ∙ xor_zero_l b

unmixed2 : (a b c d : ℕ) → a < 256 → b < 256 → c < 256 → d < 256
    → row 13 9 14 11 (row 2 3 1 1 a b c d) (row 1 2 3 1 a b c d) (row 1 1 2 3 a b c d) (row 3 1 1 2 a b c d) ≡ c
unfolding xtimes product times row part
unmixed2 a b c d la lb lc ld =
    row-rows-are 13 9 14 11 2 3 1 1 (λ x. 0) (λ x. 0) (λ x. x) (λ x. 0) refl refl refl refl a b c d la lb lc ld
    ∙ xor_zero_l (bit_xor c 0) ∙ xor_zero_r c

unmixed3 : (a b c d : ℕ) → a < 256 → b < 256 → c < 256 → d < 256
    → row 11 13 9 14 (row 2 3 1 1 a b c d) (row 1 2 3 1 a b c d) (row 1 1 2 3 a b c d) (row 3 1 1 2 a b c d) ≡ d
unfolding xtimes product times row part
unmixed3 a b c d la lb lc ld =
    row-rows-are 11 13 9 14 2 3 1 1 (λ x. 0) (λ x. 0) (λ x. 0) (λ x. x) refl refl refl refl a b c d la lb lc ld
    ∙ xor_zero_l (bit_xor 0 d) ∙ xor_zero_l d

remixed0 : (a b c d : ℕ) → a < 256 → b < 256 → c < 256 → d < 256
    → row 2 3 1 1 (row 14 11 13 9 a b c d) (row 9 14 11 13 a b c d) (row 13 9 14 11 a b c d) (row 11 13 9 14 a b c d) ≡ a
unfolding xtimes product times row part
remixed0 a b c d la lb lc ld =
    row-rows-are 2 3 1 1 14 11 13 9 (λ x. x) (λ x. 0) (λ x. 0) (λ x. 0) refl refl refl refl a b c d la lb lc ld
    ∙ xor_zero_r (bit_xor a 0) ∙ xor_zero_r a

remixed1 : (a b c d : ℕ) → a < 256 → b < 256 → c < 256 → d < 256
    → row 1 2 3 1 (row 14 11 13 9 a b c d) (row 9 14 11 13 a b c d) (row 13 9 14 11 a b c d) (row 11 13 9 14 a b c d) ≡ b
unfolding xtimes product times row part
remixed1 a b c d la lb lc ld =
    row-rows-are 1 2 3 1 14 11 13 9 (λ x. 0) (λ x. x) (λ x. 0) (λ x. 0) refl refl refl refl a b c d la lb lc ld
    ∙ xor_zero_r (bit_xor 0 b) ∙ xor_zero_l b

remixed2 : (a b c d : ℕ) → a < 256 → b < 256 → c < 256 → d < 256
    → row 1 1 2 3 (row 14 11 13 9 a b c d) (row 9 14 11 13 a b c d) (row 13 9 14 11 a b c d) (row 11 13 9 14 a b c d) ≡ c
unfolding xtimes product times row part
remixed2 a b c d la lb lc ld =
    row-rows-are 1 1 2 3 14 11 13 9 (λ x. 0) (λ x. 0) (λ x. x) (λ x. 0) refl refl refl refl a b c d la lb lc ld
    ∙ xor_zero_l (bit_xor c 0) ∙ xor_zero_r c

remixed3 : (a b c d : ℕ) → a < 256 → b < 256 → c < 256 → d < 256
    → row 3 1 1 2 (row 14 11 13 9 a b c d) (row 9 14 11 13 a b c d) (row 13 9 14 11 a b c d) (row 11 13 9 14 a b c d) ≡ d
unfolding xtimes product times row part
remixed3 a b c d la lb lc ld =
    row-rows-are 3 1 1 2 14 11 13 9 (λ x. 0) (λ x. 0) (λ x. 0) (λ x. x) refl refl refl refl a b c d la lb lc ld
    ∙ xor_zero_l (bit_xor 0 d) ∙ xor_zero_l d

-- one column, and what follows it in a list
pub unmixed-column : (a b c d : ℕ) {xs ys : List ℕ} → a < 256 → b < 256 → c < 256 → d < 256 → xs ≡ ys
    → (row 14 11 13 9
    (row 2 3 1 1 a b c d) (row 1 2 3 1 a b c d) (row 1 1 2 3 a b c d) (row 3 1 1 2 a b c d) ∷ row 9 14 11 13
    (row 2 3 1 1 a b c d) (row 1 2 3 1 a b c d) (row 1 1 2 3 a b c d) (row 3 1 1 2 a b c d) ∷ row 13 9 14 11
    (row 2 3 1 1 a b c d) (row 1 2 3 1 a b c d) (row 1 1 2 3 a b c d) (row 3 1 1 2 a b c d) ∷ row 11 13 9 14
    (row 2 3 1 1 a b c d) (row 1 2 3 1 a b c d) (row 1 1 2 3 a b c d) (row 3 1 1 2 a b c d) ∷ xs)
    ≡ (a ∷ b ∷ c ∷ d ∷ ys)
unmixed-column a b c d la lb lc ld e =
    cc (unmixed0 a b c d la lb lc ld, unmixed1 a b c d la lb lc ld, unmixed2 a b c d la lb lc ld, unmixed3 a b c d la lb lc ld)

-- one column, and what follows it in a list
pub remixed-column : (a b c d : ℕ) {xs ys : List ℕ} → a < 256 → b < 256 → c < 256 → d < 256 → xs ≡ ys
    → (row 2 3 1 1
    (row 14 11 13 9 a b c d) (row 9 14 11 13 a b c d) (row 13 9 14 11 a b c d) (row 11 13 9 14 a b c d) ∷ row 1 2 3 1
    (row 14 11 13 9 a b c d) (row 9 14 11 13 a b c d) (row 13 9 14 11 a b c d) (row 11 13 9 14 a b c d) ∷ row 1 1 2 3
    (row 14 11 13 9 a b c d) (row 9 14 11 13 a b c d) (row 13 9 14 11 a b c d) (row 11 13 9 14 a b c d) ∷ row 3 1 1 2
    (row 14 11 13 9 a b c d) (row 9 14 11 13 a b c d) (row 13 9 14 11 a b c d) (row 11 13 9 14 a b c d) ∷ xs)
    ≡ (a ∷ b ∷ c ∷ d ∷ ys)
remixed-column a b c d la lb lc ld e =
    cc (remixed0 a b c d la lb lc ld, remixed1 a b c d la lb lc ld, remixed2 a b c d la lb lc ld, remixed3 a b c d la lb lc ld)
