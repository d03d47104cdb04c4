-- The columns of a sum of products, from the last one on, are the product.
use Rattle.std.proofs.Common.{◌≡◌, ℕ, zero, suc, ◌<◌, ◌≤◌, ◌+◌, ◌-◌, ◌*◌, ◌/◌, ◌%◌, ◌^◌, ◌==◌, if◌then◌else◌, false, nat_le, List, [], ◌∷◌, All, map, length, get_or, bit_xor, refl, sym, ap, ◌∙◌, arith}
use Rattle.std.specs.Int.{bit_at}
use Rattle.std.specs.Int.Bits.{xor_zero_l, xor_zero_r}
use Rattle.std.specs.List.{range_with_len}
use Rattle.std.proofs.lemmas.List.Elements.{All-head, All-tail}
use Rattle.std.proofs.lemmas.List.FromFn.{fill_by_all, get_or-map-range_with_len}
use Rattle.std.proofs.lemmas.Simd.{get_or-zip2}
use lib.Lanes.{zip2}
use Rattle.cx_aes.specs.Lookup.{by_halves, entry, high, low}
use Rattle.cx_aes.proofs.BytePlaces.{same_at_bytes}
use Rattle.cx_gcm.specs.Blocks.{product, shifted, shifted_by, spelled}
use Rattle.cx_gcm.specs.Fronts.{front}
use Rattle.cx_gcm.specs.Multiples.{IsTable, byte_of, columns, from_last, table_block}
use Rattle.cx_gcm.proofs.Shifts.{shifted_by-xor, shifted_by-zero, xor_exchange}
use Rattle.cx_gcm.proofs.Products.{from_last-add, from_last-mod, from_last_all, from_last_none}
use Rattle.cx_gcm.proofs.Fronts.{front-xor}
use Rattle.cx_gcm.proofs.Linear.{from_last-lt, product-shifted, product-xor, product_of_zero, shifted_by-lt}
use Rattle.cx_gcm.proofs.Digits.{bytes-spelled, front-lt, front-number, length-spelled, number-spelled, spelled-xor}

-- the last n of sixteen columns
unfoldable pub horner : (ℕ → List ℕ) → ℕ → ℕ
horner column zero = 0
horner column (suc n) = bit_xor (front (column (15 - n))) (shifted_by (horner column n) 8)

pub horner_one : (column : ℕ → List ℕ) → bit_xor (front (column 15)) (shifted_by 0 128) ≡ horner column 1
unfolding horner
horner_one column = ap (bit_xor (front (column 15))) (shifted_by-zero 128 ∙ sym (shifted_by-zero 8))

pub horner_more : (column : ℕ → List ℕ) (n : ℕ) → n < 15
    → bit_xor (front (column (14 - n))) (shifted_by (horner column (n + 1)) 8) ≡ horner column (n + 1 + 1)
unfolding horner
horner_more column n lt =
    let e : n + 1 + 1 ≡ suc (n + 1) = omega arith in
    let d : 14 - n ≡ 15 - (n + 1) = omega arith in
    ap (λ j. bit_xor (front (column j)) (shifted_by (horner column (n + 1)) 8)) d ∙ ap (horner column) (sym e)

pub horner-xor : (a b : ℕ → List ℕ) → ((j : ℕ) → length (a j) ≡ length (b j)) → (n : ℕ)
    → horner (λ j. zip2 bit_xor (a j) (b j)) n ≡ bit_xor (horner a n) (horner b n)
unfolding horner
horner-xor a b same zero = refl
horner-xor a b same (suc n) =
    let j = 15 - n in
    ap (λ v. bit_xor v (shifted_by (horner (λ j. zip2 bit_xor (a j) (b j)) n) 8)) (front-xor (a j) (b j) (same j))
    ∙ ap (λ v. bit_xor (bit_xor (front (a j)) (front (b j))) (shifted_by v 8)) (horner-xor a b same n)
    ∙ ap (bit_xor (bit_xor (front (a j)) (front (b j)))) (shifted_by-xor (horner a n) (horner b n) 8)
    ∙ xor_exchange (front (a j)) (front (b j)) (shifted_by (horner a n) 8) (shifted_by (horner b n) 8)

-- no bytes
horner_of_none : (n : ℕ) → horner (λ j. []) n ≡ 0
unfolding horner front
horner_of_none zero = refl
horner_of_none (suc n) = ap (λ v. bit_xor 0 (shifted_by v 8)) (horner_of_none n) ∙ ap (bit_xor 0) (shifted_by-zero 8)

-- the first byte, and the others eight shifts behind it
horner-cons : (f : ℕ → ℕ → ℕ) (x : ℕ) (v : List ℕ) (n : ℕ)
    → horner (λ j. map (f j) (x ∷ v)) n ≡ bit_xor (horner (λ j. f j x ∷ []) n) (shifted_by (horner (λ j. map (f j) v) n) 8)
unfolding horner front
horner-cons f x v zero = sym (ap (bit_xor 0) (shifted_by-zero 8))
horner-cons f x v (suc n) =
    let p = f (15 - n) x * 2 ^ 120 in
    let g = front (map (f (15 - n)) v) in
    let one = horner (λ j. f j x ∷ []) n in
    let all = horner (λ j. map (f j) v) n in
    ap (λ w. bit_xor (bit_xor p (shifted_by g 8)) (shifted_by w 8)) (horner-cons f x v n)
    ∙ ap (bit_xor (bit_xor p (shifted_by g 8))) (shifted_by-xor one (shifted_by all 8) 8)
    ∙ xor_exchange p (shifted_by g 8) (shifted_by one 8) (shifted_by (shifted_by all 8) 8)
    ∙ ap (bit_xor (bit_xor p (shifted_by one 8))) (sym (shifted_by-xor g (shifted_by all 8) 8))
    ∙ ap (λ w. bit_xor (bit_xor w (shifted_by one 8)) (shifted_by (bit_xor g (shifted_by all 8)) 8)) (sym (ap (bit_xor p) (shifted_by-zero 8) ∙ xor_zero_r p))

-- one byte alone
horner_of_byte : (g : ℕ → ℕ) (n : ℕ) → n ≤ 16 → horner (λ j. g j ∷ []) n ≡ front (map g (range_with_len (16 - n) n))
unfolding horner front
horner_of_byte g zero le = refl
horner_of_byte g (suc n) le =
    let here : 16 - suc n ≡ 15 - n = omega arith in
    let next : 15 - n + 1 ≡ 16 - n = omega arith in
    ap (λ v. bit_xor v (shifted_by (horner (λ j. g j ∷ []) n) 8)) (ap (bit_xor (g (15 - n) * 2 ^ 120)) (shifted_by-zero 8) ∙ xor_zero_r (g (15 - n) * 2 ^ 120))
    ∙ ap (λ v. bit_xor (g (15 - n) * 2 ^ 120) (shifted_by v 8)) (horner_of_byte g n (omega arith))
    ∙ ap (λ a. bit_xor (g (15 - n) * 2 ^ 120) (shifted_by (front (map g (range_with_len a n))) 8)) (sym next)
    ∙ ap (λ a. front (map g (range_with_len a (suc n)))) (sym here)

-- a byte at the front of a block
zero_step : (z y n : ℕ) → from_last z y n ≡ 0 → bit_at z n ≡ 0 → from_last z y (suc n) ≡ 0
unfolding from_last shifted
zero_step z y n e bit = ap (λ v. bit_xor (shifted v) (if bit_at z n == 1 then y else 0)) e ∙ ap (λ b. bit_xor 0 (if b == 1 then y else 0)) bit

zero_byte : (z w y : ℕ) → z ≡ 256 * w → from_last z y 8 ≡ 0
zero_byte z w y e =
    zero_step z y 7 (zero_step z y 6 (zero_step z y 5 (zero_step z y 4 (zero_step z y 3 (zero_step z y 2 (zero_step z y 1 (zero_step z y 0 (from_last_none z y) (omega (arith, e))) (omega (arith, e))) (omega (arith, e))) (omega (arith, e))) (omega (arith, e))) (omega (arith, e))) (omega (arith, e))) (omega (arith, e))

product-first : (x y : ℕ) → x < 256 → product (x * 2 ^ 120) y ≡ from_last x y 8
unfolding shifted_by
product-first x y lt =
    let z = x * 2 ^ 120 in
    let e0 : from_last z y 0 ≡ 0 = from_last_none z y in
    let e1 : from_last z y 8 ≡ 0 =
    from_last-add z y 0 8 ∙ ap (λ v. bit_xor (shifted_by v 8) (from_last (z / 2 ^ 0) y 8)) e0
    ∙ ap (bit_xor (shifted_by 0 8)) (zero_byte (z / 2 ^ 0) (x * 2 ^ 112) y (omega arith)) ∙ ap (λ v. bit_xor v 0) (shifted_by-zero 8) in
    let e2 : from_last z y 16 ≡ 0 =
    from_last-add z y 8 8 ∙ ap (λ v. bit_xor (shifted_by v 8) (from_last (z / 2 ^ 8) y 8)) e1
    ∙ ap (bit_xor (shifted_by 0 8)) (zero_byte (z / 2 ^ 8) (x * 2 ^ 104) y (omega arith)) ∙ ap (λ v. bit_xor v 0) (shifted_by-zero 8) in
    let e3 : from_last z y 24 ≡ 0 =
    from_last-add z y 16 8 ∙ ap (λ v. bit_xor (shifted_by v 8) (from_last (z / 2 ^ 16) y 8)) e2
    ∙ ap (bit_xor (shifted_by 0 8)) (zero_byte (z / 2 ^ 16) (x * 2 ^ 96) y (omega arith)) ∙ ap (λ v. bit_xor v 0) (shifted_by-zero 8) in
    let e4 : from_last z y 32 ≡ 0 =
    from_last-add z y 24 8 ∙ ap (λ v. bit_xor (shifted_by v 8) (from_last (z / 2 ^ 24) y 8)) e3
    ∙ ap (bit_xor (shifted_by 0 8)) (zero_byte (z / 2 ^ 24) (x * 2 ^ 88) y (omega arith)) ∙ ap (λ v. bit_xor v 0) (shifted_by-zero 8) in
    let e5 : from_last z y 40 ≡ 0 =
    from_last-add z y 32 8 ∙ ap (λ v. bit_xor (shifted_by v 8) (from_last (z / 2 ^ 32) y 8)) e4
    ∙ ap (bit_xor (shifted_by 0 8)) (zero_byte (z / 2 ^ 32) (x * 2 ^ 80) y (omega arith)) ∙ ap (λ v. bit_xor v 0) (shifted_by-zero 8) in
    let e6 : from_last z y 48 ≡ 0 =
    from_last-add z y 40 8 ∙ ap (λ v. bit_xor (shifted_by v 8) (from_last (z / 2 ^ 40) y 8)) e5
    ∙ ap (bit_xor (shifted_by 0 8)) (zero_byte (z / 2 ^ 40) (x * 2 ^ 72) y (omega arith)) ∙ ap (λ v. bit_xor v 0) (shifted_by-zero 8) in
    let e7 : from_last z y 56 ≡ 0 =
    from_last-add z y 48 8 ∙ ap (λ v. bit_xor (shifted_by v 8) (from_last (z / 2 ^ 48) y 8)) e6
    ∙ ap (bit_xor (shifted_by 0 8)) (zero_byte (z / 2 ^ 48) (x * 2 ^ 64) y (omega arith)) ∙ ap (λ v. bit_xor v 0) (shifted_by-zero 8) in
    let e8 : from_last z y 64 ≡ 0 =
    from_last-add z y 56 8 ∙ ap (λ v. bit_xor (shifted_by v 8) (from_last (z / 2 ^ 56) y 8)) e7
    ∙ ap (bit_xor (shifted_by 0 8)) (zero_byte (z / 2 ^ 56) (x * 2 ^ 56) y (omega arith)) ∙ ap (λ v. bit_xor v 0) (shifted_by-zero 8) in
    let e9 : from_last z y 72 ≡ 0 =
    from_last-add z y 64 8 ∙ ap (λ v. bit_xor (shifted_by v 8) (from_last (z / 2 ^ 64) y 8)) e8
    ∙ ap (bit_xor (shifted_by 0 8)) (zero_byte (z / 2 ^ 64) (x * 2 ^ 48) y (omega arith)) ∙ ap (λ v. bit_xor v 0) (shifted_by-zero 8) in
    let e10 : from_last z y 80 ≡ 0 =
    from_last-add z y 72 8 ∙ ap (λ v. bit_xor (shifted_by v 8) (from_last (z / 2 ^ 72) y 8)) e9
    ∙ ap (bit_xor (shifted_by 0 8)) (zero_byte (z / 2 ^ 72) (x * 2 ^ 40) y (omega arith)) ∙ ap (λ v. bit_xor v 0) (shifted_by-zero 8) in
    let e11 : from_last z y 88 ≡ 0 =
    from_last-add z y 80 8 ∙ ap (λ v. bit_xor (shifted_by v 8) (from_last (z / 2 ^ 80) y 8)) e10
    ∙ ap (bit_xor (shifted_by 0 8)) (zero_byte (z / 2 ^ 80) (x * 2 ^ 32) y (omega arith)) ∙ ap (λ v. bit_xor v 0) (shifted_by-zero 8) in
    let e12 : from_last z y 96 ≡ 0 =
    from_last-add z y 88 8 ∙ ap (λ v. bit_xor (shifted_by v 8) (from_last (z / 2 ^ 88) y 8)) e11
    ∙ ap (bit_xor (shifted_by 0 8)) (zero_byte (z / 2 ^ 88) (x * 2 ^ 24) y (omega arith)) ∙ ap (λ v. bit_xor v 0) (shifted_by-zero 8) in
    let e13 : from_last z y 104 ≡ 0 =
    from_last-add z y 96 8 ∙ ap (λ v. bit_xor (shifted_by v 8) (from_last (z / 2 ^ 96) y 8)) e12
    ∙ ap (bit_xor (shifted_by 0 8)) (zero_byte (z / 2 ^ 96) (x * 2 ^ 16) y (omega arith)) ∙ ap (λ v. bit_xor v 0) (shifted_by-zero 8) in
    let e14 : from_last z y 112 ≡ 0 =
    from_last-add z y 104 8 ∙ ap (λ v. bit_xor (shifted_by v 8) (from_last (z / 2 ^ 104) y 8)) e13
    ∙ ap (bit_xor (shifted_by 0 8)) (zero_byte (z / 2 ^ 104) (x * 2 ^ 8) y (omega arith)) ∙ ap (λ v. bit_xor v 0) (shifted_by-zero 8) in
    let e15 : from_last z y 120 ≡ 0 =
    from_last-add z y 112 8 ∙ ap (λ v. bit_xor (shifted_by v 8) (from_last (z / 2 ^ 112) y 8)) e14
    ∙ ap (bit_xor (shifted_by 0 8)) (zero_byte (z / 2 ^ 112) (x * 2 ^ 0) y (omega arith)) ∙ ap (λ v. bit_xor v 0) (shifted_by-zero 8) in
    let top : z / 2 ^ 120 ≡ x = omega arith in
    sym (from_last_all z y) ∙ from_last-add z y 120 8 ∙ ap (λ v. bit_xor (shifted_by v 8) (from_last (z / 2 ^ 120) y 8)) e15
    ∙ ap (λ v. bit_xor v (from_last (z / 2 ^ 120) y 8)) (shifted_by-zero 8) ∙ xor_zero_l (from_last (z / 2 ^ 120) y 8) ∙ ap (λ v. from_last v y 8) top

product-shifted_by : (a y n : ℕ) → a < 2 ^ 128 → y < 2 ^ 128 → product (shifted_by a n) y ≡ shifted_by (product a y) n
unfolding shifted_by
product-shifted_by a y zero la ly = refl
product-shifted_by a y (suc n) la ly =
    product-shifted (shifted_by a n) y (shifted_by-lt a n la) ly ∙ ap (λ v. shifted_by v 1) (product-shifted_by a y n la ly)

-- all bytes
pub horner_all : (f : ℕ → ℕ → ℕ) (y : ℕ) → y < 2 ^ 128
    → ((j x : ℕ) → j < 16 → x < 256 → f j x ≡ byte_of j (spelled (from_last x y 8)))
    → (v : List ℕ) → All (λ b. b < 256) v → horner (λ j. map (f j) v) 16 ≡ product (front v) y
unfolding front
horner_all f y ly each [] h = horner_of_none 16 ∙ sym (product_of_zero y)
horner_all f y ly each (x ∷ v) h =
    let lx = All-head (λ b. b < 256) x v h in
    let tail = All-tail (λ b. b < 256) x v h in
    let w = from_last x y 8 in
    let lw : w < 2 ^ 128 = from_last-lt x y 8 ly in
    let made : spelled w ≡ map (λ j. f j x) (range_with_len 0 16) =
    fill_by_all (λ j. f j x) (spelled w) 16 0 (length-spelled w) (λ j lt. sym (each j x lt lx)) in
    let first : horner (λ j. f j x ∷ []) 16 ≡ product (x * 2 ^ 120) y =
    horner_of_byte (λ j. f j x) 16 (omega arith) ∙ ap front (sym made)
    ∙ front-number (spelled w) (length-spelled w) (bytes-spelled w) ∙ number-spelled w lw ∙ sym (product-first x y lx) in
    horner-cons f x v 16
    ∙ ap (λ u. bit_xor u (shifted_by (horner (λ j. map (f j) v) 16) 8)) first
    ∙ ap (λ u. bit_xor (product (x * 2 ^ 120) y) (shifted_by u 8)) (horner_all f y ly each v tail)
    ∙ ap (bit_xor (product (x * 2 ^ 120) y)) (sym (product-shifted_by (front v) y 8 (front-lt v tail) ly))
    ∙ sym (product-xor (x * 2 ^ 120) (shifted_by (front v) 8) y)

-- what the tables hold
low-is : (x : ℕ) → x < 256 → low x ≡ x % 16
unfolding low
low-is x lt = same_at_bytes low (λ x. x % 16) refl x lt

entry-is : (table : List ℕ) (j : ℕ) → j < 16 → entry table j ≡ get_or table j 0
unfolding entry
entry-is table j lt =
    let same : j % 16 ≡ j = omega arith in
    let below : nat_le 128 j ≡ false = ap (nat_le 128) (sym same) ∙ same_at_bytes (λ j. nat_le 128 (j % 16)) (λ _. false) refl j (omega arith) in
    ap (λ b. if b then 0 else get_or table j 0) below

columns_at : (g : ℕ → ℕ) (place n : ℕ) → place < 16 → n < 16 → get_or (get_or (columns g) place []) n 0 ≡ byte_of place (spelled (g n))
unfolding columns
columns_at g place n lp ln =
    ap (λ xs. get_or xs n 0) (get_or-map-range_with_len (λ place. map (λ n. byte_of place (spelled (g n))) (range_with_len 0 16)) 0 16 place place [] lp (omega arith))
    ∙ get_or-map-range_with_len (λ n. byte_of place (spelled (g n))) 0 16 n n 0 ln (omega arith)

pub column_at : (upper lower : List (List ℕ)) → IsTable upper lower → (place x : ℕ) → place < 16 → x < 256
    → by_halves (get_or lower place []) (get_or upper place []) x ≡ byte_of place (spelled (from_last x (table_block upper) 8))
unfolding by_halves high
column_at upper lower h place x lp lx =
    let y = table_block upper in
    let a = shifted_by (from_last (x % 16) y 4) 4 in
    let b = from_last (x / 16) y 4 in
    let first : entry (get_or lower place []) (low x) ≡ byte_of place (spelled a) =
    ap (entry (get_or lower place [])) (low-is x lx) ∙ entry-is (get_or lower place []) (x % 16) (omega arith)
    ∙ ap (λ t. get_or (get_or t place []) (x % 16) 0) h.lowers ∙ columns_at (λ n. shifted_by (from_last n y 4) 4) place (x % 16) lp (omega arith) in
    let second : entry (get_or upper place []) (x / 16) ≡ byte_of place (spelled b) =
    entry-is (get_or upper place []) (x / 16) (omega arith)
    ∙ ap (λ t. get_or (get_or t place []) (x / 16) 0) h.uppers ∙ columns_at (λ n. from_last n y 4) place (x / 16) lp (omega arith) in
    let whole : bit_xor a b ≡ from_last x y 8 =
    ap (λ v. bit_xor (shifted_by v 4) b) (sym (from_last-mod x y)) ∙ sym (from_last-add x y 4 4) in
    ap (λ v. bit_xor v (entry (get_or upper place []) (x / 16))) first ∙ ap (bit_xor (byte_of place (spelled a))) second
    ∙ sym (get_or-zip2 bit_xor (spelled a) (spelled b) place 0 0 0 (omega (arith, lp, length-spelled a)) (omega (arith, lp, length-spelled b)))
    ∙ ap (byte_of place) (sym (spelled-xor a b)) ∙ ap (λ v. byte_of place (spelled v)) whole
