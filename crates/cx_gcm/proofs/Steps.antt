-- What the loop over the columns keeps, and what its end gives.
use Rattle.std.proofs.Common.{◌≡◌, ℕ, zero, suc, ◌<◌, ◌≤◌, ◌+◌, ◌-◌, ◌^◌, List, [], ◌∷◌, All, map, length, get_or, take, bit_xor, refl, sym, ap, ◌∙◌, inl, inr, subst, arith, length-take}
use Rattle.std.proofs.lemmas.Bool.{cases_lt}
use Rattle.std.proofs.lemmas.Nat.{xor_lt}
use Rattle.std.proofs.lemmas.List.{get_or-take, get_or_past, length-map}
use Rattle.std.proofs.lemmas.List.Elements.{All-from_get_or, All-get_or}
use Rattle.std.proofs.lemmas.Simd.{get_or-zip2, length-zip2}
use lib.Lanes.{zip2}
use Rattle.cx_aes.specs.Lookup.{IsSixteen, by_halves}
use Rattle.cx_aes.proofs.Maps.{IsVector, bytes_of_vector}
use Rattle.cx_gcm.specs.Blocks.{number, product, shifted, shifted_by, spelled}
use Rattle.cx_gcm.specs.Fronts.{front}
use Rattle.cx_gcm.specs.Multiples.{IsTable, columns, from_last, table_block}
use Rattle.cx_gcm.proofs.Fronts.{front-xor, next_front}
use Rattle.cx_gcm.proofs.ColumnProducts.{column_at, horner, horner-xor, horner_all, horner_more, horner_one}
use Rattle.cx_gcm.proofs.Digits.{bytes-spelled, front-lt, front-number, number-spelled}
use Rattle.cx_gcm.proofs.Products.{from_last_first}
use Rattle.cx_gcm.proofs.Linear.{from_last-lt}

pub begins : (column : ℕ → List ℕ) (lower : List ℕ) → lower ≡ column 15
    → bit_xor (front lower) (shifted_by (front (0 ∷ 0 ∷ 0 ∷ 0 ∷ 0 ∷ 0 ∷ 0 ∷ 0 ∷ 0 ∷ 0 ∷ 0 ∷ 0 ∷ 0 ∷ 0 ∷ 0 ∷ 0 ∷ [])) 128) ≡ horner column 1
unfolding front shifted shifted_by
begins column lower e = ap (λ v. bit_xor (front v) (shifted_by 0 128)) e ∙ horner_one column

pub goes_on : (column : ℕ → List ℕ) (lower upper added up low : List ℕ) (n : ℕ) → n < 15 → length lower ≡ 16 → length upper ≡ 16 → length added ≡ 16
    → get_or upper 15 0 ≡ 0 → up ≡ get_or lower 15 0 ∷ take 15 upper → low ≡ zip2 bit_xor (0 ∷ take 15 lower) added → added ≡ column (14 - n)
    → bit_xor (front lower) (shifted_by (front upper) 128) ≡ horner column (n + 1)
    → bit_xor (front low) (shifted_by (front up) 128) ≡ horner column (n + 1 + 1)
goes_on column lower upper added up low n lt llen ulen alen none eup elow ea sum =
    ap (λ v. bit_xor (front v) (shifted_by (front up) 128)) elow
    ∙ ap (λ v. bit_xor (front (zip2 bit_xor (0 ∷ take 15 lower) added)) (shifted_by (front v) 128)) eup
    ∙ next_front lower upper added llen ulen alen none
    ∙ ap (λ v. bit_xor (front v) (shifted_by (bit_xor (front lower) (shifted_by (front upper) 128)) 8)) ea
    ∙ ap (λ v. bit_xor (front (column (14 - n))) (shifted_by v 8)) sum
    ∙ horner_more column n lt

-- from place n on there are zeros
pub rest_goes_on : (lower upper up : List ℕ) (n : ℕ) → length upper ≡ 16 → up ≡ get_or lower 15 0 ∷ take 15 upper
    → ((i : ℕ) → n ≤ i → get_or upper i 0 ≡ 0) → (i : ℕ) → n + 1 ≤ i → get_or up i 0 ≡ 0
rest_goes_on lower upper up n len e rest zero le = absurd (omega arith)
rest_goes_on lower upper up n len e rest (suc i) le =
    ap (λ v. get_or v (suc i) 0) e
    ∙ elim (cases_lt i 15) [
      | inl lt ↦ get_or-take 15 upper i 0 lt ∙ rest i (omega arith)
      | inr ge ↦ get_or_past (take 15 upper) i 0 (omega (arith, length-take 15 upper, len))
    ]

Zeros : List ℕ → Type 0
Zeros [] = Unit {0}
Zeros (x ∷ xs) = (x ≡ 0) × Zeros xs

zeros : (xs : List ℕ) → Zeros xs → (i : ℕ) → get_or xs i 0 ≡ 0
unfolding Zeros
zeros [] h i = refl
zeros (x ∷ xs) h zero = h.0
zeros (x ∷ xs) h (suc i) = zeros xs h.1 i

pub no_rest : (i : ℕ) → ◌≡◌ {A = ℕ} (get_or (0 ∷ 0 ∷ 0 ∷ 0 ∷ 0 ∷ 0 ∷ 0 ∷ 0 ∷ 0 ∷ 0 ∷ 0 ∷ 0 ∷ 0 ∷ 0 ∷ 0 ∷ 0 ∷ []) i 0) 0
unfolding Zeros
no_rest i =
    let all : List ℕ = 0 ∷ 0 ∷ 0 ∷ 0 ∷ 0 ∷ 0 ∷ 0 ∷ 0 ∷ 0 ∷ 0 ∷ 0 ∷ 0 ∷ 0 ∷ 0 ∷ 0 ∷ 0 ∷ [] in
    zeros all (refl, (refl, (refl, (refl, (refl, (refl, (refl, (refl, (refl, (refl, (refl, (refl, (refl, (refl, (refl, (refl, tt)))))))))))))))) i

-- sixteen bytes as a number
pub sixteen_byte : (v : List ℕ) → IsSixteen v → (i : ℕ) → get_or v i 0 < 256
sixteen_byte v h i =
    elim (cases_lt i (length v)) [
      | inl lt ↦ All-get_or (λ b. b < 256) v i 0 lt h.bytes
      | inr le ↦ rw (get_or_past v i 0 le) (omega arith)
    ]

pub of_vector : (v : List ℕ) → IsVector v → IsSixteen v
of_vector v h = record { len = h.0; bytes = bytes_of_vector v h }

pub number-front : (v : List ℕ) → IsSixteen v → front v ≡ number v
number-front v h = front-number v h.len (sixteen_byte v h)

pub sixteen-xor : (a b : List ℕ) → IsSixteen a → IsSixteen b → IsSixteen (zip2 bit_xor a b)
sixteen-xor a b ha hb =
    let len : length (zip2 bit_xor a b) ≡ 16 = length-zip2 bit_xor a b (ha.len ∙ sym hb.len) ∙ ha.len in
    record {
      len = len;
      bytes = All-from_get_or (λ x. x < 256) (zip2 bit_xor a b) 0
          (λ i lt.
          let e = get_or-zip2 bit_xor a b i 0 0 0 (omega (arith, lt, len, ha.len)) (omega (arith, lt, len, hb.len)) in
          rw e (xor_lt 8 (get_or a i 0) (get_or b i 0) (sixteen_byte a ha i) (sixteen_byte b hb i)));
    }

pub number-xor : (a b : List ℕ) → IsSixteen a → IsSixteen b → number (zip2 bit_xor a b) ≡ bit_xor (number a) (number b)
number-xor a b ha hb =
    sym (number-front (zip2 bit_xor a b) (sixteen-xor a b ha hb))
    ∙ front-xor a b (ha.len ∙ sym hb.len) ∙ ap (λ v. bit_xor v (front b)) (number-front a ha) ∙ ap (bit_xor (number a)) (number-front b hb)

-- the block of a table
number-lt : (w : ℕ) → number (spelled w) < 2 ^ 128
unfolding number
number-lt w =
    omega (
      arith,
      bytes-spelled w 0,
      bytes-spelled w 1,
      bytes-spelled w 2,
      bytes-spelled w 3,
      bytes-spelled w 4,
      bytes-spelled w 5,
      bytes-spelled w 6,
      bytes-spelled w 7,
      bytes-spelled w 8,
      bytes-spelled w 9,
      bytes-spelled w 10,
      bytes-spelled w 11,
      bytes-spelled w 12,
      bytes-spelled w 13,
      bytes-spelled w 14,
      bytes-spelled w 15,
    )

pub block_of_columns : (g : ℕ → ℕ) → table_block (columns g) ≡ number (spelled (g 8))
unfolding table_block columns number spelled
block_of_columns g = refl

pub table-lt : (upper lower : List (List ℕ)) → IsTable upper lower → table_block upper < 2 ^ 128
table-lt upper lower h =
    let g : ℕ → ℕ = λ n. from_last n (table_block upper) 4 in
    let e : table_block upper ≡ number (spelled (g 8)) = ap table_block h.uppers ∙ block_of_columns g in
    subst (λ v. v < 2 ^ 128) (sym e) (number-lt (g 8))

-- the columns of one block
pub product_of_columns : (upper lower : List (List ℕ)) → IsTable upper lower → (x : List ℕ) → All (λ b. b < 256) x
    → horner (λ j. map (by_halves (get_or lower j []) (get_or upper j [])) x) 16 ≡ product (front x) (table_block upper)
product_of_columns upper lower h x fits =
    horner_all (λ j. by_halves (get_or lower j []) (get_or upper j [])) (table_block upper) (table-lt upper lower h)
    (λ j x lj lx. column_at upper lower h j x lj lx) x fits

-- the columns of four blocks
pub horner-four : (a b c d : ℕ → ℕ → ℕ) (x y z u : List ℕ) → length x ≡ 16 → length y ≡ 16 → length z ≡ 16 → length u ≡ 16
    → horner (λ j. zip2 bit_xor (zip2 bit_xor (map (a j) x) (map (b j) y)) (zip2 bit_xor (map (c j) z) (map (d j) u))) 16
    ≡ bit_xor (bit_xor (horner (λ j. map (a j) x) 16) (horner (λ j. map (b j) y) 16))
    (bit_xor (horner (λ j. map (c j) z) 16) (horner (λ j. map (d j) u) 16))
horner-four a b c d x y z u lx ly lz lu =
    let same : (f g : ℕ → ℕ) (v w : List ℕ) → length v ≡ 16 → length w ≡ 16 → length (map f v) ≡ length (map g w) =
    λ f g v w lv lw. length-map v f ∙ lv ∙ sym (length-map w g ∙ lw) in
    let long : (f g : ℕ → ℕ) (v w : List ℕ) → length v ≡ 16 → length w ≡ 16 → length (zip2 bit_xor (map f v) (map g w)) ≡ 16 =
    λ f g v w lv lw. length-zip2 bit_xor (map f v) (map g w) (same f g v w lv lw) ∙ length-map v f ∙ lv in
    horner-xor (λ j. zip2 bit_xor (map (a j) x) (map (b j) y)) (λ j. zip2 bit_xor (map (c j) z) (map (d j) u))
    (λ j. long (a j) (b j) x y lx ly ∙ sym (long (c j) (d j) z u lz lu)) 16
    ∙ ap (λ v. bit_xor v (horner (λ j. zip2 bit_xor (map (c j) z) (map (d j) u)) 16))
    (horner-xor (λ j. map (a j) x) (λ j. map (b j) y) (λ j. same (a j) (b j) x y lx ly) 16)
    ∙ ap (bit_xor (bit_xor (horner (λ j. map (a j) x) 16) (horner (λ j. map (b j) y) 16)))
    (horner-xor (λ j. map (c j) z) (λ j. map (d j) u) (λ j. same (c j) (d j) z u lz lu) 16)

pub length-four : (f g h k : ℕ → ℕ) (x y z u : List ℕ) → length x ≡ 16 → length y ≡ 16 → length z ≡ 16 → length u ≡ 16
    → length (zip2 bit_xor (zip2 bit_xor (map f x) (map g y)) (zip2 bit_xor (map h z) (map k u))) ≡ 16
length-four f g h k x y z u lx ly lz lu =
    let fx : length (map f x) ≡ 16 = length-map x f ∙ lx in
    let gy : length (map g y) ≡ 16 = length-map y g ∙ ly in
    let hz : length (map h z) ≡ 16 = length-map z h ∙ lz in
    let ku : length (map k u) ≡ 16 = length-map u k ∙ lu in
    let first : length (zip2 bit_xor (map f x) (map g y)) ≡ 16 = length-zip2 bit_xor (map f x) (map g y) (fx ∙ sym gy) ∙ fx in
    let second : length (zip2 bit_xor (map h z) (map k u)) ≡ 16 = length-zip2 bit_xor (map h z) (map k u) (hz ∙ sym ku) ∙ hz in
    length-zip2 bit_xor (zip2 bit_xor (map f x) (map g y)) (zip2 bit_xor (map h z) (map k u)) (first ∙ sym second) ∙ first

-- the columns of one of the four, as a product of numbers
pub one_of_four : (upper lower : List (List ℕ)) → IsTable upper lower → (x : List ℕ) → IsSixteen x
    → horner (λ j. map (by_halves (get_or lower j []) (get_or upper j [])) x) 16 ≡ product (number x) (table_block upper)
one_of_four upper lower h x hx =
    product_of_columns upper lower h x hx.bytes ∙ ap (λ v. product v (table_block upper)) (number-front x hx)

-- the tables that are made
pub block_of_tables : (h : ℕ) (upper : List (List ℕ)) → h < 2 ^ 128 → upper ≡ columns (λ n. from_last n h 4) → table_block upper ≡ h
block_of_tables h upper lh e =
    ap table_block e ∙ block_of_columns (λ n. from_last n h 4) ∙ ap (λ v. number (spelled v)) (from_last_first h) ∙ number-spelled h lh

pub is_table : (h : ℕ) (upper lower : List (List ℕ)) → table_block upper ≡ h → upper ≡ columns (λ n. from_last n h 4)
    → lower ≡ columns (λ n. shifted_by (from_last n h 4) 4) → IsTable upper lower
is_table h upper lower eb eu el = record {
  uppers = eu ∙ ap (λ y. columns (λ n. from_last n y 4)) (sym eb);
  lowers = el ∙ ap (λ y. columns (λ n. shifted_by (from_last n y 4) 4)) (sym eb);
}

pub block-lt : (v : List ℕ) → length v ≡ 16 → ((i : ℕ) → get_or v i 0 < 256) → number v < 2 ^ 128
block-lt v len fits =
    let all : All (λ b. b < 256) v = All-from_get_or (λ b. b < 256) v 0 (λ i lt. fits i) in
    subst (λ n. n < 2 ^ 128) (front-number v len fits) (front-lt v all)
