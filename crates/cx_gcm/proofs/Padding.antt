-- What is hashed, block by block.
use Rattle.std.proofs.Common.{◌≡◌, ℕ, suc, ◌<◌, ◌≤◌, ◌+◌, ◌-◌, ◌*◌, ◌/◌, ◌%◌, ◌^◌, List, [], ◌∷◌, ◌++◌, drop, length, get_or, replicate, take, bit_xor, refl, sym, ap, ◌∙◌, inl, inr, arith, length-append, length-take, length-drop}
use Rattle.std.specs.Int.{w64, to_be_bytes}
use Rattle.std.proofs.lemmas.Bool.{cases_lt}
use Rattle.std.proofs.lemmas.Nat.{from_be_bytes-to_be_bytes_8}
use Rattle.std.proofs.lemmas.List.{drop_at, ext_get_or, get_or_append_left, get_or-append_right, get_or-drop, get_or_past, get_or-replicate, get_or-take, length-replicate}
use Rattle.cx_gcm.specs.Blocks.{number, product, spelled, stepped}
use Rattle.std.proofs.lemmas.Simd.{get_or-chunk, length-chunk}
use lib.Lanes.{chunk}
use Rattle.cx_gcm.proofs.Digits.{number-spelled}
use Rattle.cx_gcm.specs.Gcm.{ghash, hashed}

unfoldable pub padded : List ℕ → List ℕ
padded c = c ++ replicate ((16 - length c % 16) % 16) 0

unfoldable pub lengths : ℕ → List ℕ
lengths n = to_be_bytes w64 0 ++ to_be_bytes w64 (8 * n)

pub hashed_is : (c : List ℕ) → hashed c ≡ padded c ++ lengths (length c)
unfolding hashed padded lengths
hashed_is c = refl

pub length-padded : (c : List ℕ) → length (padded c) ≡ 16 * ((length c + 15) / 16)
unfolding padded
length-padded c =
    let n = length c in
    let fill = (16 - n % 16) % 16 in
    length-append c (replicate fill 0) ∙ ap (λ m. n + m) (length-replicate {A = ℕ} fill 0) ∙ omega arith

pub length-hashed : (c : List ℕ) → length (hashed c) ≡ 16 * ((length c + 15) / 16 + 1)
unfolding lengths
length-hashed c =
    ap length (hashed_is c) ∙ length-append (padded c) (lengths (length c)) ∙ ap (λ m. m + 16) (length-padded c) ∙ omega arith

pub blocks-hashed : (c : List ℕ) → length (hashed c) / 16 ≡ (length c + 15) / 16 + 1
blocks-hashed c = omega (arith, length-hashed c)

-- past the end a read gives 0, as the fill does
get_or-padded : (c : List ℕ) (j : ℕ) → get_or (padded c) j 0 ≡ get_or c j 0
unfolding padded
get_or-padded c j =
    let fill = (16 - length c % 16) % 16 in
    elim (cases_lt j (length c)) [
      | inl lt ↦ get_or_append_left c (replicate fill 0) 0 j lt
      | inr le ↦
          get_or-append_right c (replicate fill 0) (length c) j 0 refl le ∙ zeros fill (j - length c) ∙ sym (get_or_past c j 0 le)
    ]
  where
    zeros : (n i : ℕ) → ◌≡◌ {A = ℕ} (get_or (replicate n 0) i 0) 0
    zeros n i =
        elim (cases_lt i n) [
          | inl lt ↦ get_or-replicate n i 0 0 lt
          | inr le ↦ get_or_past (replicate n 0) i 0 (omega (arith, length-replicate {A = ℕ} n 0))
        ]

pub block_of_hashed : (c block : List ℕ) (n : ℕ) → length block ≡ 16 → n < (length c + 15) / 16
    → ((k : ℕ) → k < 16 → get_or block k 0 ≡ get_or c (16 * n + k) 0) → block ≡ take 16 (drop (16 * n) (hashed c))
block_of_hashed c block n len lt each =
    let tail = lengths (length c) in
    let size : length (take 16 (drop (16 * n) (hashed c))) ≡ 16 =
    omega (arith, length-take 16 (drop (16 * n) (hashed c)), length-drop (16 * n) (hashed c), length-hashed c) in
    ext_get_or 0 block (take 16 (drop (16 * n) (hashed c))) (len ∙ sym size)
    (λ k small.
    let inside : k < 16 = omega arith in
    each k inside ∙ sym (get_or-padded c (16 * n + k))
    ∙ sym (get_or_append_left (padded c) tail 0 (16 * n + k) (omega (arith, length-padded c)))
    ∙ ap (λ xs. get_or xs (16 * n + k) 0) (sym (hashed_is c))
    ∙ sym (get_or-take 16 (drop (16 * n) (hashed c)) k 0 inside ∙ get_or-drop (16 * n) (hashed c) k 0))

number-lengths : (n : ℕ) → 8 * n < 2 ^ 64 → number (lengths n) ≡ 8 * n
unfolding number lengths
number-lengths n lt = omega (arith, from_be_bytes-to_be_bytes_8 (8 * n) lt)

pub last_of_hashed : (c : List ℕ) → 8 * length c < 2 ^ 64 → number (take 16 (drop (16 * ((length c + 15) / 16)) (hashed c))) ≡ 8 * length c
unfolding lengths
last_of_hashed c lt =
    let tail = lengths (length c) in
    ap (λ xs. number (take 16 (drop (16 * ((length c + 15) / 16)) xs))) (hashed_is c)
    ∙ ap (λ xs. number (take 16 xs)) (drop_at (padded c) tail (16 * ((length c + 15) / 16)) (length-padded c))
    ∙ number-lengths (length c) lt

pub ghash_more : (h : ℕ) (bytes : List ℕ) (n : ℕ)
    → ghash h bytes (n + 1) ≡ product (bit_xor (ghash h bytes n) (number (take 16 (drop (16 * n) bytes)))) h
unfolding ghash
ghash_more h bytes n = let e : n + 1 ≡ suc n = omega arith in rw e refl

pub ghash_none : (h : ℕ) (bytes : List ℕ) → ghash h bytes 0 ≡ 0
unfolding ghash
ghash_none h bytes = refl

-- sixteen bytes of the text are a block of what is hashed
block_in_text : (c : List ℕ) (p m : ℕ) → p ≡ 16 * m → p + 16 ≤ length c → chunk p 16 c ≡ take 16 (drop (16 * m) (hashed c))
block_in_text c p m e le =
    block_of_hashed c (chunk p 16 c) m (length-chunk p 16 c le) (omega (arith, e, le))
    (λ k lt. get_or-chunk p 16 c k 0 lt ∙ ap (λ i. get_or c (i + k) 0) e)

-- one step, by a block
pub one_step : (h : ℕ) (c block : List ℕ) (m : ℕ) → block ≡ take 16 (drop (16 * m) (hashed c))
    → stepped h (ghash h (hashed c) m) (number block) ≡ ghash h (hashed c) (m + 1)
one_step h c block m e = ap (λ b. stepped h (ghash h (hashed c) m) (number b)) e ∙ sym (ghash_more h (hashed c) m)

-- four steps
pub four_blocks : (h : ℕ) (c : List ℕ) (n : ℕ) → 64 * n + 64 ≤ length c
    → stepped h (stepped h (stepped h (stepped h (ghash h (hashed c) (4 * n)) (number (chunk (64 * n) 16 c))) (number (chunk (64 * n + 16) 16 c)))
    (number (chunk (64 * n + 32) 16 c))) (number (chunk (64 * n + 48) 16 c))
    ≡ ghash h (hashed c) (4 * (n + 1))
four_blocks h c n le =
    let b = chunk (64 * n + 16) 16 c in
    let d = chunk (64 * n + 32) 16 c in
    let f = chunk (64 * n + 48) 16 c in
    let all : 4 * n + 1 + 1 + 1 + 1 ≡ 4 * (n + 1) = omega arith in
    ap (λ s. stepped h (stepped h (stepped h s (number b)) (number d)) (number f))
    (one_step h c (chunk (64 * n) 16 c) (4 * n) (block_in_text c (64 * n) (4 * n) (omega arith) (omega arith)))
    ∙ ap (λ s. stepped h (stepped h s (number d)) (number f)) (one_step h c b (4 * n + 1) (block_in_text c (64 * n + 16) (4 * n + 1) (omega arith) (omega arith)))
    ∙ ap (λ s. stepped h s (number f)) (one_step h c d (4 * n + 1 + 1) (block_in_text c (64 * n + 32) (4 * n + 1 + 1) (omega arith) (omega arith)))
    ∙ one_step h c f (4 * n + 1 + 1 + 1) (block_in_text c (64 * n + 48) (4 * n + 1 + 1 + 1) (omega arith) (omega arith))
    ∙ ap (ghash h (hashed c)) all

-- the last step, with the lengths
pub last_step : (h : ℕ) (c lengths : List ℕ) (m n : ℕ) → n ≡ m → m ≡ (length c + 15) / 16 → 8 * length c < 2 ^ 64 → lengths ≡ spelled (8 * length c)
    → stepped h (ghash h (hashed c) n) (number lengths) ≡ ghash h (hashed c) (length (hashed c) / 16)
last_step h c lengths m n en em lt el =
    ap (λ i. stepped h (ghash h (hashed c) i) (number lengths)) (en ∙ em)
    ∙ ap (stepped h (ghash h (hashed c) ((length c + 15) / 16)))
    (ap number el ∙ number-spelled (8 * length c) (omega (arith, lt)) ∙ sym (last_of_hashed c lt))
    ∙ sym (ghash_more h (hashed c) ((length c + 15) / 16))
    ∙ ap (ghash h (hashed c)) (sym (blocks-hashed c))

pub number_of_zeros : number (0 ∷ 0 ∷ 0 ∷ 0 ∷ 0 ∷ 0 ∷ 0 ∷ 0 ∷ 0 ∷ 0 ∷ 0 ∷ 0 ∷ 0 ∷ 0 ∷ 0 ∷ 0 ∷ []) ≡ 0
unfolding number
number_of_zeros = refl
