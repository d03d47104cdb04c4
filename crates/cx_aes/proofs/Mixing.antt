-- The sum of the four swizzles of a round is a matrix times the shifted rows, and the key.
use Rattle.std.proofs.Common.{◌≡◌, ℕ, ◌<◌, List, [], ◌∷◌, ◌++◌, map, get_or, bit_xor, refl, sym, ap, ◌∙◌}
use Rattle.std.specs.List.{range_with_len}
use Rattle.std.specs.Int.Bits.{xor_assoc}
use lib.Lanes.{pick_l, zip2}
use Rattle.cx_aes.specs.Field.{inverse_sbox, sbox, times}
use Rattle.cx_aes.specs.Cipher.{IsBlock, add, mix_column, mix_columns, row, shift_rows, sub_bytes}
use Rattle.cx_aes.specs.Inverse.{inverse_mix_column, inverse_mix_columns, inverse_shift_rows, inverse_sub_bytes}
use Rattle.cx_aes.specs.declared.inverse_basis.TheConstants.{BACK}
use Rattle.cx_aes.specs.Basis.{into}
use Rattle.cx_aes.specs.InverseBasis.{back, linear}
use Rattle.cx_aes.proofs.Bytes.{inverse_sbox-lt, sbox-lt}
use Rattle.cx_aes.proofs.Sums.{sum-lt, times-lt}
use Rattle.cx_aes.proofs.Rows.{row-turned}
use Rattle.cx_aes.proofs.Places.{cells, cells-is}
use Rattle.cx_aes.proofs.Blocks.{byte_at}
use Rattle.cx_aes.proofs.Substitutions.{into-xor, linear-xor}

-- f is linear, and g is f with a constant added
pub record Moves (f g : ℕ → ℕ) : Type 0 where
  pub sum : (a b : ℕ) → a < 256 → b < 256 → f (bit_xor a b) ≡ bit_xor (f a) (f b)
  pub key : (a k : ℕ) → a < 256 → k < 256 → bit_xor (f a) (g k) ≡ g (bit_xor a k)

pub into_moves : Moves into into
into_moves = record { sum = into-xor; key = λ a k la lk. sym (into-xor a k la lk) }

pub back_moves : Moves linear back
unfolding back
back_moves = record {
  sum = linear-xor;
  key = λ a k la lk. sym (xor_assoc (linear a) (linear k) BACK) ∙ ap (λ v. bit_xor v BACK) (sym (linear-xor a k la lk));
}

-- one place: a row of the matrix times a column, and a byte of the key
module _ (f g : ℕ → ℕ) (moves : Moves f g) where
  cell : (p q r s a b c d k : ℕ) → a < 256 → b < 256 → c < 256 → d < 256 → k < 256
      → bit_xor (bit_xor (bit_xor (f (times a p)) (f (times b q))) (bit_xor (f (times c r)) (f (times d s)))) (g k)
      ≡ g (bit_xor (row p q r s a b c d) k)
  unfolding row
  cell p q r s a b c d k la lb lc ld lk =
      let w = times a p in
      let x = times b q in
      let y = times c r in
      let z = times d s in
      let lw = times-lt a p la in
      let lx = times-lt b q lb in
      let ly = times-lt c r lc in
      let lz = times-lt d s ld in
      ap (λ v. bit_xor v (g k))
      (ap (λ v. bit_xor v (bit_xor (f y) (f z))) (sym (moves.sum w x lw lx)) ∙ ap (λ v. bit_xor (f (bit_xor w x)) v) (sym (moves.sum y z ly lz))
      ∙ sym (moves.sum (bit_xor w x) (bit_xor y z) (sum-lt w x lw lx) (sum-lt y z ly lz)))
      ∙ moves.key (bit_xor (bit_xor w x) (bit_xor y z)) k (sum-lt (bit_xor w x) (bit_xor y z) (sum-lt w x lw lx) (sum-lt y z ly lz)) lk

  -- one column, and what follows it in a list
  column : (p q r s a b c d k l m n : ℕ) → a < 256 → b < 256 → c < 256 → d < 256 → k < 256 → l < 256 → m < 256 → n < 256
      → {xs ys : List ℕ} → xs ≡ ys
      → bit_xor (bit_xor (bit_xor (f (times a p)) (f (times b q))) (bit_xor (f (times c r)) (f (times d s)))) (g k)
      ∷ bit_xor (bit_xor (bit_xor (f (times b p)) (f (times c q))) (bit_xor (f (times d r)) (f (times a s)))) (g l)
      ∷ bit_xor (bit_xor (bit_xor (f (times c p)) (f (times d q))) (bit_xor (f (times a r)) (f (times b s)))) (g m)
      ∷ bit_xor (bit_xor (bit_xor (f (times d p)) (f (times a q))) (bit_xor (f (times b r)) (f (times c s)))) (g n) ∷ xs
      ≡ g (bit_xor (row p q r s a b c d) k) ∷ g (bit_xor (row s p q r a b c d) l)
      ∷ g (bit_xor (row r s p q a b c d) m) ∷ g (bit_xor (row q r s p a b c d) n) ∷ ys
  column p q r s a b c d k l m n la lb lc ld lk ll lm ln e =
      cc (
        cell p q r s a b c d k la lb lc ld lk,
        cell p q r s b c d a l lb lc ld la ll,
        cell p q r s c d a b m lc ld la lb lm,
        cell p q r s d a b c n ld la lb lc ln,
        row-turned s p q r a b c d,
        row-turned r s p q a b c d,
        row-turned s p q r b c d a,
        row-turned q r s p a b c d,
        row-turned r s p q b c d a,
        row-turned s p q r c d a b,
        e,
      )

-- the bytes at these places
abbrev pub swizzled : List ℕ → List ℕ → List ℕ
swizzled v places = pick_l 0 (v ++ v) places

abbrev pub mixed : List ℕ → List ℕ → List ℕ → List ℕ → List ℕ → List ℕ
mixed own next third fourth key =
    zip2 bit_xor
    (zip2 bit_xor
    (zip2 bit_xor (swizzled own (0 ∷ 5 ∷ 10 ∷ 15 ∷ 4 ∷ 9 ∷ 14 ∷ 3 ∷ 8 ∷ 13 ∷ 2 ∷ 7 ∷ 12 ∷ 1 ∷ 6 ∷ 11 ∷ [])) (swizzled next (5 ∷ 10 ∷ 15 ∷ 0 ∷ 9 ∷ 14 ∷ 3 ∷ 4 ∷ 13 ∷ 2 ∷ 7 ∷ 8 ∷ 1 ∷ 6 ∷ 11 ∷ 12 ∷ [])))
    (zip2 bit_xor (swizzled third (10 ∷ 15 ∷ 0 ∷ 5 ∷ 14 ∷ 3 ∷ 4 ∷ 9 ∷ 2 ∷ 7 ∷ 8 ∷ 13 ∷ 6 ∷ 11 ∷ 12 ∷ 1 ∷ [])) (swizzled fourth (15 ∷ 0 ∷ 5 ∷ 10 ∷ 3 ∷ 4 ∷ 9 ∷ 14 ∷ 7 ∷ 8 ∷ 13 ∷ 2 ∷ 11 ∷ 12 ∷ 1 ∷ 6 ∷ []))))
    key

mixed-cells : (x y : ℕ → ℕ) → ((i : ℕ) → x i < 256) → ((i : ℕ) → y i < 256)
    → let s = map x (range_with_len 0 16) in
    let k = map y (range_with_len 0 16) in
    mixed (map (λ x. into (times (sbox x) 2)) s) (map (λ x. into (times (sbox x) 3)) s) (map (λ x. into (times (sbox x) 1)) s)
    (map (λ x. into (times (sbox x) 1)) s) (map into k)
    ≡ map into (add (mix_columns (shift_rows (sub_bytes s))) k)
unfolding add mix_columns mix_column shift_rows sub_bytes
mixed-cells x y lx ly =
    let lt : (i : ℕ) → sbox (x i) < 256 = λ i. sbox-lt (x i) (lx i) in
    (column into into into_moves 2 3 1 1 (sbox (x 0)) (sbox (x 5)) (sbox (x 10)) (sbox (x 15)) (y 0) (y 1) (y 2) (y 3)
    (lt 0) (lt 5) (lt 10) (lt 15) (ly 0) (ly 1) (ly 2) (ly 3)
    (column into into into_moves 2 3 1 1 (sbox (x 4)) (sbox (x 9)) (sbox (x 14)) (sbox (x 3)) (y 4) (y 5) (y 6) (y 7)
    (lt 4) (lt 9) (lt 14) (lt 3) (ly 4) (ly 5) (ly 6) (ly 7)
    (column into into into_moves 2 3 1 1 (sbox (x 8)) (sbox (x 13)) (sbox (x 2)) (sbox (x 7)) (y 8) (y 9) (y 10) (y 11)
    (lt 8) (lt 13) (lt 2) (lt 7) (ly 8) (ly 9) (ly 10) (ly 11)
    (column into into into_moves 2 3 1 1 (sbox (x 12)) (sbox (x 1)) (sbox (x 6)) (sbox (x 11)) (y 12) (y 13) (y 14) (y 15)
    (lt 12) (lt 1) (lt 6) (lt 11) (ly 12) (ly 13) (ly 14) (ly 15)
    refl))))

pub mixed-is : (s k own next third fourth key : List ℕ) → IsBlock s → IsBlock k → own ≡ map (λ x. into (times (sbox x) 2)) s
    → next ≡ map (λ x. into (times (sbox x) 3)) s → third ≡ map (λ x. into (times (sbox x) 1)) s
    → fourth ≡ map (λ x. into (times (sbox x) 1)) s → key ≡ map into k
    → mixed own next third fourth key ≡ map into (add (mix_columns (shift_rows (sub_bytes s))) k)
mixed-is s k own next third fourth key hs hk e2 e3 e1 e0 ek =
    let cs = cells-is 16 s hs.len in
    let ck = cells-is 16 k hk.len in
    let double : ℕ → ℕ = λ x. into (times (sbox x) 2) in
    let triple : ℕ → ℕ = λ x. into (times (sbox x) 3) in
    let single : ℕ → ℕ = λ x. into (times (sbox x) 1) in
    ap (λ v. mixed v next third fourth key) (e2 ∙ ap (map double) (sym cs))
    ∙ ap (λ v. mixed (map double (cells 16 s)) v third fourth key) (e3 ∙ ap (map triple) (sym cs))
    ∙ ap (λ v. mixed (map double (cells 16 s)) (map triple (cells 16 s)) v fourth key) (e1 ∙ ap (map single) (sym cs))
    ∙ ap (λ v. mixed (map double (cells 16 s)) (map triple (cells 16 s)) (map single (cells 16 s)) v key) (e0 ∙ ap (map single) (sym cs))
    ∙ ap (λ v. mixed (map double (cells 16 s)) (map triple (cells 16 s)) (map single (cells 16 s)) (map single (cells 16 s)) v) (ek ∙ ap (map into) (sym ck))
    ∙ mixed-cells (λ i. get_or s i 0) (λ i. get_or k i 0) (byte_at s hs.bytes) (byte_at k hk.bytes)
    ∙ ap (λ v. map into (add (mix_columns (shift_rows (sub_bytes v))) (cells 16 k))) cs
    ∙ ap (λ v. map into (add (mix_columns (shift_rows (sub_bytes s))) v)) ck

abbrev pub unmixed : List ℕ → List ℕ → List ℕ → List ℕ → List ℕ → List ℕ
unmixed own next third fourth key =
    zip2 bit_xor
    (zip2 bit_xor
    (zip2 bit_xor (swizzled own (0 ∷ 13 ∷ 10 ∷ 7 ∷ 4 ∷ 1 ∷ 14 ∷ 11 ∷ 8 ∷ 5 ∷ 2 ∷ 15 ∷ 12 ∷ 9 ∷ 6 ∷ 3 ∷ [])) (swizzled next (13 ∷ 10 ∷ 7 ∷ 0 ∷ 1 ∷ 14 ∷ 11 ∷ 4 ∷ 5 ∷ 2 ∷ 15 ∷ 8 ∷ 9 ∷ 6 ∷ 3 ∷ 12 ∷ [])))
    (zip2 bit_xor (swizzled third (10 ∷ 7 ∷ 0 ∷ 13 ∷ 14 ∷ 11 ∷ 4 ∷ 1 ∷ 2 ∷ 15 ∷ 8 ∷ 5 ∷ 6 ∷ 3 ∷ 12 ∷ 9 ∷ [])) (swizzled fourth (7 ∷ 0 ∷ 13 ∷ 10 ∷ 11 ∷ 4 ∷ 1 ∷ 14 ∷ 15 ∷ 8 ∷ 5 ∷ 2 ∷ 3 ∷ 12 ∷ 9 ∷ 6 ∷ []))))
    key

unmixed-cells : (x y : ℕ → ℕ) → ((i : ℕ) → x i < 256) → ((i : ℕ) → y i < 256)
    → let s = map x (range_with_len 0 16) in
    let k = map y (range_with_len 0 16) in
    unmixed (map (λ x. linear (times (inverse_sbox x) 14)) s) (map (λ x. linear (times (inverse_sbox x) 11)) s)
    (map (λ x. linear (times (inverse_sbox x) 13)) s) (map (λ x. linear (times (inverse_sbox x) 9)) s) (map back k)
    ≡ map back (add (inverse_mix_columns (inverse_sub_bytes (inverse_shift_rows s))) k)
unfolding add inverse_mix_columns inverse_mix_column inverse_shift_rows inverse_sub_bytes
unmixed-cells x y lx ly =
    let lt : (i : ℕ) → inverse_sbox (x i) < 256 = λ i. inverse_sbox-lt (x i) (lx i) in
    (column linear back back_moves 14 11 13 9 (inverse_sbox (x 0)) (inverse_sbox (x 13)) (inverse_sbox (x 10)) (inverse_sbox (x 7)) (y 0) (y 1) (y 2) (y 3)
    (lt 0) (lt 13) (lt 10) (lt 7) (ly 0) (ly 1) (ly 2) (ly 3)
    (column linear back back_moves 14 11 13 9 (inverse_sbox (x 4)) (inverse_sbox (x 1)) (inverse_sbox (x 14)) (inverse_sbox (x 11)) (y 4) (y 5) (y 6) (y 7)
    (lt 4) (lt 1) (lt 14) (lt 11) (ly 4) (ly 5) (ly 6) (ly 7)
    (column linear back back_moves 14 11 13 9 (inverse_sbox (x 8)) (inverse_sbox (x 5)) (inverse_sbox (x 2)) (inverse_sbox (x 15)) (y 8) (y 9) (y 10) (y 11)
    (lt 8) (lt 5) (lt 2) (lt 15) (ly 8) (ly 9) (ly 10) (ly 11)
    (column linear back back_moves 14 11 13 9 (inverse_sbox (x 12)) (inverse_sbox (x 9)) (inverse_sbox (x 6)) (inverse_sbox (x 3)) (y 12) (y 13) (y 14) (y 15)
    (lt 12) (lt 9) (lt 6) (lt 3) (ly 12) (ly 13) (ly 14) (ly 15)
    refl))))

pub unmixed-is : (s k own next third fourth key : List ℕ) → IsBlock s → IsBlock k → own ≡ map (λ x. linear (times (inverse_sbox x) 14)) s
    → next ≡ map (λ x. linear (times (inverse_sbox x) 11)) s → third ≡ map (λ x. linear (times (inverse_sbox x) 13)) s
    → fourth ≡ map (λ x. linear (times (inverse_sbox x) 9)) s → key ≡ map back k
    → unmixed own next third fourth key ≡ map back (add (inverse_mix_columns (inverse_sub_bytes (inverse_shift_rows s))) k)
unmixed-is s k own next third fourth key hs hk e14 e11 e13 e9 ek =
    let cs = cells-is 16 s hs.len in
    let ck = cells-is 16 k hk.len in
    let m14 : ℕ → ℕ = λ x. linear (times (inverse_sbox x) 14) in
    let m11 : ℕ → ℕ = λ x. linear (times (inverse_sbox x) 11) in
    let m13 : ℕ → ℕ = λ x. linear (times (inverse_sbox x) 13) in
    let m9 : ℕ → ℕ = λ x. linear (times (inverse_sbox x) 9) in
    ap (λ v. unmixed v next third fourth key) (e14 ∙ ap (map m14) (sym cs))
    ∙ ap (λ v. unmixed (map m14 (cells 16 s)) v third fourth key) (e11 ∙ ap (map m11) (sym cs))
    ∙ ap (λ v. unmixed (map m14 (cells 16 s)) (map m11 (cells 16 s)) v fourth key) (e13 ∙ ap (map m13) (sym cs))
    ∙ ap (λ v. unmixed (map m14 (cells 16 s)) (map m11 (cells 16 s)) (map m13 (cells 16 s)) v key) (e9 ∙ ap (map m9) (sym cs))
    ∙ ap (λ v. unmixed (map m14 (cells 16 s)) (map m11 (cells 16 s)) (map m13 (cells 16 s)) (map m9 (cells 16 s)) v) (ek ∙ ap (map back) (sym ck))
    ∙ unmixed-cells (λ i. get_or s i 0) (λ i. get_or k i 0) (byte_at s hs.bytes) (byte_at k hk.bytes)
    ∙ ap (λ v. map back (add (inverse_mix_columns (inverse_sub_bytes (inverse_shift_rows v))) (cells 16 k))) cs
    ∙ ap (λ v. map back (add (inverse_mix_columns (inverse_sub_bytes (inverse_shift_rows s))) v)) ck
