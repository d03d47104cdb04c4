-- The rows of the two matrices.
use Rattle.std.proofs.Common.{◌≡◌, ℕ, ◌<◌, List, ◌∷◌, bit_xor, get_or, length, refl, sym, ap, ◌∙◌}
use Rattle.std.specs.Int.Bits.{xor_assoc}
use Rattle.std.proofs.lemmas.Nat.{xor_comm}
use Rattle.std.proofs.lemmas.List.FromFn.{fill_by_all}
use Rattle.cx_aes.specs.Field.{times}
use Rattle.cx_aes.specs.Columns.{turned_columns}
use Rattle.cx_aes.specs.Inverse.{inverse_mix_column, inverse_mix_columns}
use Rattle.cx_aes.specs.Cipher.{row}

-- a row and a column turned by one place
pub row-turned : (p q r s a b c d : ℕ) → row p q r s a b c d ≡ row q r s p b c d a
unfolding row
row-turned p q r s a b c d =
    let w = times a p in
    let x = times b q in
    let y = times c r in
    let z = times d s in
    xor_assoc w x (bit_xor y z) ∙ xor_comm w (bit_xor x (bit_xor y z)) ∙ ap (λ v. bit_xor v w) (sym (xor_assoc x y z))
    ∙ xor_assoc (bit_xor x y) z w

-- a matrix whose rows are its first row turned, times a column
pub turned_rows : (p q r s a b c d : ℕ) {m0 m1 m2 m3 : ℕ} {xs ys : List ℕ}
    → m0 ≡ row p q r s a b c d → m1 ≡ row p q r s b c d a → m2 ≡ row p q r s c d a b → m3 ≡ row p q r s d a b c → xs ≡ ys
    → m0 ∷ m1 ∷ m2 ∷ m3 ∷ xs ≡ row p q r s a b c d ∷ row s p q r a b c d ∷ row r s p q a b c d ∷ row q r s p a b c d ∷ ys
turned_rows p q r s a b c d e0 e1 e2 e3 e =
    cc (
      row-turned s p q r a b c d,
      row-turned r s p q a b c d,
      row-turned s p q r b c d a,
      row-turned q r s p a b c d,
      row-turned r s p q b c d a,
      row-turned s p q r c d a b,
    )

-- a list of 16 that has at each place the first row of InvMixColumns times the column turned to it
pub unmixed_by_places : (s second third fourth out : List ℕ) → second ≡ turned_columns s → third ≡ turned_columns second
    → fourth ≡ turned_columns third → length out ≡ 16
    → ((k : ℕ) → k < 16
    → get_or out k 0 ≡ row 14 11 13 9 (get_or s k 0) (get_or second k 0) (get_or third k 0) (get_or fourth k 0))
    → out ≡ inverse_mix_columns s
unfolding turned_columns inverse_mix_column inverse_mix_columns
unmixed_by_places s second third fourth out e2 e3 e4 len each =
    let x : ℕ → ℕ = λ i. get_or s i 0 in
    fill_by_all (λ k. row 14 11 13 9 (get_or s k 0) (get_or second k 0) (get_or third k 0) (get_or fourth k 0)) out 16 0 len each
    ∙ rw (e4, e3, e2)
    (turned_rows 14 11 13 9 (x 0) (x 1) (x 2) (x 3) refl refl refl refl
    (turned_rows 14 11 13 9 (x 4) (x 5) (x 6) (x 7) refl refl refl refl
    (turned_rows 14 11 13 9 (x 8) (x 9) (x 10) (x 11) refl refl refl refl
    (turned_rows 14 11 13 9 (x 12) (x 13) (x 14) (x 15) refl refl refl refl refl))))
