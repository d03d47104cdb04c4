-- The states of the inverse cipher, round by round, with each key through InvMixColumns.
use Rattle.std.proofs.Common.{◌≡◌, ℕ, zero, suc, ◌<◌, ◌≤◌, ◌+◌, ◌-◌, List, ◌∷◌, get_or, bit_xor, refl, sym, ap, ◌∙◌, arith}
use Rattle.cx_aes.specs.Field.{times}
use Rattle.cx_aes.specs.Cipher.{IsBlock, add, round_key, row}
use Rattle.cx_aes.specs.Inverse.{inverse_aes, inverse_mix_column, inverse_mix_columns, inverse_rounds, inverse_shift_rows, inverse_sub_bytes}
use Rattle.cx_aes.proofs.Sums.{sum4-sum, times-xor}
use Rattle.cx_aes.proofs.Places.{cells, cells-is}
use Rattle.cx_aes.proofs.Blocks.{IsBlock-add, IsBlock-inverse_mix_columns, IsBlock-inverse_shift_rows, IsBlock-inverse_sub_bytes, IsBlock-round_key, byte_at}
use Rattle.cx_aes.proofs.Keys.{inverse_rounds_more}

row-xor : (p q r s a b c d k l m n : ℕ) → a < 256 → b < 256 → c < 256 → d < 256 → k < 256 → l < 256 → m < 256 → n < 256
    → row p q r s (bit_xor a k) (bit_xor b l) (bit_xor c m) (bit_xor d n) ≡ bit_xor (row p q r s a b c d) (row p q r s k l m n)
unfolding row
row-xor p q r s a b c d k l m n la lb lc ld lk ll lm ln =
    rw (times-xor a k p la lk, times-xor b l q lb ll, times-xor c m r lc lm, times-xor d n s ld ln)
    (sym (sum4-sum (times a p) (times b q) (times c r) (times d s) (times k p) (times l q) (times m r) (times n s)))

-- one column, and what follows it in a list
column : (a b c d k l m n : ℕ) → a < 256 → b < 256 → c < 256 → d < 256 → k < 256 → l < 256 → m < 256 → n < 256
    → {xs ys : List ℕ} → xs ≡ ys
    → row 14 11 13 9 (bit_xor a k) (bit_xor b l) (bit_xor c m) (bit_xor d n)
    ∷ row 9 14 11 13 (bit_xor a k) (bit_xor b l) (bit_xor c m) (bit_xor d n)
    ∷ row 13 9 14 11 (bit_xor a k) (bit_xor b l) (bit_xor c m) (bit_xor d n)
    ∷ row 11 13 9 14 (bit_xor a k) (bit_xor b l) (bit_xor c m) (bit_xor d n) ∷ xs
    ≡ bit_xor (row 14 11 13 9 a b c d) (row 14 11 13 9 k l m n) ∷ bit_xor (row 9 14 11 13 a b c d) (row 9 14 11 13 k l m n)
    ∷ bit_xor (row 13 9 14 11 a b c d) (row 13 9 14 11 k l m n) ∷ bit_xor (row 11 13 9 14 a b c d) (row 11 13 9 14 k l m n) ∷ ys
column a b c d k l m n la lb lc ld lk ll lm ln e =
    cc (
      row-xor 14 11 13 9 a b c d k l m n la lb lc ld lk ll lm ln,
      row-xor 9 14 11 13 a b c d k l m n la lb lc ld lk ll lm ln,
      row-xor 13 9 14 11 a b c d k l m n la lb lc ld lk ll lm ln,
      row-xor 11 13 9 14 a b c d k l m n la lb lc ld lk ll lm ln,
      e,
    )

unmixed-cells : (s k : List ℕ) → IsBlock s → IsBlock k
    → inverse_mix_columns (add (cells 16 s) (cells 16 k)) ≡ add (inverse_mix_columns (cells 16 s)) (inverse_mix_columns (cells 16 k))
unfolding add inverse_mix_columns inverse_mix_column
unmixed-cells s k hs hk =
    let x : ℕ → ℕ = λ i. get_or s i 0 in
    let y : ℕ → ℕ = λ i. get_or k i 0 in
    let lx = byte_at s hs.bytes in
    let ly = byte_at k hk.bytes in
    (column (x 0) (x 1) (x 2) (x 3) (y 0) (y 1) (y 2) (y 3) (lx 0) (lx 1) (lx 2) (lx 3) (ly 0) (ly 1) (ly 2) (ly 3)
    (column (x 4) (x 5) (x 6) (x 7) (y 4) (y 5) (y 6) (y 7) (lx 4) (lx 5) (lx 6) (lx 7) (ly 4) (ly 5) (ly 6) (ly 7)
    (column (x 8) (x 9) (x 10) (x 11) (y 8) (y 9) (y 10) (y 11) (lx 8) (lx 9) (lx 10) (lx 11) (ly 8) (ly 9) (ly 10) (ly 11)
    (column (x 12) (x 13) (x 14) (x 15) (y 12) (y 13) (y 14) (y 15) (lx 12) (lx 13) (lx 14) (lx 15) (ly 12) (ly 13) (ly 14) (ly 15) refl))))

-- InvMixColumns is linear
pub inverse_mix_columns-add : (s k : List ℕ) → IsBlock s → IsBlock k
    → inverse_mix_columns (add s k) ≡ add (inverse_mix_columns s) (inverse_mix_columns k)
inverse_mix_columns-add s k hs hk =
    let cs = cells-is 16 s hs.len in
    let ck = cells-is 16 k hk.len in
    ap (λ v. inverse_mix_columns (add v k)) (sym cs) ∙ ap (λ v. inverse_mix_columns (add (cells 16 s) v)) (sym ck) ∙ unmixed-cells s k hs hk
    ∙ ap (λ v. add (inverse_mix_columns v) (inverse_mix_columns (cells 16 k))) cs ∙ ap (λ v. add (inverse_mix_columns s) (inverse_mix_columns v)) ck

-- the state before the substitution of the n-th round from the end
unfoldable pub undone_state : List ℕ → List ℕ → ℕ → List ℕ
undone_state k s zero = add s (round_key k 10)
undone_state k s (suc n) = inverse_mix_columns (add (inverse_sub_bytes (inverse_shift_rows (undone_state k s n))) (round_key k (9 - n)))

substituted : (s : List ℕ) → IsBlock s → IsBlock (inverse_sub_bytes (inverse_shift_rows s))
substituted s h = IsBlock-inverse_sub_bytes (inverse_shift_rows s) (IsBlock-inverse_shift_rows s h)

pub IsBlock-undone_state : (k s : List ℕ) (n : ℕ) → IsBlock k → IsBlock s → IsBlock (undone_state k s n)
unfolding undone_state
IsBlock-undone_state k s zero hk hs = IsBlock-add s (round_key k 10) hs (IsBlock-round_key k 10 hk)
IsBlock-undone_state k s (suc n) hk hs =
    let t = undone_state k s n in
    let ht = substituted t (IsBlock-undone_state k s n hk hs) in
    IsBlock-inverse_mix_columns (add (inverse_sub_bytes (inverse_shift_rows t)) (round_key k (9 - n)))
    (IsBlock-add (inverse_sub_bytes (inverse_shift_rows t)) (round_key k (9 - n)) ht (IsBlock-round_key k (9 - n) hk))

pub undone_state_none : (k s : List ℕ) → undone_state k s 0 ≡ add s (round_key k 10)
unfolding undone_state
undone_state_none k s = refl

pub undone_state_more : (k s : List ℕ) (n : ℕ) → IsBlock k → IsBlock s
    → add (inverse_mix_columns (inverse_sub_bytes (inverse_shift_rows (undone_state k s n)))) (inverse_mix_columns (round_key k (9 - n)))
    ≡ undone_state k s (n + 1)
unfolding undone_state
undone_state_more k s n hk hs =
    let t = undone_state k s n in
    let e : suc n ≡ n + 1 = omega arith in
    sym (inverse_mix_columns-add (inverse_sub_bytes (inverse_shift_rows t)) (round_key k (9 - n)) (substituted t (IsBlock-undone_state k s n hk hs))
    (IsBlock-round_key k (9 - n) hk))
    ∙ ap (undone_state k s) e

-- what is left to do
pub left_to_undo : (k s : List ℕ) (n : ℕ) → n ≤ 9
    → inverse_rounds k (inverse_sub_bytes (inverse_shift_rows (undone_state k s n))) (9 - n) ≡ inverse_aes k s
unfolding undone_state inverse_aes
left_to_undo k s zero le = refl
left_to_undo k s (suc n) le =
    let x = inverse_sub_bytes (inverse_shift_rows (undone_state k s n)) in
    let e : 9 - n ≡ 9 - suc n + 1 = omega arith in
    let one = inverse_rounds_more k x (9 - suc n) in
    ap (λ m. inverse_rounds k (inverse_sub_bytes (inverse_shift_rows (inverse_mix_columns (add x (round_key k m))))) (9 - suc n)) e
    ∙ sym one ∙ ap (inverse_rounds k x) (sym e) ∙ left_to_undo k s n (omega arith)
