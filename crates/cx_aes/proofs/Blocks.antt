-- Each step takes a block to a block.
use Rattle.std.proofs.Common.{◌≡◌, ℕ, zero, suc, ◌<◌, ◌+◌, ◌*◌, ◌%◌, List, [], ◌∷◌, ◌++◌, All, map, length, get_or, bit_xor, refl, sym, ap, ◌∙◌, inl, inr, subst, arith, length-append}
use Rattle.std.specs.List.{range_with_len}
use Rattle.std.proofs.lemmas.Bool.{cases_lt}
use Rattle.std.proofs.lemmas.List.{get_or_past}
use Rattle.std.proofs.lemmas.List.FromFn.{length-map-range_with_len, get_or-map-range_with_len}
use Rattle.std.proofs.lemmas.List.Elements.{All-from_get_or, All-get_or, All-from_recursion, All-append, All-nil, All-cons, All-head, All-tail}
use Rattle.cx_aes.specs.Field.{sbox, inverse_sbox}
use Rattle.cx_aes.specs.Cipher.{IsBlock, add, sub_bytes, shift_rows, mix_column, mix_columns, round_constant, word, turned_word, next_key, round_key}
use Rattle.cx_aes.specs.Inverse.{inverse_shift_rows, inverse_sub_bytes, inverse_mix_column, inverse_mix_columns}
use Rattle.cx_aes.proofs.Bytes.{sbox-lt, inverse_sbox-lt, xtimes-lt}
use Rattle.cx_aes.proofs.Sums.{sum-lt}
use Rattle.cx_aes.proofs.Columns.{row-lt}
use Rattle.cx_aes.proofs.Places.{cells, cells-is}

abbrev pub IsByte : ℕ → Type 0
IsByte b = b < 256

-- a read past the end is 0
pub byte_at : (s : List ℕ) → All IsByte s → (i : ℕ) → get_or s i 0 < 256
byte_at s h i =
    elim (cases_lt i (length s)) [
      | inl lt ↦ All-get_or IsByte s i 0 lt h
      | inr le ↦ rw (get_or_past s i 0 le) (omega arith)
    ]

pub IsBlock-places : (f : ℕ → ℕ) → ((k : ℕ) → k < 16 → f k < 256) → IsBlock (map f (range_with_len 0 16))
IsBlock-places f small = record {
  len = length-map-range_with_len f 0 16;
  bytes = All-from_get_or IsByte (map f (range_with_len 0 16)) 0
      (λ i lt. rw (get_or-map-range_with_len f 0 16 i i 0 lt (omega arith)) (small i lt));
}

length-add : (s t : List ℕ) → length s ≡ length t → length (add s t) ≡ length s
unfolding add
length-add [] t e = refl
length-add (x ∷ xs) [] e = cc
length-add (x ∷ xs) (y ∷ ys) e = let tails : length xs ≡ length ys = cc in ap suc (length-add xs ys tails)

All-add : (s t : List ℕ) → All IsByte s → All IsByte t → All IsByte (add s t)
unfolding add
All-add [] t hs ht = All-nil IsByte
All-add (x ∷ xs) [] hs ht = All-nil IsByte
All-add (x ∷ xs) (y ∷ ys) hs ht =
    All-cons IsByte (bit_xor x y) (add xs ys) (sum-lt x y (All-head IsByte x xs hs) (All-head IsByte y ys ht))
    (All-add xs ys (All-tail IsByte x xs hs) (All-tail IsByte y ys ht))

pub IsBlock-add : (s t : List ℕ) → IsBlock s → IsBlock t → IsBlock (add s t)
IsBlock-add s t hs ht = record {
  len = length-add s t (hs.len ∙ sym ht.len) ∙ hs.len;
  bytes = All-add s t hs.bytes ht.bytes;
}

pub IsBlock-sub_bytes : (s : List ℕ) → IsBlock s → IsBlock (sub_bytes s)
unfolding sub_bytes
IsBlock-sub_bytes s h =
    let e : map sbox (cells 16 s) ≡ map sbox s = ap (λ xs. map sbox xs) (cells-is 16 s h.len) in
    subst IsBlock e (IsBlock-places (λ k. sbox (get_or s k 0)) (λ k lt. sbox-lt _ (byte_at s h.bytes k)))

pub IsBlock-inverse_sub_bytes : (s : List ℕ) → IsBlock s → IsBlock (inverse_sub_bytes s)
unfolding inverse_sub_bytes
IsBlock-inverse_sub_bytes s h =
    let e : map inverse_sbox (cells 16 s) ≡ map inverse_sbox s = ap (λ xs. map inverse_sbox xs) (cells-is 16 s h.len) in
    subst IsBlock e (IsBlock-places (λ k. inverse_sbox (get_or s k 0)) (λ k lt. inverse_sbox-lt _ (byte_at s h.bytes k)))

pub IsBlock-shift_rows : (s : List ℕ) → IsBlock s → IsBlock (shift_rows s)
unfolding shift_rows
IsBlock-shift_rows s h = IsBlock-places (λ i. get_or s ((i + 4 * (i % 4)) % 16) 0) (λ i lt. byte_at s h.bytes _)

pub IsBlock-inverse_shift_rows : (s : List ℕ) → IsBlock s → IsBlock (inverse_shift_rows s)
unfolding inverse_shift_rows
IsBlock-inverse_shift_rows s h = IsBlock-places (λ i. get_or s ((i + 12 * (i % 4)) % 16) 0) (λ i lt. byte_at s h.bytes _)

pub IsBlock-mix_columns : (s : List ℕ) → IsBlock s → IsBlock (mix_columns s)
unfolding mix_column mix_columns
IsBlock-mix_columns s h =
    let b : (i : ℕ) → get_or s i 0 < 256 = byte_at s h.bytes in
    record {
      len = refl;
      bytes = All-from_recursion IsByte (mix_columns s) (
        row-lt 2 3 1 1 _ _ _ _ (b 0) (b 1) (b 2) (b 3),
        (
          row-lt 1 2 3 1 _ _ _ _ (b 0) (b 1) (b 2) (b 3),
          (
            row-lt 1 1 2 3 _ _ _ _ (b 0) (b 1) (b 2) (b 3),
            (
              row-lt 3 1 1 2 _ _ _ _ (b 0) (b 1) (b 2) (b 3),
              (
                row-lt 2 3 1 1 _ _ _ _ (b 4) (b 5) (b 6) (b 7),
                (
                  row-lt 1 2 3 1 _ _ _ _ (b 4) (b 5) (b 6) (b 7),
                  (
                    row-lt 1 1 2 3 _ _ _ _ (b 4) (b 5) (b 6) (b 7),
                    (
                      row-lt 3 1 1 2 _ _ _ _ (b 4) (b 5) (b 6) (b 7),
                      (
                        row-lt 2 3 1 1 _ _ _ _ (b 8) (b 9) (b 10) (b 11),
                        (
                          row-lt 1 2 3 1 _ _ _ _ (b 8) (b 9) (b 10) (b 11),
                          (
                            row-lt 1 1 2 3 _ _ _ _ (b 8) (b 9) (b 10) (b 11),
                            (
                              row-lt 3 1 1 2 _ _ _ _ (b 8) (b 9) (b 10) (b 11),
                              (
                                row-lt 2 3 1 1 _ _ _ _ (b 12) (b 13) (b 14) (b 15),
                                (
                                  row-lt 1 2 3 1 _ _ _ _ (b 12) (b 13) (b 14) (b 15),
                                  (row-lt 1 1 2 3 _ _ _ _ (b 12) (b 13) (b 14) (b 15), (row-lt 3 1 1 2 _ _ _ _ (b 12) (b 13) (b 14) (b 15), tt)),
                                ),
                              ),
                            ),
                          ),
                        ),
                      ),
                    ),
                  ),
                ),
              ),
            ),
          ),
        ),
      );
    }

pub IsBlock-inverse_mix_columns : (s : List ℕ) → IsBlock s → IsBlock (inverse_mix_columns s)
unfolding inverse_mix_column inverse_mix_columns
IsBlock-inverse_mix_columns s h =
    let b : (i : ℕ) → get_or s i 0 < 256 = byte_at s h.bytes in
    record {
      len = refl;
      bytes = All-from_recursion IsByte (inverse_mix_columns s) (
        row-lt 14 11 13 9 _ _ _ _ (b 0) (b 1) (b 2) (b 3),
        (
          row-lt 9 14 11 13 _ _ _ _ (b 0) (b 1) (b 2) (b 3),
          (
            row-lt 13 9 14 11 _ _ _ _ (b 0) (b 1) (b 2) (b 3),
            (
              row-lt 11 13 9 14 _ _ _ _ (b 0) (b 1) (b 2) (b 3),
              (
                row-lt 14 11 13 9 _ _ _ _ (b 4) (b 5) (b 6) (b 7),
                (
                  row-lt 9 14 11 13 _ _ _ _ (b 4) (b 5) (b 6) (b 7),
                  (
                    row-lt 13 9 14 11 _ _ _ _ (b 4) (b 5) (b 6) (b 7),
                    (
                      row-lt 11 13 9 14 _ _ _ _ (b 4) (b 5) (b 6) (b 7),
                      (
                        row-lt 14 11 13 9 _ _ _ _ (b 8) (b 9) (b 10) (b 11),
                        (
                          row-lt 9 14 11 13 _ _ _ _ (b 8) (b 9) (b 10) (b 11),
                          (
                            row-lt 13 9 14 11 _ _ _ _ (b 8) (b 9) (b 10) (b 11),
                            (
                              row-lt 11 13 9 14 _ _ _ _ (b 8) (b 9) (b 10) (b 11),
                              (
                                row-lt 14 11 13 9 _ _ _ _ (b 12) (b 13) (b 14) (b 15),
                                (
                                  row-lt 9 14 11 13 _ _ _ _ (b 12) (b 13) (b 14) (b 15),
                                  (row-lt 13 9 14 11 _ _ _ _ (b 12) (b 13) (b 14) (b 15), (row-lt 11 13 9 14 _ _ _ _ (b 12) (b 13) (b 14) (b 15), tt)),
                                ),
                              ),
                            ),
                          ),
                        ),
                      ),
                    ),
                  ),
                ),
              ),
            ),
          ),
        ),
      );
    }

round_constant-lt : (n : ℕ) → round_constant n < 256
unfolding round_constant
round_constant-lt zero = omega arith
round_constant-lt (suc zero) = omega arith
round_constant-lt (suc (suc n)) = xtimes-lt (round_constant (suc n)) (round_constant-lt (suc n))

-- a word of bytes
record IsWord (w : List ℕ) : Type 0 where
  len : length w ≡ 4
  bytes : All IsByte w

IsWord-add : (v w : List ℕ) → IsWord v → IsWord w → IsWord (add v w)
IsWord-add v w hv hw = record {
  len = length-add v w (hv.len ∙ sym hw.len) ∙ hv.len;
  bytes = All-add v w hv.bytes hw.bytes;
}

IsWord-word : (k : List ℕ) (c : ℕ) → All IsByte k → IsWord (word k c)
unfolding word
IsWord-word k c h =
    let b : (i : ℕ) → get_or k i 0 < 256 = byte_at k h in
    record {
      len = refl;
      bytes = All-from_recursion IsByte (word k c) (b (4 * c), (b (4 * c + 1), (b (4 * c + 2), (b (4 * c + 3), tt))));
    }

IsWord-turned_word : (w : List ℕ) (n : ℕ) → All IsByte w → IsWord (turned_word w n)
unfolding turned_word
IsWord-turned_word w n h =
    let b : (i : ℕ) → sbox (get_or w i 0) < 256 = λ i. sbox-lt (get_or w i 0) (byte_at w h i) in
    record {
      len = refl;
      bytes = All-from_recursion IsByte (turned_word w n)
          (sum-lt (sbox (get_or w 1 0)) (round_constant n) (b 1) (round_constant-lt n), (b 2, (b 3, (b 0, tt))));
    }

IsBlock-words : (a b c d : List ℕ) → IsWord a → IsWord b → IsWord c → IsWord d → IsBlock (a ++ b ++ c ++ d)
IsBlock-words a b c d ha hb hc hd = record {
  len = omega (arith, length-append (a ++ b ++ c) d, length-append (a ++ b) c, length-append a b, ha.len, hb.len, hc.len, hd.len);
  bytes = All-append IsByte (a ++ b ++ c) d
      (All-append IsByte (a ++ b) c (All-append IsByte a b ha.bytes hb.bytes) hc.bytes) hd.bytes;
}

IsBlock-next_key : (k : List ℕ) (n : ℕ) → IsBlock k → IsBlock (next_key k n)
unfolding next_key
IsBlock-next_key k n h =
    let word_of : (c : ℕ) → IsWord (word k c) = λ c. IsWord-word k c h.bytes in
    let last = word_of 3 in
    let turned = turned_word (word k 3) n in
    let w0 = add (word k 0) turned in
    let w1 = add (word k 1) w0 in
    let w2 = add (word k 2) w1 in
    let h0 = IsWord-add (word k 0) turned (word_of 0) (IsWord-turned_word (word k 3) n last.bytes) in
    let h1 = IsWord-add (word k 1) w0 (word_of 1) h0 in
    let h2 = IsWord-add (word k 2) w1 (word_of 2) h1 in
    let h3 = IsWord-add (word k 3) w2 (word_of 3) h2 in
    IsBlock-words w0 w1 w2 (add (word k 3) w2) h0 h1 h2 h3

pub IsBlock-round_key : (k : List ℕ) (n : ℕ) → IsBlock k → IsBlock (round_key k n)
unfolding round_key
IsBlock-round_key k zero h = h
IsBlock-round_key k (suc n) h = IsBlock-next_key (round_key k n) (suc n) (IsBlock-round_key k n h)
