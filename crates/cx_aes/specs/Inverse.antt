-- The inverse of AES-128, step by step: FIPS 197, section 5.3. What it is worth is said by the
-- contract of `decrypt`: it is the one block that `aes` takes to the given one.
use Rattle.std.specs.Prelude.{ℕ, zero, suc, ◌+◌, ◌*◌, ◌%◌, List, [], ◌∷◌, map, slice_index}
use Rattle.std.specs.List.{flat_map, range_with_len}
use Rattle.cx_aes.specs.Field.{inverse_sbox}
use Rattle.cx_aes.specs.Cipher.{add, round_key, row}

-- row r moves r places to the right (5.3.1)
unfoldable pub inverse_shift_rows : List ℕ → List ℕ
inverse_shift_rows s = map (λ i. slice_index s ((i + 12 * (i % 4)) % 16)) (range_with_len 0 16)

-- each byte through the inverse S-box (5.3.2)
unfoldable pub inverse_sub_bytes : List ℕ → List ℕ
inverse_sub_bytes s = map inverse_sbox s

-- the matrix of InvMixColumns times a column (5.3.3)
unfoldable pub inverse_mix_column : ℕ → ℕ → ℕ → ℕ → List ℕ
inverse_mix_column a b c d =
    row 14 11 13 9 a b c d ∷ row 9 14 11 13 a b c d ∷ row 13 9 14 11 a b c d ∷ row 11 13 9 14 a b c d ∷ []

-- each of the four columns times the matrix (5.3.3)
unfoldable pub inverse_mix_columns : List ℕ → List ℕ
inverse_mix_columns s =
    flat_map
    (λ c. inverse_mix_column (slice_index s (4 * c)) (slice_index s (4 * c + 1)) (slice_index s (4 * c + 2)) (slice_index s (4 * c + 3)))
    (range_with_len 0 4)

-- the block whose state after n rounds is s
unfoldable pub inverse_rounds : List ℕ → List ℕ → ℕ → List ℕ
inverse_rounds k s zero = add s (round_key k 0)
inverse_rounds k s (suc n) =
    inverse_rounds k (inverse_sub_bytes (inverse_shift_rows (inverse_mix_columns (add s (round_key k (suc n)))))) n

-- the inverse cipher (5.3)
unfoldable pub inverse_aes : List ℕ → List ℕ → List ℕ
inverse_aes k s = inverse_rounds k (inverse_sub_bytes (inverse_shift_rows (add s (round_key k 10)))) 9
