-- AES-128 on lists of bytes: FIPS 197, sections 5.1 and 5.2. A state, a block and a round key are
-- 16 bytes, column by column: row r of column c is at place r + 4 c (3.4).
use Rattle.std.specs.Prelude.{◌≡◌, ℕ, zero, suc, ◌+◌, ◌*◌, ◌<◌, ◌%◌, List, [], ◌∷◌, ◌++◌, All, bit_xor, length, map, slice_index}
use Rattle.std.specs.List.{flat_map, range_with_len}
use Rattle.cx_aes.specs.Field.{sbox, times, xtimes}

-- 16 bytes
pub record IsBlock (s : List ℕ) : Type 0 where
  pub len : length s ≡ 16
  pub bytes : All (λ b. b < 256) s

-- the sum in GF(2^8) of the bytes at each place, as AddRoundKey takes it (4.1 and 5.1.4)
unfoldable pub add : List ℕ → List ℕ → List ℕ
add [] ys = []
add (x ∷ xs) [] = []
add (x ∷ xs) (y ∷ ys) = bit_xor x y ∷ add xs ys

-- each byte through the S-box (5.1.1)
unfoldable pub sub_bytes : List ℕ → List ℕ
sub_bytes s = map sbox s

-- row r moves r places to the left (5.1.2)
unfoldable pub shift_rows : List ℕ → List ℕ
shift_rows s = map (λ i. slice_index s ((i + 4 * (i % 4)) % 16)) (range_with_len 0 16)

-- a row p, q, r, s of a matrix times a column a, b, c, d (4.3)
unfoldable pub row : ℕ → ℕ → ℕ → ℕ → ℕ → ℕ → ℕ → ℕ → ℕ
row p q r s a b c d = bit_xor (bit_xor (times a p) (times b q)) (bit_xor (times c r) (times d s))

-- the matrix of MixColumns times a column (5.1.3)
unfoldable pub mix_column : ℕ → ℕ → ℕ → ℕ → List ℕ
mix_column a b c d =
    row 2 3 1 1 a b c d ∷ row 1 2 3 1 a b c d ∷ row 1 1 2 3 a b c d ∷ row 3 1 1 2 a b c d ∷ []

-- each of the four columns times the matrix (5.1.3)
unfoldable pub mix_columns : List ℕ → List ℕ
mix_columns s =
    flat_map
    (λ c. mix_column (slice_index s (4 * c)) (slice_index s (4 * c + 1)) (slice_index s (4 * c + 2)) (slice_index s (4 * c + 3)))
    (range_with_len 0 4)

-- the first byte of the round constant that makes round key n: x^(n - 1) (5.2)
unfoldable pub round_constant : ℕ → ℕ
round_constant zero = 0
round_constant (suc zero) = 1
round_constant (suc (suc n)) = xtimes (round_constant (suc n))

-- SubWord of RotWord of a word, and the round constant added to its first byte (5.2)
unfoldable pub turned_word : List ℕ → ℕ → List ℕ
turned_word w n =
    bit_xor (sbox (slice_index w 1)) (round_constant n) ∷ sbox (slice_index w 2) ∷ sbox (slice_index w 3) ∷ sbox (slice_index w 0) ∷ []

-- word c of a round key
unfoldable pub word : List ℕ → ℕ → List ℕ
word k c =
    slice_index k (4 * c) ∷ slice_index k (4 * c + 1) ∷ slice_index k (4 * c + 2) ∷ slice_index k (4 * c + 3) ∷ []

-- round key n, of the one before it (5.2, with four words in the key)
unfoldable pub next_key : List ℕ → ℕ → List ℕ
next_key k n =
    let w0 = add (word k 0) (turned_word (word k 3) n) in
    let w1 = add (word k 1) w0 in
    let w2 = add (word k 2) w1 in
    let w3 = add (word k 3) w2 in
    w0 ++ w1 ++ w2 ++ w3

-- the round keys, from the key itself (5.2)
unfoldable pub round_key : List ℕ → ℕ → List ℕ
round_key k zero = k
round_key k (suc n) = next_key (round_key k n) (suc n)

-- the state after n rounds (5.1)
unfoldable pub rounds : List ℕ → List ℕ → ℕ → List ℕ
rounds k s zero = add s (round_key k 0)
rounds k s (suc n) = add (mix_columns (shift_rows (sub_bytes (rounds k s n)))) (round_key k (suc n))

-- AES-128: the block's cipher text under the key. The tenth round mixes no columns (5.1)
unfoldable pub aes : List ℕ → List ℕ → List ℕ
aes k s = add (shift_rows (sub_bytes (rounds k s 9))) (round_key k 10)
