-- What the tables of the products of a block with four bits hold.
use Rattle.std.specs.Prelude.{◌≡◌, ℕ, zero, suc, ◌==◌, if◌then◌else◌, List, bit_xor, map, slice_index}
use Rattle.std.specs.Int.{bit_at}
use Rattle.std.specs.List.{range_with_len}
use Rattle.cx_gcm.specs.Blocks.{number, shifted, shifted_by, spelled}

-- the product of y with the n last bits of x, from the last one on
unfoldable pub from_last : ℕ → ℕ → ℕ → ℕ
from_last x y zero = 0
from_last x y (suc n) = bit_xor (shifted (from_last x y n)) (if bit_at x n == 1 then y else 0)

-- what the bit at a place chooses
abbrev pub chosen_by : ℕ → ℕ → ℕ → ℕ
chosen_by bits place v = if bit_at bits place == 1 then v else 0

-- the sum of those of four that four bits choose
unfoldable pub sum_of : ℕ → ℕ → ℕ → ℕ → ℕ → ℕ
sum_of bits eight four two one =
    bit_xor (bit_xor (chosen_by bits 3 eight) (chosen_by bits 2 four)) (bit_xor (chosen_by bits 1 two) (chosen_by bits 0 one))

-- the byte at a place of a block
abbrev pub byte_of : ℕ → List ℕ → ℕ
byte_of place block = slice_index block place

-- place by place the bytes of sixteen blocks
unfoldable pub columns : (ℕ → ℕ) → List (List ℕ)
columns f = map (λ place. map (λ n. byte_of place (spelled (f n))) (range_with_len 0 16)) (range_with_len 0 16)

-- the block itself, which is the product with 8, the first of four bits alone
unfoldable pub table_block : List (List ℕ) → ℕ
table_block upper = number (map (byte_of 8) upper)

-- the products of a block with the sixteen values of four bits, and these shifted by four
pub record IsTable (upper lower : List (List ℕ)) : Type 0 where
  pub uppers : upper ≡ columns (λ n. from_last n (table_block upper) 4)
  pub lowers : lower ≡ columns (λ n. shifted_by (from_last n (table_block upper) 4) 4)
