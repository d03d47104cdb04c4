-- The product of two blocks: SP 800-38D, section 6.3. A block of 128 bits is the number whose
-- highest bit is the block's first one.
use Rattle.std.specs.Prelude.{ℕ, zero, suc, ◌-◌, ◌/◌, ◌%◌, ◌==◌, if◌then◌else◌, List, bit_xor}
use Rattle.std.specs.Int.{w128, bit_at, from_be_bytes, to_be_bytes}

-- the number of a block of 16 bytes
unfoldable pub number : List ℕ → ℕ
number b = from_be_bytes w128 b

-- the block of a number
unfoldable pub spelled : ℕ → List ℕ
spelled n = to_be_bytes w128 n

-- V shifted to the right by one bit, and R, which is 11100001 and 120 zeros, added where a bit 1
-- went out (step 3 on V)
unfoldable pub shifted : ℕ → ℕ
shifted v = if v % 2 == 1 then bit_xor (v / 2) 0xe1000000000000000000000000000000 else v / 2

-- V i, from V 0 = y on
unfoldable pub shifted_by : ℕ → ℕ → ℕ
shifted_by y zero = y
shifted_by y (suc i) = shifted (shifted_by y i)

-- Z i: the sum of those V j, j below i, at which bit j of x, counted from the first, is 1
unfoldable pub partial_product : ℕ → ℕ → ℕ → ℕ
partial_product x y zero = 0
partial_product x y (suc i) =
    if bit_at x (127 - i) == 1 then bit_xor (partial_product x y i) (shifted_by y i) else partial_product x y i

-- the product of two blocks
unfoldable pub product : ℕ → ℕ → ℕ
product x y = partial_product x y 128

-- one step of GHASH: a block is added, and the sum multiplied by the hash subkey (6.4)
abbrev pub stepped : ℕ → ℕ → ℕ → ℕ
stepped h sum block = product (bit_xor sum block) h
