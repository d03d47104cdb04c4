-- CRC-32C as a function on lists of numbers: RFC 3720, section 12.1, with bits in reflected order
-- and nothing inverted at either end.
use Rattle.std.specs.Prelude.{◌≡◌, ℕ, zero, suc, ◌/◌, ◌%◌, ◌==◌, ◌++◌, List, [], ◌∷◌, if◌then◌else◌, bit_xor}

-- the polynomial 0x1edc6f41 of Castagnoli, its 32 coefficients in reflected order
abbrev pub polynomial : ℕ
polynomial = 0x82f63b78

-- the register after one bit of the message: its lowest bit leaves it, and where that differs from
-- the message's, the polynomial is added
unfoldable pub after_bit : ℕ → ℕ → ℕ
after_bit state bit = if state % 2 == bit then state / 2 else bit_xor (state / 2) polynomial

-- the register after these bits
unfoldable pub after_bits : ℕ → List ℕ → ℕ
after_bits state [] = state
after_bits state (bit ∷ bits) = after_bits (after_bit state bit) bits

-- the lowest n bits of a number, the lowest first
unfoldable pub low_bits : ℕ → ℕ → List ℕ
low_bits zero b = []
low_bits (suc n) b = b % 2 ∷ low_bits n (b / 2)

-- the bits of a message, each byte's lowest first
unfoldable pub message_bits : List ℕ → List ℕ
message_bits [] = []
message_bits (b ∷ bytes) = low_bits 8 b ++ message_bits bytes

-- the sum over the bytes, from the register's state at the start
unfoldable pub crc32c : ℕ → List ℕ → ℕ
crc32c seed bytes = after_bits seed (message_bits bytes)

-- the sum over a concatenation is the sum of the second part from the state after the first
abbrev pub GoesOn : Type 0
GoesOn = (seed : ℕ) (first second : List ℕ) → crc32c seed (first ++ second) ≡ crc32c (crc32c seed first) second
