-- Bytes as the front of a polynomial that is longer than a block. No public clause speaks of it.
use Rattle.std.specs.Prelude.{ℕ, ◌*◌, ◌/◌, ◌%◌, ◌^◌, List, [], ◌∷◌, bit_xor}
use Rattle.cx_gcm.specs.Blocks.{shifted_by}

-- the block of these bytes, of any number: each byte stands eight shifts behind the one before it
unfoldable pub front : List ℕ → ℕ
front [] = 0
front (x ∷ v) = bit_xor (x * 2 ^ 120) (shifted_by (front v) 8)

-- what a byte becomes when it is shifted out of the block: in its own place, and in the one behind it
unfoldable pub across : ℕ → ℕ
across x = bit_xor (bit_xor x (x / 2)) (bit_xor (x / 4) (x / 128))

unfoldable pub carried : ℕ → ℕ
carried x = bit_xor (x * 128 % 256) (bit_xor (x * 64 % 256) (x * 2 % 256))
