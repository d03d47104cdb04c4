-- Tables of sixteen bytes, and the halves of a byte.
use Rattle.std.specs.Prelude.{◌≡◌, ℕ, ◌<◌, ◌/◌, ◌||◌, Bool, List, All, IsTrue, length, if◌then◌else◌, nat_le, nat_lt, bit_and, bit_xor, slice_index}

-- sixteen bytes
pub record IsSixteen (v : List ℕ) : Type 0 where
  pub len : length v ≡ 16
  pub bytes : All (λ b. b < 256) v

-- the lower four bits of a byte
unfoldable pub low : ℕ → ℕ
low x = bit_and x 15

-- the upper four bits of a byte
unfoldable pub high : ℕ → ℕ
high x = x / 16

-- the entry of a table at an index, and 0 at 128 and above
unfoldable pub entry : List ℕ → ℕ → ℕ
entry table j = if nat_le 128 j then 0 else slice_index table j

-- a place of a table, or 128 and above
unfoldable pub is_index : ℕ → Bool
is_index j = nat_le 128 j || nat_lt j 16

-- each is an index
abbrev pub AreIndices : List ℕ → Type 0
AreIndices at = All (λ j. IsTrue (is_index j)) at

-- the sum of a table's entry at the lower half of a byte and another's at the upper half
unfoldable pub by_halves : List ℕ → List ℕ → ℕ → ℕ
by_halves lower upper x = bit_xor (entry lower (low x)) (entry upper (high x))
