-- Sixteen bytes added in place. No public clause speaks of it.
use Rattle.std.specs.Prelude.{◌≡◌, ℕ, ◌+◌, ◌-◌, ◌<◌, ◌≤◌, List, bit_xor, length, slice_index}

-- the mask is added to the bytes from a place on, and the others are as before
pub record IsMasked (before : List ℕ) (at : ℕ) (mask after : List ℕ) : Type 0 where
  pub len : length after ≡ length before
  pub ahead : (k : ℕ) → k < at → slice_index after k ≡ slice_index before k
  pub within : (k : ℕ) → at ≤ k → k < at + 16 → slice_index after k ≡ bit_xor (slice_index before k) (slice_index mask (k - at))
  pub behind : (k : ℕ) → at + 16 ≤ k → slice_index after k ≡ slice_index before k
