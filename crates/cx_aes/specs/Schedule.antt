-- What a schedule holds.
use Rattle.std.specs.Prelude.{◌≡◌, ℕ, ◌<◌, ◌≤◌, List, [], map, slice_index_or}
use Rattle.cx_aes.specs.Cipher.{IsBlock, round_key}
use Rattle.cx_aes.specs.Basis.{into}
use Rattle.cx_aes.specs.Inverse.{inverse_mix_columns}
use Rattle.cx_aes.specs.InverseBasis.{back}

-- the round keys of k for the rounds, in the basis; the tenth round leaves it
pub record AreForward (k : List ℕ) (keys : List (List ℕ)) : Type 0 where
  pub within : (n : ℕ) → n < 10 → slice_index_or keys n [] ≡ map into (round_key k n)
  pub final : slice_index_or keys 10 [] ≡ round_key k 10

-- the round keys of k for the inverse rounds, in the second basis, and through InvMixColumns for those that unmix columns (5.3.5);
-- the first round key comes last
pub record AreBackward (k : List ℕ) (keys : List (List ℕ)) : Type 0 where
  pub first : slice_index_or keys 0 [] ≡ k
  pub within : (n : ℕ) → 1 ≤ n → n < 10 → slice_index_or keys n [] ≡ map back (inverse_mix_columns (round_key k n))
  pub final : slice_index_or keys 10 [] ≡ map back (round_key k 10)

-- both are the round keys of the first of the second list, which is 16 bytes
pub record IsExpanded (forward backward : List (List ℕ)) : Type 0 where
  pub block : IsBlock (slice_index_or backward 0 [])
  pub are_forward : AreForward (slice_index_or backward 0 []) forward
  pub are_backward : AreBackward (slice_index_or backward 0 []) backward
