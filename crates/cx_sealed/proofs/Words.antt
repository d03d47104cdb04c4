-- The first numbers of sealed bytes behind their length.
use Rattle.std.proofs.Common.{◌≡◌, ℕ, List, ◌∷◌, ◌++◌, take, drop, refl}
use Rattle.std.specs.Prelude.{bit_xor}
use Rattle.std.specs.Int.{w32, w64, to_le_bytes, from_le_bytes}
use Rattle.cx_sealed.specs.Proof.{number_at, first_four_added}

-- the four numbers, from the sealed bytes alone
pub added_behind : (s : List ℕ)
    → bit_xor (bit_xor (bit_xor (from_le_bytes w64 (32 ∷ 0 ∷ 0 ∷ 0 ∷ take 4 s)) (from_le_bytes w64 (take 8 (drop 4 s)))) (from_le_bytes w64 (take 8 (drop 12 s)))) (from_le_bytes w64 (take 8 (drop 20 s)))
    ≡ first_four_added (to_le_bytes w32 32 ++ s)
added_behind s = refl
