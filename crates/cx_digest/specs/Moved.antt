-- The register of the check sum moved on by bytes of zeros. No public clause speaks of it.
use Rattle.std.specs.Prelude.{ℕ, zero, suc, List, [], ◌∷◌}
use Rattle.cx_digest.specs.Checksum.{after_bits}

-- the bits of a byte
abbrev pub zeros : List ℕ
zeros = 0 ∷ 0 ∷ 0 ∷ 0 ∷ 0 ∷ 0 ∷ 0 ∷ 0 ∷ []

-- the register after n bytes of zeros
unfoldable pub moved : ℕ → ℕ → ℕ
moved zero s = s
moved (suc n) s = moved n (after_bits s zeros)
