-- What a hole of nine digits writes.
use Rattle.std.proofs.Common.{◌≡◌, ℕ, ◌-◌, ◌^◌, [], ◌++◌, length, false, arith, append-nil}
use Rattle.std.specs.Prelude.{replicate}
use Rattle.std.specs.Fmt.{decimal, padded_integral, format_spec, char_count}

pub nine : (n : ℕ) → padded_integral (format_spec 32 0 4 9 (2 ^ 64 - 1)) false [] (decimal n) ≡ replicate (9 - length (decimal n)) 48 ++ decimal n
unfolding padded_integral char_count
nine n = grind (arith, append-nil {A = ℕ})
