-- Four bytes of the connection's secret are the fixed bytes of a nonce.
use Rattle.std.proofs.Common.{ℕ, zero, suc, ◌<◌, [], ◌∷◌, refl, arith}
use Rattle.std.specs.Prelude.{slice_index}
use Rattle.cx_secure.specs.Parts.{IsFixed}

each_byte : (a b c d : ℕ) → a < 256 → b < 256 → c < 256 → d < 256 → (i : ℕ) → slice_index (a ∷ b ∷ c ∷ d ∷ []) i < 256
each_byte a b c d la lb lc ld zero = la
each_byte a b c d la lb lc ld (suc zero) = lb
each_byte a b c d la lb lc ld (suc (suc zero)) = lc
each_byte a b c d la lb lc ld (suc (suc (suc zero))) = ld
each_byte a b c d la lb lc ld (suc (suc (suc (suc i)))) = omega arith

pub four_fixed : (a b c d : ℕ) → a < 256 → b < 256 → c < 256 → d < 256 → IsFixed (a ∷ b ∷ c ∷ d ∷ [])
four_fixed a b c d la lb lc ld = record { len = refl; bytes = each_byte a b c d la lb lc ld }
