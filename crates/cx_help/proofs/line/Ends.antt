-- The end of a file.
use Rattle.std.proofs.Common.{◌≡◌, ℕ, List, [], sym, subst}
use Rattle.cx_words.specs.Cutting.{lines_of}

-- what holds of the lines that are left holds of none, where no bytes are left
pub no_lines_left : (P : List (List ℕ) → Type 0) (rest : List ℕ) → rest ≡ [] → P (lines_of rest) → P []
unfolding lines_of
no_lines_left P rest is holds = let Q : List ℕ → Type 0 = λ (bytes : List ℕ). P (lines_of bytes) in subst Q is holds
