-- The lines of a file, counted.
use Rattle.std.proofs.Common.{◌≡◌, ℕ, ◌+◌, List, [], length, refl, arith}
use Rattle.cx_words.specs.Cutting.{lines_of}

-- no bytes have no lines
pub no_lines : lines_of [] ≡ []
unfolding lines_of
no_lines = refl

-- at the end all are counted
pub counted_all : (bytes left : List ℕ) (count : ℕ) → count + length (lines_of left) ≡ length (lines_of bytes) → left ≡ [] → count ≡ length (lines_of bytes)
counted_all bytes left count e none =
    let n : length (lines_of left) ≡ 0 = rw (none, no_lines) refl in
    omega arith
