-- What was said so far, and what is to be said of the lines that are left.
use Rattle.std.proofs.Common.{◌≡◌, ◌++◌, [], length, string_bytes}
use Rattle.cx_words.specs.Cutting.{lines_of}
use Rattle.cx_help.specs.keyring.Clauses.{lines_told}
use Rattle.cx_help.proofs.clauses.ring_told.Given as goal

abbrev pub invariant-lines : goal.invariant-lines
invariant-lines l = string_bytes l.told ++ lines_told l.all l.section (lines_of l.rest) ≡ lines_told l.all [] (lines_of l.fn.bytes)

abbrev pub decreases-lines : goal.decreases-lines
decreases-lines l = length l.rest
