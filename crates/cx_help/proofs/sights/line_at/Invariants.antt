-- The line is one of those that are left, by what is left of its number.
use Rattle.std.proofs.Common.{◌≡◌, length}
use Rattle.cx_help.specs.line.Sights.{line_at}
use Rattle.cx_words.specs.Cutting.{lines_of}
use Rattle.cx_help.proofs.sights.line_at.Given as goal

abbrev pub invariant-lines : goal.invariant-lines
invariant-lines l = line_at (lines_of l.rest) l.left ≡ line_at (lines_of l.fn.bytes) l.fn.number

abbrev pub decreases-lines : goal.decreases-lines
decreases-lines l = length l.rest
