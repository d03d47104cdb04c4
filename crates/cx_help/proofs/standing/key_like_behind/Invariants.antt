-- What is found is found in the lines that are left.
use Rattle.std.proofs.Common.{◌≡◌, ◌+◌, ◌≤◌, length}
use Rattle.cx_words.specs.Cutting.{lines_of}
use Rattle.cx_help.specs.keyring.Standing.{key_like_from}
use Rattle.cx_help.proofs.standing.key_like_behind.Given as goal

abbrev pub invariant-lines : goal.invariant-lines
invariant-lines l = record {
  found : key_like_from l.at l.number (lines_of l.rest) ≡ key_like_from l.at 1 (lines_of l.fn.bytes);
  bounded : l.number + length l.rest ≤ 1 + length l.fn.bytes;
}

abbrev pub decreases-lines : goal.decreases-lines
decreases-lines l = length l.rest
