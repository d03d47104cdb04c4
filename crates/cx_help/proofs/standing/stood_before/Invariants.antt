-- What is found is found in the lines that are left, behind what was found before.
use Rattle.std.proofs.Common.{◌≡◌, ◌+◌, ◌≤◌, length}
use Rattle.cx_words.specs.Cutting.{lines_of}
use Rattle.cx_help.specs.keyring.Standing.{stood_from}
use Rattle.cx_help.proofs.standing.stood_before.Given as goal

abbrev pub invariant-lines : goal.invariant-lines
invariant-lines l = record {
  found : stood_from l.label l.stop l.number l.found (lines_of l.rest) ≡ stood_from l.label l.stop 1 0 (lines_of l.fn.bytes);
  bounded : l.number + length l.rest ≤ 1 + length l.fn.bytes;
}

abbrev pub decreases-lines : goal.decreases-lines
decreases-lines l = length l.rest
