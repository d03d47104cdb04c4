-- The first misfit is one of the words that are left, and the number of the first of these goes with them.
use Rattle.std.proofs.Common.{◌≡◌, ◌+◌, length, map}
use Rattle.cx_help.specs.line.Misfits.{misfit_from}
use Rattle.cx_help.proofs.misfits.misfit_from.Given as goal

abbrev pub invariant-loop-rest : goal.invariant-loop-rest
invariant-loop-rest l = record {
  found : misfit_from l.number (map (λ w. w.now) l.rest) ≡ misfit_from 2 (map (λ w. w.now) l.fn.words);
  counted : l.number + length l.rest ≡ 2 + length l.fn.words;
}

abbrev pub decreases-loop-rest : goal.decreases-loop-rest
decreases-loop-rest l = length l.rest
