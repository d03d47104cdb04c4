use Rattle.std.proofs.Common.{◌≡◌, ℕ, ◌<◌, length, get_or}
use Rattle.cx_gcm.specs.Multiples.{sum_of}
use Rattle.cx_gcm.proofs.multiples.sums.Given as goal

abbrev pub invariant-loop-bits : goal.invariant-loop-bits
invariant-loop-bits l = record {
  len : length l.sums ≡ 16;
  places : (i : ℕ) → i < l.bits → get_or l.sums i 0 ≡ sum_of i l.eight l.four l.two l.one;
}
