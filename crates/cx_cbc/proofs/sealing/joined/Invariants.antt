use Rattle.std.proofs.Common.{◌≡◌, ℕ, ◌<◌, ◌++◌, length, get_or}
use Rattle.cx_cbc.proofs.sealing.joined.Given as goal

abbrev pub invariant-loop-place : goal.invariant-loop-place
invariant-loop-place l = record {
  len : length l.both ≡ 32;
  places : (k : ℕ) → k < l.place → get_or l.both k 0 ≡ get_or (l.first ++ l.second) k 0;
}
