use Rattle.std.proofs.Common.{◌≡◌, ℕ, ◌<◌, length, get_or, bit_xor}
use Rattle.cx_aes.proofs.steps.add.Given as goal

abbrev pub invariant-loop-i : goal.invariant-loop-i
invariant-loop-i l = record {
  len : length l.sum ≡ 16;
  places : (k : ℕ) → k < l.i → get_or l.sum k 0 ≡ bit_xor (get_or l.first k 0) (get_or l.second k 0);
}
