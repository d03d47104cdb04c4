use Rattle.std.proofs.Common.{◌≡◌, ℕ, ◌<◌, ◌+◌, get_or, length}
use Rattle.cx_gcm.proofs.hashing.block_at.Given as goal

abbrev pub invariant-loop-k : goal.invariant-loop-k
invariant-loop-k l = record {
  len : length l.block ≡ 16;
  places : (j : ℕ) → j < l.k → get_or l.block j 0 ≡ get_or l.bytes (l.start + j) 0;
}
