use Rattle.std.proofs.Common.{◌≡◌, ◌↔◌, ℕ, ◌<◌, get_or}
use Rattle.cx_gcm.proofs.hashing.is_same_tag.Given as goal

abbrev pub invariant-loop-i : goal.invariant-loop-i
invariant-loop-i l = (l.differences ≡ 0) ↔ ((j : ℕ) → j < l.i → get_or l.first j 0 ≡ get_or l.second j 0)
