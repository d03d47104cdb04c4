use Rattle.std.proofs.Common.{◌≡◌, ℕ, ◌<◌, length, get_or, bit_xor}
use Rattle.cx_digest.proofs.message_code.masked.Given as goal

abbrev pub invariant-loop-place : goal.invariant-loop-place
invariant-loop-place l = (length l.block ≡ 64) × ((k : ℕ) → k < l.place → get_or l.block k 0 ≡ bit_xor l.pad (get_or l.key k 0))
