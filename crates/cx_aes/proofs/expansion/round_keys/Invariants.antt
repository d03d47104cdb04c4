use Rattle.std.proofs.Common.{◌≡◌, ℕ, ◌≤◌, ◌+◌, [], length, get_or}
use Rattle.cx_aes.specs.Cipher.{round_constant, round_key}
use Rattle.cx_aes.proofs.expansion.round_keys.Given as goal

abbrev pub invariant-loop-made : goal.invariant-loop-made
invariant-loop-made l = record {
  len : length l.keys ≡ 11;
  constant : l.constant ≡ round_constant (l.made + 1);
  expanded : (k : ℕ) → k ≤ l.made → get_or l.keys k [] ≡ round_key l.key k;
}
