use Rattle.std.proofs.Common.{◌≡◌, ℕ, ◌<◌, ◌≤◌, [], length, get_or, map}
use Rattle.cx_aes.specs.Inverse.{inverse_mix_columns}
use Rattle.cx_aes.specs.InverseBasis.{back}
use Rattle.cx_aes.proofs.expansion.backward_keys.Given as goal

abbrev pub invariant-loop-n : goal.invariant-loop-n
invariant-loop-n l = record {
  len : length l.backward ≡ 11;
  first : get_or l.backward 0 [] ≡ get_or l.keys 0 [];
  changed : (i : ℕ) → 1 ≤ i → i < l.n → get_or l.backward i [] ≡ map back (inverse_mix_columns (get_or l.keys i []));
}
