use Rattle.std.proofs.Common.{◌≡◌, ℕ, ◌<◌, ◌≤◌, [], length, get_or, map}
use Rattle.cx_aes.specs.Basis.{into}
use Rattle.cx_aes.proofs.expansion.forward_keys.Given as goal

abbrev pub invariant-loop-n : goal.invariant-loop-n
invariant-loop-n l = record {
  len : length l.forward ≡ 11;
  changed : (i : ℕ) → i < l.n → get_or l.forward i [] ≡ map into (get_or l.keys i []);
  kept : (i : ℕ) → l.n ≤ i → get_or l.forward i [] ≡ get_or l.keys i [];
}
