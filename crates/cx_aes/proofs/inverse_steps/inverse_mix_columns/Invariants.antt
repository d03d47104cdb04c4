use Rattle.std.proofs.Common.{◌≡◌, ℕ, ◌<◌, length, get_or}
use Rattle.cx_aes.specs.Cipher.{row}
use Rattle.cx_aes.proofs.inverse_steps.inverse_mix_columns.Given as goal

abbrev pub invariant-loop-i : goal.invariant-loop-i
invariant-loop-i l = record {
  len : length l.columns ≡ 16;
  places : (k : ℕ) → k < l.i
      → get_or l.columns k 0 ≡ row 14 11 13 9 (get_or l.s k 0) (get_or l.second k 0) (get_or l.third k 0) (get_or l.fourth k 0);
}
