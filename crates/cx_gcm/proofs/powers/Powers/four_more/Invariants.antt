use Rattle.std.proofs.Common.{◌≡◌, ℕ, ◌≤◌, ◌+◌, get_or, length, map, bit_xor}
use lib.Lanes.{zip2}
use Rattle.cx_gcm.specs.Blocks.{shifted_by}
use Rattle.cx_gcm.specs.Fronts.{front}
use Rattle.cx_gcm.specs.Key.{column_of}
use Rattle.cx_gcm.proofs.ColumnProducts.{horner}
use Rattle.cx_gcm.proofs.powers.Powers.four_more.Given as goal

abbrev pub invariant-loop-n : goal.invariant-loop-n
invariant-loop-n l = record {
  lower_len : length l.lower ≡ 16;
  upper_len : length l.upper ≡ 16;
  sum : bit_xor (front l.lower) (shifted_by (front l.upper) 128)
      ≡ horner
      (λ j.
      zip2 bit_xor (zip2 bit_xor (map (column_of l.self.fourth j) l.a) (map (column_of l.self.third j) l.b))
      (zip2 bit_xor (map (column_of l.self.second j) l.c) (map (column_of l.self.first j) l.d)))
      (l.n + 1);
  rest : (i : ℕ) → l.n ≤ i → get_or l.upper i 0 ≡ 0;
}
