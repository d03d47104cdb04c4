use Rattle.std.proofs.Common.{◌≡◌, ℕ, ◌≤◌, ◌+◌, get_or, length, map, bit_xor}
use Rattle.cx_gcm.specs.Blocks.{shifted_by}
use Rattle.cx_gcm.specs.Fronts.{front}
use Rattle.cx_gcm.specs.Key.{column_of}
use Rattle.cx_gcm.proofs.ColumnProducts.{horner}
use Rattle.cx_gcm.proofs.multiples.Multiples.product.Given as goal

abbrev pub invariant-loop-n : goal.invariant-loop-n
invariant-loop-n l = record {
  lower_len : length l.lower ≡ 16;
  upper_len : length l.upper ≡ 16;
  sum : bit_xor (front l.lower) (shifted_by (front l.upper) 128) ≡ horner (λ j. map (column_of l.self j) l.x) (l.n + 1);
  rest : (i : ℕ) → l.n ≤ i → get_or l.upper i 0 ≡ 0;
}
