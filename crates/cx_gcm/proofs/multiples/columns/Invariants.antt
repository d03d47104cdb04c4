use Rattle.std.proofs.Common.{◌≡◌, ℕ, ◌<◌, [], length, get_or, map}
use Rattle.std.specs.List.{range_with_len}
use Rattle.cx_gcm.specs.Multiples.{byte_of, sum_of}
use Rattle.cx_gcm.proofs.multiples.columns.Given as goal

abbrev pub invariant-loop-place : goal.invariant-loop-place
invariant-loop-place l = record {
  len : length l.columns ≡ 16;
  places : (i : ℕ) → i < l.place
      → get_or l.columns i [] ≡ map (λ n. sum_of n (byte_of i l.eight) (byte_of i l.four) (byte_of i l.two) (byte_of i l.one)) (range_with_len 0 16);
}
