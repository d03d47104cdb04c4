use Rattle.std.proofs.Common.{ℕ, ◌<◌, drop}
use Rattle.std.specs.List.{AllByRecursion}
use Rattle.cx_laws_text.proofs.types.are_bytes.Given as goal

abbrev pub invariant-loop-i : goal.invariant-loop-i
invariant-loop-i l = record {
  so_far : AllByRecursion (λ (b : ℕ). b < 256) (drop l.i l.bytes) → AllByRecursion (λ (b : ℕ). b < 256) l.bytes;
}
