-- The clock in memory reads its list in order.
use Rattle.std.proofs.Common.{◌≡◌, ℕ, zero, suc, ◌-◌, List, [], ◌∷◌, length, refl, arith}
use Rattle.std.specs.Prelude.{min, slice_index}
use Rattle.cx_outside.specs.timing.Readings.{ReadsInOrder, first_of}

first_read : (readings : List ℕ) → first_of readings ≡ slice_index readings 0
first_read [] = refl
first_read (first ∷ readings) = refl

pub reads_in_order : ReadsInOrder
reads_in_order readings zero = let e : min zero (length readings - 1) ≡ 0 = omega arith in rw e (first_read readings)
reads_in_order [] (suc n) = reads_in_order [] n
reads_in_order (last ∷ []) (suc n) =
    let e : min (suc n) (length (last ∷ []) - 1) ≡ min n (length (last ∷ []) - 1) = omega arith in
    rw e (reads_in_order (last ∷ []) n)
reads_in_order (first ∷ second ∷ readings) (suc n) =
    let e : min (suc n) (length (first ∷ second ∷ readings) - 1) ≡ suc (min n (length (second ∷ readings) - 1)) = omega arith in
    rw e (reads_in_order (second ∷ readings) n)
