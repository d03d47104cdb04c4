-- What the instruction gives, place by place.
use Rattle.std.proofs.Common.{◌≡◌, ℕ, suc, ◌<◌, ◌≤◌, ◌+◌, ◌*◌, ◌/◌, ◌||◌, Bool, IsTrue, List, [], ◌∷◌, map, length, w8, refl, sym, ap, subst, arith}
use Rattle.std.proofs.lemmas.List.Elements.{All-get_or}
use Rattle.std.proofs.lemmas.Simd.{swz_l, SwzOk, SwzOk-from_Each1, Each1-from_get_or}
use mir.Val.{zeroes}
use lib.Dec.{T, ltb}
use Rattle.cx_aes.specs.Lookup.{AreIndices, entry, is_index}

at_first_block : (i j : ℕ) → i < 16 → 16 * (i / 16) + j ≡ j
at_first_block i j lt = let e : i / 16 ≡ 0 = omega arith in omega (arith, e)

pub swizzled : (table at : List ℕ) (i : ℕ) → i + length at ≤ 16 → swz_l w8 16 table i at ≡ map (entry table) at
unfolding entry
swizzled table [] i le = refl
swizzled table (j ∷ js) i le = rw (at_first_block i j (omega arith)) (ap (λ l. entry table j ∷ l) (swizzled table js (suc i) (omega arith)))

pub are_indices : (at : List ℕ) → length at ≡ 16 → AreIndices at → SwzOk w8 16 16 0 at
unfolding is_index
are_indices at len h =
    SwzOk-from_Each1 w8 16 1 16 0 at refl (omega arith)
    (Each1-from_get_or (λ j. T (zeroes 16 w8 j || ltb j 16)) at 0 (λ i lt. holds (All-get_or (λ j. IsTrue (is_index j)) at i 0 lt h)))
  where
    holds : {b : Bool} → IsTrue b → T b
    holds e = subst T (sym e) tt
