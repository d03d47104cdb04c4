-- A rotation has one result.
use Rattle.std.proofs.Common.{◌≡◌, ℕ, zero, suc, ◌<◌, ◌≤◌, Bool, true, false, List, [], ◌∷◌, take, cond, arith, refl}
use Rattle.std.specs.Prelude.{IsTrue, find, unwrap_or}
use Rattle.cx_rotate.specs.declared.generations.Generation.{Generation}
use Rattle.cx_rotate.specs.Rotation.{Rotated, rotated, additions, grown, is_current, is_full}

untrue : (b : Bool) → (IsTrue b → ⊥) → b ≡ false
untrue true fails = absurd (fails refl)
untrue false fails = refl

-- the least of 0 to 3 that passes is the first one found there
least_is : (p : ℕ → Bool) (n : ℕ) → n ≤ 3 → IsTrue (p n) → ((m : ℕ) → m < n → IsTrue (p m) → ⊥) → unwrap_or (find p (0 ∷ 1 ∷ 2 ∷ 3 ∷ [])) 0 ≡ n
least_is p zero small passes least = rw passes refl
least_is p (suc zero) small passes least = rw (untrue (p 0) (least 0 (omega arith)), passes) refl
least_is p (suc (suc zero)) small passes least =
    rw (untrue (p 0) (least 0 (omega arith)), untrue (p 1) (least 1 (omega arith)), passes) refl
least_is p (suc (suc (suc zero))) small passes least =
    rw (untrue (p 0) (least 0 (omega arith)), untrue (p 1) (least 1 (omega arith)), untrue (p 2) (least 2 (omega arith)), passes) refl
least_is p (suc (suc (suc (suc n)))) small passes least = absurd (omega arith)

counted_by : (full : Bool) (p : ℕ → Bool) (n : ℕ) → n ≤ 3 → (IsTrue full → n ≡ 0) → (full ≡ false → IsTrue (p n)) → ((m : ℕ) → m < n → IsTrue (p m) → ⊥)
    → cond full 0 (unwrap_or (find p (0 ∷ 1 ∷ 2 ∷ 3 ∷ [])) 0) ≡ n
counted_by true p n small none passes least = let e = none refl in cc
counted_by false p n small none passes least = least_is p n small (passes refl) least

pub counted : (old : List Generation) (now life : ℕ) (keys : List (List ℕ)) (new : List Generation) (n : ℕ) → Rotated old now life keys new n → n ≤ 3 → additions now life keys old ≡ n
counted old now life keys new n r small =
    counted_by (is_full old) (λ m. is_current now (grown now life (take m keys) old)) n small r.full (λ room. rw (← r.grows) (r.current room)) r.least

pub computed : (old : List Generation) (now life : ℕ) (keys : List (List ℕ)) (new : List Generation) (n : ℕ) → Rotated old now life keys new n → n ≤ 3 → new ≡ rotated now life keys old
computed old now life keys new n r small = rw (counted old now life keys new n r small) r.grows
