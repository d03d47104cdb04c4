-- Generations of which the second is unexpired stay as they are at a rotation.
use Rattle.std.proofs.Common.{◌≡◌, ℕ, Bool, true, false, cond, List, [], ◌∷◌, Option, Some, refl, ap, take}
use Rattle.std.specs.Prelude.{IsTrue, find, if◌then◌else◌, nat_lt, unwrap_or}
use Rattle.cx_rotate.specs.Rotation.{additions, grown, is_current, is_full, rotated}
use Rattle.cx_rotate.specs.declared.generations.Generation.{Generation}

-- where the first passes, it is found, and it is 0
first_is_none : (full first : Bool) (rest : Option ℕ) → first ≡ true → (if full then 0 else unwrap_or (cond first (Some 0) rest) 0) ≡ 0
first_is_none true first rest e = refl
first_is_none false true rest e = refl
first_is_none false false rest e = cc

pub current_adds_none : (now : ℕ) (old : List Generation) → IsTrue (is_current now old) → (life : ℕ) (keys : List (List ℕ)) → additions now life keys old ≡ 0
current_adds_none now (previous ∷ second ∷ newest ∷ []) current life keys =
    let old : List Generation = previous ∷ second ∷ newest ∷ [] in
    first_is_none (is_full old) (nat_lt now second.expires) (find (λ n. is_current now (grown now life (take n keys) old)) (1 ∷ 2 ∷ 3 ∷ [])) current
current_adds_none now _ current life keys = absurd cc

pub current_stays : (now : ℕ) (old : List Generation) → IsTrue (is_current now old) → (life : ℕ) (keys : List (List ℕ)) → rotated now life keys old ≡ old
current_stays now (previous ∷ second ∷ newest ∷ []) current life keys =
    let old : List Generation = previous ∷ second ∷ newest ∷ [] in
    ap (λ n. grown now life (take n keys) old) (current_adds_none now old current life keys)
current_stays now _ current life keys = absurd cc
