-- The rotation of no generations.
use Rattle.std.proofs.Common.{◌≡◌, ℕ, zero, suc, ◌<◌, List, [], ◌∷◌, length, take, arith}
use Rattle.std.specs.Prelude.{IsTrue}
use Rattle.std.proofs.lemmas.Bool.Decides.{nat_tests}
use Rattle.cx_rotate.specs.declared.generations.Generation.{Generation}
use Rattle.cx_rotate.specs.Rotation.{Rotated, grown, is_current}

least_of : (now life : ℕ) (a b c : List ℕ) (m : ℕ) → m < 3 → IsTrue (is_current now (grown now life (take m (a ∷ b ∷ c ∷ [])) [])) → ⊥
least_of now life a b c zero small early = cc
least_of now life a b c (suc zero) small early = cc
least_of now life a b c (suc (suc zero)) small early = cc
least_of now life a b c (suc (suc (suc n))) small early = absurd (omega arith)

pub opened : (now life : ℕ) (keys : List (List ℕ)) (new : List Generation) → length keys ≡ 3 → 0 < life → new ≡ grown now life keys [] → Rotated [] now life keys new 3
opened now life (a ∷ b ∷ c ∷ []) new three some grows = record {
  grows = grows;
  full = λ full. cc (full);
  current = λ _. rw grows (grind (arith, nat_tests));
  least = least_of now life a b c;
}
opened now life (a ∷ b ∷ c ∷ d ∷ keys) new three some grows = absurd (omega arith)
opened now life (a ∷ b ∷ []) new three some grows = absurd (omega arith)
opened now life (a ∷ []) new three some grows = absurd (omega arith)
opened now life [] new three some grows = absurd (omega arith)
