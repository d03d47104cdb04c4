-- The links that live, without one.
use Rattle.std.proofs.Common.{◌≡◌, ℕ, suc, ◌≤◌, Bool, true, false, List, [], ◌∷◌, length, refl, ap, arith}
use Rattle.std.specs.Prelude.{◌==◌, ◌||◌, not, cond}
use Rattle.cx_outside.specs.linking.Living.{lives, without}

no_more : (link : ℕ) (living : List ℕ) → length (without link living) ≤ length living
no_more link [] = omega arith
no_more link (l ∷ living) = kept (not (l == link)) (without link living) (no_more link living) where
  kept : (b : Bool) (left : List ℕ) → length left ≤ length living → length (cond b (l ∷ left) left) ≤ length (l ∷ living)
  kept true left le = omega (arith, le)
  kept false left le = omega (arith, le)

-- where the link lived, there is one less
pub one_less : (link : ℕ) (living : List ℕ) → lives link living ≡ true → suc (length (without link living)) ≤ length living
one_less link [] lived = absurd (cc lived)
one_less link (l ∷ living) lived = kept (l == link) (without link living) (no_more link living) (one_less link living) lived where
  kept : (b : Bool) (left : List ℕ) → length left ≤ length living → (lives link living ≡ true → suc (length left) ≤ length living)
      → (b || lives link living) ≡ true → suc (length (cond (not b) (l ∷ left) left)) ≤ length (l ∷ living)
  kept true left le less lived = omega (arith, le)
  kept false left le less lived = omega (arith, less lived)

-- a link that doesn't live isn't among them
pub none_less : (link : ℕ) (living : List ℕ) → lives link living ≡ false → without link living ≡ living
none_less link [] h = refl
none_less link (l ∷ living) h = kept (l == link) (none_less link living) h where
  kept : (b : Bool) → (lives link living ≡ false → without link living ≡ living) → (b || lives link living) ≡ false
      → cond (not b) (l ∷ without link living) (without link living) ≡ l ∷ living
  kept true less h = absurd (cc h)
  kept false less h = ap (λ k. l ∷ k) (less h)
