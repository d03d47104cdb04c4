-- Items by number: the item of a list that has a number stands for ever, whatever comes behind.
use Rattle.std.proofs.Common.{◌≡◌, ℕ, ◌+◌, zero, suc, List, [], ◌∷◌, ◌++◌, length, subst, arith}

-- ---- items by number

module _ {X : Type 0} where
  -- the item of this number, from 0
  abbrev pub IsAt : List X → ℕ → X → Type 0
  IsAt [] i x = ⊥
  IsAt (y ∷ ys) zero x = y ≡ x
  IsAt (y ∷ ys) (suc i) x = IsAt ys i x

  pub at-front : (xs ys : List X) (i : ℕ) (x : X) → IsAt xs i x → IsAt (xs ++ ys) i x
  at-front [] ys i x h = absurd h
  at-front (y ∷ xs) ys zero x h = h
  at-front (y ∷ xs) ys (suc i) x h = at-front xs ys i x h

  pub at-behind : (xs ys : List X) (i : ℕ) (x : X) → IsAt ys i x → IsAt (xs ++ ys) (length xs + i) x
  at-behind [] ys i x h = let same : i ≡ length {A = X} [] + i = omega arith in subst (λ (n : ℕ). IsAt ys n x) same h
  at-behind (y ∷ xs) ys i x h =
      let same : suc (length xs + i) ≡ length (y ∷ xs) + i = omega arith in
      subst (λ (n : ℕ). IsAt (y ∷ (xs ++ ys)) n x) same (at-behind xs ys i x h)
