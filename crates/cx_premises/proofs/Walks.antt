-- Walks over a list, with one item more at its end.
use Rattle.std.proofs.Common.{List, [], ◌∷◌, ◌++◌, ◌⊎◌, inl, inr}
use Rattle.cx_steps.specs.Onto.{SomeOf, EachOnto}

-- the earlier items behind all of these
abbrev pub behind : {X : Type 0} → List X → List X → List X
behind earlier [] = earlier
behind earlier (x ∷ xs) = behind (x ∷ earlier) xs

pub each_more : {X : Type 0} (P : List X → X → Type 0) (earlier xs : List X) (x : X) → EachOnto P earlier xs → P (behind earlier xs) x → EachOnto P earlier (xs ++ x ∷ [])
each_more P earlier [] x held more = (more, tt)
each_more P earlier (y ∷ xs) x held more = (held.0, each_more P (y ∷ earlier) xs x held.1 more)

module _ {X : Type 0} (P : X → Type 0) where
  pub some_stays : (xs : List X) (x : X) → SomeOf P xs → SomeOf P (xs ++ x ∷ [])
  some_stays [] x there = absurd there
  some_stays (y ∷ xs) x (inl here) = inl here
  some_stays (y ∷ xs) x (inr there) = inr (some_stays xs x there)

  pub some_last : (xs : List X) (x : X) → P x → SomeOf P (xs ++ x ∷ [])
  some_last [] x here = inl here
  some_last (y ∷ xs) x here = inr (some_last xs x here)

  pub some_cases : (xs : List X) (x : X) → SomeOf P (xs ++ x ∷ []) → SomeOf P xs ⊎ P x
  some_cases [] x (inl here) = inr here
  some_cases [] x (inr there) = absurd there
  some_cases (y ∷ xs) x (inl here) = inl (inl here)
  some_cases (y ∷ xs) x (inr there) = further (some_cases xs x there)
    where
      further : SomeOf P xs ⊎ P x → SomeOf P (y ∷ xs) ⊎ P x
      further (inl earlier) = inl (inr earlier)
      further (inr last) = inr last

  -- the same items, with the newest first
  pub some_behind : (earlier xs : List X) → SomeOf P xs ⊎ SomeOf P earlier → SomeOf P (behind earlier xs)
  some_behind earlier [] (inl there) = absurd there
  some_behind earlier [] (inr there) = there
  some_behind earlier (x ∷ xs) (inl (inl here)) = some_behind (x ∷ earlier) xs (inr (inl here))
  some_behind earlier (x ∷ xs) (inl (inr there)) = some_behind (x ∷ earlier) xs (inl there)
  some_behind earlier (x ∷ xs) (inr there) = some_behind (x ∷ earlier) xs (inr (inr there))

  sorted_out : (earlier xs : List X) (x : X) → SomeOf P xs ⊎ SomeOf P (x ∷ earlier) → SomeOf P (x ∷ xs) ⊎ SomeOf P earlier
  sorted_out earlier xs x (inl there) = inl (inr there)
  sorted_out earlier xs x (inr (inl here)) = inl (inl here)
  sorted_out earlier xs x (inr (inr there)) = inr there

  pub behind_some : (earlier xs : List X) → SomeOf P (behind earlier xs) → SomeOf P xs ⊎ SomeOf P earlier
  behind_some earlier [] there = inr there
  behind_some earlier (x ∷ xs) there = sorted_out earlier xs x (behind_some (x ∷ earlier) xs there)

  some_of_two : (xs : List X) → SomeOf P xs ⊎ ⊥ → SomeOf P xs
  some_of_two xs (inl there) = there
  some_of_two xs (inr none) = absurd none

  pub from_newest : (xs : List X) → SomeOf P (behind [] xs) → SomeOf P xs
  from_newest xs there = some_of_two xs (behind_some [] xs there)

  pub to_newest : (xs : List X) → SomeOf P xs → SomeOf P (behind [] xs)
  to_newest xs there = some_behind [] xs (inl there)

pub some_from : {X : Type 0} (P Q : X → Type 0) → ((x : X) → P x → Q x) → (xs : List X) → SomeOf P xs → SomeOf Q xs
some_from P Q each [] there = absurd there
some_from P Q each (x ∷ xs) (inl here) = inl (each x here)
some_from P Q each (x ∷ xs) (inr there) = inr (some_from P Q each xs there)
