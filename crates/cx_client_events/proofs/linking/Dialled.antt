-- Among the links that are waited for, the one to a peer is found at its place, and none to it is left.
use Rattle.std.proofs.Common.{◌≡◌, ℕ, zero, suc, ◌<◌, Bool, true, false, List, [], ◌∷◌, length, get_or, cond, Option, Some, None, arith, refl, ap}
use Rattle.std.specs.List.{find, position, remove}
use Rattle.std.specs.Prelude.{filter, not}
use Rattle.std.proofs.lemmas.List.Quantifiers.{position-Some}
use Rattle.cx_client_connect.proofs.session.Placed.{all_fail}

module _ {X : Type 0} (p : X → Bool) where
  abbrev pub others : List X → List X
  others xs = filter (λ x. not (p x)) xs

  find_there : (xs : List X) (i : ℕ) (d : X) → i < length xs → p (get_or xs i d) ≡ true → ((k : ℕ) → k < i → p (get_or xs k d) ≡ false) → find p xs ≡ Some (get_or xs i d)
  find_there [] i d lt passes fails = absurd (omega arith)
  find_there (x ∷ xs) zero d lt passes fails = rw passes refl
  find_there (x ∷ xs) (suc i) d lt passes fails =
      rw (fails 0 (omega arith)) (find_there xs i d (omega arith) passes (λ k below. fails (suc k) (omega arith)))

  others_there : (xs : List X) (i : ℕ) (d : X) → i < length xs → p (get_or xs i d) ≡ true → others (remove xs i) ≡ others xs
  others_there [] i d lt passes = absurd (omega arith)
  others_there (x ∷ xs) zero d lt passes = rw passes refl
  others_there (x ∷ xs) (suc i) d lt passes = by_test (p x) (others_there xs i d (omega arith) passes)
    where
      by_test : (t : Bool) → others (remove xs i) ≡ others xs → cond (not t) (x ∷ others (remove xs i)) (others (remove xs i)) ≡ cond (not t) (x ∷ others xs) (others xs)
      by_test true is = is
      by_test false is = ap (λ (ys : List X). x ∷ ys) is

  -- the first that passes stands at its place
  pub found_at : (xs : List X) (i : ℕ) (d : X) → position p xs ≡ Some i → find p xs ≡ Some (get_or xs i d)
  found_at xs i d found =
      let facts = position-Some p xs i d found in
      find_there xs i d facts.0 facts.1 facts.2

  -- without it the same are left
  pub others_at : (xs : List X) (i : ℕ) (d : X) → position p xs ≡ Some i → others (remove xs i) ≡ others xs
  others_at xs i d found =
      let facts = position-Some p xs i d found in
      others_there xs i d facts.0 facts.1

  find_nothing : (xs : List X) → ((k : ℕ) (d : X) → k < length xs → p (get_or xs k d) ≡ false) → find p xs ≡ None
  find_nothing [] fails = refl
  find_nothing (x ∷ xs) fails = rw (fails 0 x (omega arith)) (find_nothing xs (λ k d lt. fails (suc k) d (omega arith)))

  all_stay : (xs : List X) → ((k : ℕ) (d : X) → k < length xs → p (get_or xs k d) ≡ false) → others xs ≡ xs
  all_stay [] fails = refl
  all_stay (x ∷ xs) fails = rw (fails 0 x (omega arith)) (ap (λ (ys : List X). x ∷ ys) (all_stay xs (λ k d lt. fails (suc k) d (omega arith))))

  -- where none passes, none is found, and all are left
  pub none_found : (xs : List X) → position p xs ≡ None → find p xs ≡ None
  none_found xs none = find_nothing xs (all_fail p xs none)

  pub none_taken : (xs : List X) → position p xs ≡ None → others xs ≡ xs
  none_taken xs none = all_stay xs (all_fail p xs none)
