-- Some and each of the items of a list.
use Rattle.std.proofs.Common.{◌≡◌, ◌⊎◌, Bool, true, false, cond, inl, inr, List, [], ◌∷◌, ◌++◌, filter, find, map, Some, refl, sym, ap, ◌∙◌, subst}
use Rattle.std.specs.List.{AllByRecursion}
use Rattle.cx_run.specs.cx_steps.specs.Onto.{SomeOf}

module _ {X : Type 0} where
  pub all-map : (P Q : X → Type 0) → ((x : X) → P x → Q x) → (xs : List X) → AllByRecursion P xs → AllByRecursion Q xs
  all-map P Q f [] h = tt
  all-map P Q f (x ∷ xs) h = (f x h.0, all-map P Q f xs h.1)

  -- one item of which both are said
  pub some-of : (P Q : X → Type 0) (C : Type 0) → ((x : X) → P x → Q x → C) → (xs : List X) → SomeOf P xs → AllByRecursion Q xs → C
  some-of P Q C f [] h all = absurd h
  some-of P Q C f (x ∷ xs) (inl h) all = f x h all.0
  some-of P Q C f (x ∷ xs) (inr h) all = some-of P Q C f xs h all.1

  pub all-append : (P : X → Type 0) (xs ys : List X) → AllByRecursion P xs → AllByRecursion P ys → AllByRecursion P (xs ++ ys)
  all-append P [] ys h g = g
  all-append P (x ∷ xs) ys h g = (h.0, all-append P xs ys h.1 g)

  pub some-map : (P Q : X → Type 0) → ((x : X) → P x → Q x) → (xs : List X) → SomeOf P xs → SomeOf Q xs
  some-map P Q f [] h = absurd h
  some-map P Q f (x ∷ xs) (inl h) = inl (f x h)
  some-map P Q f (x ∷ xs) (inr h) = inr (some-map P Q f xs h)

  pub some-left : (P : X → Type 0) (xs ys : List X) → SomeOf P xs → SomeOf P (xs ++ ys)
  some-left P [] ys h = absurd h
  some-left P (x ∷ xs) ys (inl h) = inl h
  some-left P (x ∷ xs) ys (inr h) = inr (some-left P xs ys h)

  pub some-either : (P : X → Type 0) (xs ys : List X) → SomeOf P (xs ++ ys) → SomeOf P xs ⊎ SomeOf P ys
  some-either P [] ys h = inr h
  some-either P (x ∷ xs) ys (inl h) = inl (inl h)
  some-either P (x ∷ xs) ys (inr h) = by_way (some-either P xs ys h)
    where
      by_way : SomeOf P xs ⊎ SomeOf P ys → SomeOf P (x ∷ xs) ⊎ SomeOf P ys
      by_way (inl left) = inl (inr left)
      by_way (inr right) = inr right

  pub some-filtered : (P : X → Type 0) (test : X → Bool) (xs : List X) → SomeOf P (filter test xs) → SomeOf P xs
  some-filtered P test [] h = h
  some-filtered P test (x ∷ xs) h = by_test (test x) h (some-filtered P test xs)
    where
      by_test : (t : Bool) → SomeOf P (cond t (x ∷ filter test xs) (filter test xs)) → (SomeOf P (filter test xs) → SomeOf P xs) → SomeOf P (x ∷ xs)
      by_test true (inl here) rest = inl here
      by_test true (inr later) rest = inr (rest later)
      by_test false later rest = inr (rest later)

  -- what is found is one of them
  pub found-some : (P : X → Type 0) (test : X → Bool) (xs : List X) (x : X) → find test xs ≡ Some x → P x → SomeOf P xs
  found-some P test [] x e p = absurd cc
  found-some P test (y ∷ ys) x e p = by_test (test y) e (λ found. found-some P test ys x found p)
    where
      by_test : (t : Bool) → cond t (Some y) (find test ys) ≡ Some x → (find test ys ≡ Some x → SomeOf P ys) → SomeOf P (y ∷ ys)
      by_test true found rest = let same : y ≡ x = cc in inl (subst P (sym same) p)
      by_test false found rest = inr (rest found)

  -- and passes the test
  pub found-passes : (test : X → Bool) (xs : List X) (x : X) → find test xs ≡ Some x → test x ≡ true
  found-passes test [] x e = absurd cc
  found-passes test (y ∷ ys) x e = by_test (test y) refl e (found-passes test ys x)
    where
      by_test : (t : Bool) → test y ≡ t → cond t (Some y) (find test ys) ≡ Some x → (find test ys ≡ Some x → test x ≡ true) → test x ≡ true
      by_test true is found rest = let same : y ≡ x = cc in ap test (sym same) ∙ is
      by_test false is found rest = rest found

  pub found-all : (P : X → Type 0) (test : X → Bool) (xs : List X) (x : X) → AllByRecursion P xs → find test xs ≡ Some x → P x
  found-all P test [] x h e = absurd cc
  found-all P test (y ∷ ys) x h e = by_test (test y) e (found-all P test ys x h.1)
    where
      by_test : (t : Bool) → cond t (Some y) (find test ys) ≡ Some x → (find test ys ≡ Some x → P x) → P x
      by_test true found rest = let same : y ≡ x = cc in subst P same h.0
      by_test false found rest = rest found

  -- what each item has to itself, each has to some
  all-among : (P : X → X → Type 0) → ((x : X) → P x x) → (whole xs : List X) → ((Q : X → Type 0) → SomeOf Q xs → SomeOf Q whole)
      → AllByRecursion (λ (x : X). SomeOf (λ (y : X). P y x) whole) xs
  all-among P self whole [] f = tt
  all-among P self whole (x ∷ xs) f = (f (λ (y : X). P y x) (inl (self x)), all-among P self whole xs (λ Q s. f Q (inr s)))

  pub all-self : (P : X → X → Type 0) → ((x : X) → P x x) → (xs : List X) → AllByRecursion (λ (x : X). SomeOf (λ (y : X). P y x) xs) xs
  all-self P self xs = all-among P self xs xs (λ Q s. s)

pub map-append : {X Y : Type 0} (f : X → Y) (xs ys : List X) → map f (xs ++ ys) ≡ map f xs ++ map f ys
map-append f [] ys = refl
map-append {X} {Y} f (x ∷ xs) ys = ap (λ (l : List Y). f x ∷ l) (map-append f xs ys)
