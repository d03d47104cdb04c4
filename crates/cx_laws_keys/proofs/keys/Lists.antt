-- Some and each of the items of a list, as the facts of a run need them.
use Rattle.std.proofs.Common.{◌≡◌, Bool, true, false, cond, inl, inr, List, [], ◌∷◌, ◌++◌, map, find, Some, refl, sym, ap, ◌∙◌, subst}
use Rattle.std.specs.List.{AllByRecursion}
use Rattle.cx_steps.specs.Onto.{SomeOf}

module _ {X : Type 0} where
  pub all-map : (P Q : X → Type 0) → ((x : X) → P x → Q x) → (xs : List X) → AllByRecursion P xs → AllByRecursion Q xs
  all-map P Q f [] h = tt
  all-map P Q f (x ∷ xs) h = (f x h.0, all-map P Q f xs h.1)

  pub some-map : (P Q : X → Type 0) → ((x : X) → P x → Q x) → (xs : List X) → SomeOf P xs → SomeOf Q xs
  some-map P Q f [] h = absurd h
  some-map P Q f (x ∷ xs) (inl h) = inl (f x h)
  some-map P Q f (x ∷ xs) (inr h) = inr (some-map P Q f xs h)

  -- one item of which both are said
  pub some-of : (P Q : X → Type 0) (C : Type 0) → ((x : X) → P x → Q x → C) → (xs : List X) → SomeOf P xs → AllByRecursion Q xs → C
  some-of P Q C f [] h all = absurd h
  some-of P Q C f (x ∷ xs) (inl h) all = f x h all.0
  some-of P Q C f (x ∷ xs) (inr h) all = some-of P Q C f xs h all.1

  -- of which something follows
  pub some-with : (P Q R : X → Type 0) → ((x : X) → P x → Q x → R x) → (xs : List X) → SomeOf P xs → AllByRecursion Q xs → SomeOf R xs
  some-with P Q R f [] h all = absurd h
  some-with P Q R f (x ∷ xs) (inl h) all = inl (f x h all.0)
  some-with P Q R f (x ∷ xs) (inr h) all = inr (some-with P Q R f xs h all.1)

  pub some-left : (P : X → Type 0) (xs ys : List X) → SomeOf P xs → SomeOf P (xs ++ ys)
  some-left P [] ys h = absurd h
  some-left P (x ∷ xs) ys (inl h) = inl h
  some-left P (x ∷ xs) ys (inr h) = inr (some-left P xs ys h)

  pub some-right : (P : X → Type 0) (xs ys : List X) → SomeOf P ys → SomeOf P (xs ++ ys)
  some-right P [] ys h = h
  some-right P (x ∷ xs) ys h = inr (some-right P xs ys h)

  pub all-append : (P : X → Type 0) (xs ys : List X) → AllByRecursion P xs → AllByRecursion P ys → AllByRecursion P (xs ++ ys)
  all-append P [] ys h g = g
  all-append P (x ∷ xs) ys h g = (h.0, all-append P xs ys h.1 g)

  -- what is found passes the test, and is as all items are
  pub found_passes : (test : X → Bool) (xs : List X) (x : X) → find test xs ≡ Some x → test x ≡ true
  found_passes test [] x e = absurd cc
  found_passes test (y ∷ ys) x e = by_test (test y) refl e (found_passes test ys x)
    where
      by_test : (t : Bool) → test y ≡ t → cond t (Some y) (find test ys) ≡ Some x → (find test ys ≡ Some x → test x ≡ true) → test x ≡ true
      by_test true is found rest = let same : y ≡ x = cc in ap test (sym same) ∙ is
      by_test false is found rest = rest found

  pub found_all : (P : X → Type 0) (test : X → Bool) (xs : List X) (x : X) → AllByRecursion P xs → find test xs ≡ Some x → P x
  found_all P test [] x h e = absurd cc
  found_all P test (y ∷ ys) x h e = by_test (test y) e (found_all P test ys x h.1)
    where
      by_test : (t : Bool) → cond t (Some y) (find test ys) ≡ Some x → (find test ys ≡ Some x → P x) → P x
      by_test true found rest = let same : y ≡ x = cc in subst P same h.0
      by_test false found rest = rest found

-- a list that is mapped
pub all-of-map : {X Y : Type 0} (P : Y → Type 0) (f : X → Y) (xs : List X) → ((x : X) → P (f x)) → AllByRecursion P (map f xs)
all-of-map P f [] h = tt
all-of-map P f (x ∷ xs) h = (h x, all-of-map P f xs h)

pub map-append : {X Y : Type 0} (f : X → Y) (xs ys : List X) → map f (xs ++ ys) ≡ map f xs ++ map f ys
map-append f [] ys = refl
map-append {X} {Y} f (x ∷ xs) ys = ap (λ (l : List Y). f x ∷ l) (map-append f xs ys)
