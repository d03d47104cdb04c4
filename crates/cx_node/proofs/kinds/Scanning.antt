-- What is read off the links so far, from their front.
use Rattle.std.proofs.Common.{◌≡◌, ◌∙◌, ℕ, ◌+◌, ◌<◌, Bool, true, false, List, [], ◌∷◌, ◌++◌, length, get_or, take, map, cond, Some, refl, sym, ap}
use Rattle.std.specs.List.{list_all, list_any}
use Rattle.std.specs.Prelude.{filter, slice_get}
use Rattle.std.proofs.lemmas.List.Elements.{filter_more}
use Rattle.std.proofs.lemmas.List.Folds.{list_all_at, list_all_more, list_any_at, list_any_more}
use Rattle.std.proofs.lemmas.Option.{get_or_from_slice_get, slice_get_within}
use Rattle.cx_rules_session.specs.cx_rules.specs.Links.{Link}

module _ {X : Type 0} (p : X → Bool) where
  pub none_more : (xs : List X) (i : ℕ) (x : X) → list_any p (take i xs) ≡ false → Some x ≡ slice_get xs i → p x ≡ false → list_any p (take (i + 1) xs) ≡ false
  none_more xs i x none is fails =
      let at : get_or xs i x ≡ x = get_or_from_slice_get xs i x x (sym is) in
      let within : i < length xs = slice_get_within xs i x (sym is) in
      rw (list_any_more p xs i x within, none, at, fails) refl

  pub one_passes : (xs : List X) (i : ℕ) (x : X) → Some x ≡ slice_get xs i → p x ≡ true → list_any p xs ≡ true
  one_passes xs i x is passes =
      let at : get_or xs i x ≡ x = get_or_from_slice_get xs i x x (sym is) in
      list_any_at p xs i x (slice_get_within xs i x (sym is)) (ap p at ∙ passes)

  pub more_pass : (xs : List X) (i : ℕ) (x : X) → list_all p (take i xs) ≡ true → Some x ≡ slice_get xs i → p x ≡ true → list_all p (take (i + 1) xs) ≡ true
  more_pass xs i x all is passes =
      let at : get_or xs i x ≡ x = get_or_from_slice_get xs i x x (sym is) in
      let within : i < length xs = slice_get_within xs i x (sym is) in
      rw (list_all_more p xs i x within, all, at, passes) refl

  pub one_fails : (xs : List X) (i : ℕ) (x : X) → Some x ≡ slice_get xs i → p x ≡ false → list_all p xs ≡ false
  one_fails xs i x is fails =
      let at : get_or xs i x ≡ x = get_or_from_slice_get xs i x x (sym is) in
      list_all_at p xs i x (slice_get_within xs i x (sym is)) (ap p at ∙ fails)

-- the numbers of those that pass, with one more looked at
pub picked_more : {T : Type 0} (p : Link T → Bool) (xs : List (Link T)) (i : ℕ) (x : Link T) → Some x ≡ slice_get xs i
    → map (λ (l : Link T). l.number) (filter p (take (i + 1) xs)) ≡ map (λ (l : Link T). l.number) (filter p (take i xs)) ++ cond (p x) (x.number ∷ []) []
picked_more {T = T} p xs i x is =
    let at : get_or xs i x ≡ x = get_or_from_slice_get xs i x x (sym is) in
    let within : i < length xs = slice_get_within xs i x (sym is) in
    rw (filter_more p xs i x within, at) (by_test (filter p (take i xs)) (p x))
  where
    by_test : (front : List (Link T)) (t : Bool) → map (λ (l : Link T). l.number) (front ++ cond t (x ∷ []) [])
        ≡ map (λ (l : Link T). l.number) front ++ cond t (x.number ∷ []) []
    by_test [] true = refl
    by_test [] false = refl
    by_test (l ∷ front) t = let first : List ℕ → List ℕ = λ ns. l.number ∷ ns in ap first (by_test front t)
