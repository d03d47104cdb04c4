-- What was given under a key, where more is given: under this key it follows, and under other keys nothing changes.
use Rattle.std.proofs.Common.{◌≡◌, ℕ, Bool, true, false, List, [], ◌∷◌, ◌++◌, inl, inr, ◌⊎◌, refl, sym, ap, ◌∙◌, subst, arith, append-nil}
use Rattle.std.proofs.lemmas.List.Elements.{Contains-append_left, Contains-append_right, Contains-push}
use Rattle.std.proofs.lemmas.Slice.Eq.{bytes_eq-Decides}
use Rattle.std.specs.Prelude.{Contains}
use Rattle.std.specs.Str.{bytes_eq}
use Rattle.cx_laws_links.proofs.links.Speaking.{cons-cases, itself}
use Rattle.cx_laws_links.proofs.answers.Given.{Given, given_under, gives_under, if_given}

pub under-append : (key : List ℕ) (xs ys : List (List ℕ × Given)) → given_under key (xs ++ ys) ≡ given_under key xs ++ given_under key ys
under-append key [] ys = refl
under-append key (p ∷ xs) ys = by_test (bytes_eq p.0 key) (under-append key xs ys)
  where
    by_test : (here : Bool) → given_under key (xs ++ ys) ≡ given_under key xs ++ given_under key ys
        → if_given here p.1 (given_under key (xs ++ ys)) ≡ if_given here p.1 (given_under key xs) ++ given_under key ys
    by_test true rest = ap (λ (l : List Given). p.1 ∷ l) rest
    by_test false rest = rest

under-own : (key : List ℕ) (xs : List Given) → given_under key (gives_under key xs) ≡ xs
under-own key [] = refl
under-own key (x ∷ xs) = ap (λ (here : Bool). if_given here x (given_under key (gives_under key xs))) (itself key) ∙ ap (λ (l : List Given). x ∷ l) (under-own key xs)

under-other : (key other : List ℕ) → bytes_eq other key ≡ false → (xs : List Given) → given_under key (gives_under other xs) ≡ []
under-other key other apart [] = refl
under-other key other apart (x ∷ xs) = ap (λ (here : Bool). if_given here x (given_under key (gives_under other xs))) apart ∙ under-other key other apart xs

-- under this key it follows
pub given-own : (key : List ℕ) (all : List (List ℕ × Given)) (xs : List Given) → given_under key (all ++ gives_under key xs) ≡ given_under key all ++ xs
given-own key all xs = under-append key all (gives_under key xs) ∙ ap (λ (l : List Given). given_under key all ++ l) (under-own key xs)

-- under another one nothing changes
pub given-other : (key other : List ℕ) (all : List (List ℕ × Given)) (xs : List Given) → bytes_eq other key ≡ false → given_under key (all ++ gives_under other xs) ≡ given_under key all
given-other key other all xs apart =
    under-append key all (gives_under other xs) ∙ ap (λ (l : List Given). given_under key all ++ l) (under-other key other apart xs) ∙ append-nil (given_under key all)

-- what is given under a key is among all that is given
pub given-has : (key : List ℕ) (all : List (List ℕ × Given)) (x : Given) (xs : List Given) → given_under key all ≡ x ∷ xs → Contains all (key, x)
given-has key [] x xs is = absurd cc
given-has key (p ∷ all) x xs is = by_test (bytes_eq p.0 key) refl is (λ same. given-has key all x xs same)
  where
    by_test : (here : Bool) → bytes_eq p.0 key ≡ here → if_given here p.1 (given_under key all) ≡ x ∷ xs → (given_under key all ≡ x ∷ xs → Contains all (key, x)) → Contains (p ∷ all) (key, x)
    by_test true e is rest =
        let same : p.0 ≡ key = (bytes_eq-Decides p.0 key).0 e in
        let word : p.1 ≡ x = cc in
        let whole : p ≡ (key, x) = ap (λ (k : List ℕ). (k, p.1)) same ∙ ap (λ (w : Given). (key, w)) word in
        Contains-append_left (p ∷ []) all (key, x) (subst (λ (q : List ℕ × Given). Contains (p ∷ []) q) whole (Contains-push [] p))
    by_test false e is rest = Contains-append_right (p ∷ []) all (key, x) (rest is)

-- what is given under a key has it
pub gives-key : (key other : List ℕ) (words : List Given) (x : Given) → Contains (gives_under key words) (other, x) → other ≡ key
gives-key key other [] x has = absurd (none has)
  where
    none : Contains {X = List ℕ × Given} [] (other, x) → ⊥
    none h = omega (arith, h.1)
gives-key key other (v ∷ words) x has = by_place (cons-cases (key, v) (gives_under key words) (other, x) has) (λ there. gives-key key other words x there)
  where
    by_place : (let p : List ℕ × Given = (key, v) in let q : List ℕ × Given = (other, x) in p ≡ q) ⊎ Contains (gives_under key words) (other, x) → (Contains (gives_under key words) (other, x) → other ≡ key) → other ≡ key
    by_place (inl here) rest = ap (λ (p : List ℕ × Given). p.0) (sym here)
    by_place (inr there) rest = rest there
