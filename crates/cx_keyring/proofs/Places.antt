-- The first place of an item that passes.
use Rattle.std.proofs.Common.{◌≡◌, ℕ, ◌+◌, ◌≤◌, Bool, true, false, cond, List, [], ◌∷◌, ◌++◌, length, Some, None, refl, ap, ◌∙◌, arith, add-zero, length-append}
use Rattle.std.specs.Prelude.{◌==◌, find, is_some, nat_lt, option_and_then, position, not}
use Rattle.std.specs.List.{list_any, position_or_len, slice_get}
use Rattle.std.proofs.lemmas.Bool.{or_parts}
use Rattle.std.proofs.lemmas.Bool.Decides.{nat_tests}
use Rattle.std.proofs.lemmas.List.Folds.{find_at, position_or_len_push}
use Rattle.std.proofs.lemmas.List.Sums.{prefix_len-le-length}
use Rattle.std.proofs.lemmas.Option.{slice_get_past}

by_test : {X : Type 0} (xs : List X) (n : ℕ) (b : Bool) → nat_lt n (length xs) ≡ b → slice_get xs n ≡ option_and_then (slice_get xs) (cond b (Some n) None)
by_test xs n true within = refl
by_test xs n false past = let far : length xs ≤ n = grind (arith, nat_tests) in slice_get_past xs n far

-- what a search finds is what stands at that place
pub find_by_place : {X : Type 0} (p : X → Bool) (xs : List X) → find p xs ≡ option_and_then (slice_get xs) (position p xs)
find_by_place p xs = find_at p xs ∙ by_test xs (position_or_len p xs) (nat_lt (position_or_len p xs) (length xs)) refl

pushed : {X : Type 0} (xs : List X) (first : ℕ) (b passes : Bool) → first ≤ length xs → nat_lt first (length xs) ≡ b
    → (let next = cond (first == length xs) (length xs + cond passes 0 1) first in cond (nat_lt next (length xs + 1)) (Some next) None)
    ≡ cond (is_some (cond b (Some first) None)) (cond b (Some first) None) (cond passes (Some (length xs)) None)
pushed xs first true passes le is =
    let other : (first == length xs) ≡ false = grind (arith, nat_tests) in
    let within : nat_lt first (length xs + 1) ≡ true = grind (arith, nat_tests) in
    rw (other, within) refl
pushed xs first false true le is =
    let same : (first == length xs) ≡ true = grind (arith, nat_tests) in
    let within : nat_lt (length xs) (length xs + 1) ≡ true = grind (arith, nat_tests) in
    rw (same, add-zero (length xs), within) refl
pushed xs first false false le is =
    let same : (first == length xs) ≡ true = grind (arith, nat_tests) in
    let past : nat_lt (length xs + 1) (length xs + 1) ≡ false = grind (arith, nat_tests) in
    rw (same, past) refl

-- the first place where one more item stands behind the others
pub position_push : {X : Type 0} (p : X → Bool) (xs : List X) (x : X) → position p (xs ++ x ∷ []) ≡ cond (is_some (position p xs)) (position p xs) (cond (p x) (Some (length xs)) None)
position_push p xs x =
    let first = position_or_len p xs in
    let more : length (xs ++ x ∷ []) ≡ length xs + 1 = simp length-append in
    let le : first ≤ length xs = prefix_len-le-length (λ y. not (p y)) xs in
    ap (λ n. cond (nat_lt n (length (xs ++ x ∷ []))) (Some n) None) (position_or_len_push p xs x)
    ∙ ap (λ m. let next = cond (first == length xs) (length xs + cond (p x) 0 1) first in cond (nat_lt next m) (Some next) None) more
    ∙ pushed xs first (nat_lt first (length xs)) (p x) le refl

at_end : {X : Type 0} (p : X → Bool) (xs : List X) → list_any p xs ≡ false → position_or_len p xs ≡ length xs
at_end p [] none = refl
at_end p (x ∷ xs) none =
    let parts = or_parts (p x) (list_any p xs) none in
    let rest = at_end p xs parts.1 in
    rw (parts.0) (omega (arith, rest))

-- none passes
pub position_none : {X : Type 0} (p : X → Bool) (xs : List X) → list_any p xs ≡ false → position p xs ≡ None
position_none p xs none =
    let past : nat_lt (length xs) (length xs) ≡ false = grind (arith, nat_tests) in
    ap (λ n. cond (nat_lt n (length xs)) (Some n) None) (at_end p xs none) ∙ ap (λ b. cond b (Some (length xs)) None) past

found_none : {X : Type 0} (p : X → Bool) (x : X) (xs : List X) (b : Bool) → p x ≡ b → cond b (Some x) (find p xs) ≡ None → (find p xs ≡ None → list_any p xs ≡ false) → list_any p (x ∷ xs) ≡ false
found_none p x xs true is e more = absurd (let same : Some x ≡ None = e in cc)
found_none p x xs false is e more = rw (is, more e) refl

-- a search that finds nothing
pub find_none : {X : Type 0} (p : X → Bool) (xs : List X) → find p xs ≡ None → list_any p xs ≡ false
find_none p [] e = refl
find_none p (x ∷ xs) e = found_none p x xs (p x) refl e (find_none p xs)
