-- Places in lists that grow by one at the end.
use Rattle.std.proofs.Common.{◌≡◌, ℕ, suc, ◌+◌, ◌≤◌, List, [], ◌∷◌, ◌++◌, length, Bool, true, false, cond, not, ◌||◌, filter, position, Some, None, is_some, refl, sym, ◌∙◌, ap, eqb, ltb, arith, append-nil, ◌==◌, length-append}
use Rattle.std.specs.List.{position_or_len, list_any}
use Rattle.std.proofs.lemmas.List.Folds.{position_or_len_push}
use Rattle.std.proofs.lemmas.List.Sums.{prefix_len-le-length}
use Rattle.std.proofs.lemmas.List.Elements.{filter-append}
use Rattle.std.proofs.lemmas.Map.Views.{any-filter_same}
use Rattle.std.proofs.lemmas.Bool.Decides.{nat_tests}
use Rattle.cx_journal.specs.Places.{different}

within : {X : Type 0} (p : X → Bool) (xs : List X) → position_or_len p xs ≤ length xs
within p xs = prefix_len-le-length (λ x. not (p x)) xs

place_push : (n more len : ℕ) (b : Bool) → n ≤ len → more ≡ cond (eqb n len) (len + cond b 0 1) n → cond (ltb more (len + 1)) (Some more) None ≡ cond (is_some (cond (ltb n len) (Some n) None)) (cond (ltb n len) (Some n) None) (cond b (Some len) None)
place_push n more len true low e = grind (arith, nat_tests)
place_push n more len false low e = grind (arith, nat_tests)

pub position_push : {X : Type 0} (p : X → Bool) (xs : List X) (y : X) → position p (xs ++ y ∷ []) ≡ cond (is_some (position p xs)) (position p xs) (cond (p y) (Some (length xs)) None)
position_push p xs y =
    let long : length (xs ++ y ∷ []) ≡ length xs + 1 = omega (arith, length-append xs (y ∷ [])) in
    rw long (place_push (position_or_len p xs) (position_or_len p (xs ++ y ∷ [])) (length xs) (p y) (within p xs) (position_or_len_push p xs y))

any_place : (n len : ℕ) (b : Bool) → is_some (cond (ltb (cond (not b) (1 + n) 0) (suc len)) (Some (cond (not b) (1 + n) 0)) None) ≡ (b || is_some (cond (ltb n len) (Some n) None))
any_place n len true = grind (arith, nat_tests)
any_place n len false = grind (arith, nat_tests)

pub any_is_position : {X : Type 0} (p : X → Bool) (xs : List X) → is_some (position p xs) ≡ list_any p xs
any_is_position p [] = refl
any_is_position p (x ∷ xs) = any_place (position_or_len p xs) (length xs) (p x) ∙ ap (λ b. p x || b) (any_is_position p xs)

differs : (x c : ℕ) → (c == x) ≡ false → (k : ℕ) → (c == k) ≡ true → not (k == x) ≡ true
differs x c apart k same = grind (arith, nat_tests)

-- of a list with c at its end, where it isn't there before, what is left without x
kept : (x c : ℕ) (ds : List ℕ) → (c == x) ≡ false → filter (λ d. not (d == x)) (cond (list_any (λ d. c == d) ds) ds (ds ++ c ∷ [])) ≡ cond (list_any (λ d. c == d) (filter (λ d. not (d == x)) ds)) (filter (λ d. not (d == x)) ds) (filter (λ d. not (d == x)) ds ++ c ∷ [])
kept x c ds apart =
    let same = any-filter_same (λ d. c == d) (λ d. not (d == x)) true (differs x c apart) ds in
    let end = filter-append (λ d. not (d == x)) ds (c ∷ []) in
    let keeps : not (c == x) ≡ true = grind (arith, nat_tests) in
    rw same (elim (list_any (λ d. c == d) ds) as (λ b. filter (λ d. not (d == x)) (cond b ds (ds ++ c ∷ [])) ≡ cond b (filter (λ d. not (d == x)) ds) (filter (λ d. not (d == x)) ds ++ c ∷ [])) [
      | true ↦ refl
      | false ↦ rw (end, keeps) refl
    ])

lost : (x c : ℕ) (ds : List ℕ) → (c == x) ≡ true → filter (λ d. not (d == x)) (cond (list_any (λ d. c == d) ds) ds (ds ++ c ∷ [])) ≡ filter (λ d. not (d == x)) ds
lost x c ds same =
    let end = filter-append (λ d. not (d == x)) ds (c ∷ []) in
    let drops : not (c == x) ≡ false = grind (arith, nat_tests) in
    elim (list_any (λ d. c == d) ds) as (λ b. filter (λ d. not (d == x)) (cond b ds (ds ++ c ∷ [])) ≡ filter (λ d. not (d == x)) ds) [
      | true ↦ refl
      | false ↦ rw (end, drops) (append-nil _)
    ]

first : (x c : ℕ) (b : Bool) (ds : List ℕ) → (c == x) ≡ b → x ∷ filter (λ d. not (d == x)) (cond (list_any (λ d. c == d) ds) ds (ds ++ c ∷ [])) ≡ cond (b || list_any (λ d. c == d) (filter (λ d. not (d == x)) ds)) (x ∷ filter (λ d. not (d == x)) ds) (x ∷ filter (λ d. not (d == x)) ds ++ c ∷ [])
first x c true ds same = ap (λ es. x ∷ es) (lost x c ds same)
first x c false ds apart =
    ap (λ es. x ∷ es) (kept x c ds apart)
    ∙ elim (list_any (λ d. c == d) (filter (λ d. not (d == x)) ds)) as (λ b. x ∷ cond b (filter (λ d. not (d == x)) ds) (filter (λ d. not (d == x)) ds ++ c ∷ []) ≡ cond b (x ∷ filter (λ d. not (d == x)) ds) (x ∷ filter (λ d. not (d == x)) ds ++ c ∷ [])) [ true ↦ refl | false ↦ refl ]

pub different_push : (cs : List ℕ) (c : ℕ) → different (cs ++ c ∷ []) ≡ cond (list_any (λ d. c == d) (different cs)) (different cs) (different cs ++ c ∷ [])
different_push [] c = refl
different_push (x ∷ xs) c =
    ap (λ ds. x ∷ filter (λ d. not (d == x)) ds) (different_push xs c)
    ∙ elim (c == x) as (λ b. (c == x) ≡ b → x ∷ filter (λ d. not (d == x)) (cond (list_any (λ d. c == d) (different xs)) (different xs) (different xs ++ c ∷ [])) ≡ cond (b || list_any (λ d. c == d) (filter (λ d. not (d == x)) (different xs))) (x ∷ filter (λ d. not (d == x)) (different xs)) (x ∷ filter (λ d. not (d == x)) (different xs) ++ c ∷ [])) [
      | true ↦ first x c true (different xs)
      | false ↦ first x c false (different xs)
    ] refl

-- the place of an element that goes last where it isn't there
placed : (n len : ℕ) (b : Bool) → n ≤ len → ltb n len ≡ b → cond b n len ≡ n
placed n len true low e = refl
placed n len false low e = grind (arith, nat_tests)

some_below : (n : ℕ) (b : Bool) → is_some (cond b (Some n) None) ≡ b
some_below n true = refl
some_below n false = refl

pub place_in_pushed : {X : Type 0} (p : X → Bool) (xs : List X) (y : X) (b : Bool) → p y ≡ true → is_some (position p xs) ≡ b → position p (cond b xs (xs ++ y ∷ [])) ≡ Some (position_or_len p xs)
place_in_pushed p xs y true passes has =
    let below : ltb (position_or_len p xs) (length xs) ≡ true = sym (some_below (position_or_len p xs) (ltb (position_or_len p xs) (length xs))) ∙ has in
    ap (λ b. cond b (Some (position_or_len p xs)) None) below
place_in_pushed p xs y false passes has =
    let past : ltb (position_or_len p xs) (length xs) ≡ false = sym (some_below (position_or_len p xs) (ltb (position_or_len p xs) (length xs))) ∙ has in
    position_push p xs y ∙ ap (λ b. cond b (position p xs) (cond (p y) (Some (length xs)) None)) has ∙ ap (λ b. cond b (Some (length xs)) None) passes
    ∙ ap Some (placed (position_or_len p xs) (length xs) false (within p xs) past)
