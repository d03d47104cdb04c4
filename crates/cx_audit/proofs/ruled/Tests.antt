-- Tests, and lists of which some element passes one.
use Rattle.std.proofs.Common.{◌≡◌, ◌<◌, Bool, true, false, List, [], ◌∷◌, length, ◌⊎◌, inl, inr, refl, sym, ap, ◌∙◌, arith}
use Rattle.std.specs.Prelude.{◌&&◌, ◌||◌, Contains}
use Rattle.std.specs.List.{list_any}
use Rattle.std.proofs.lemmas.List.Elements.{Contains-append_right, Contains-append_cases, Contains-push_cases}

pub both : (a b : Bool) → (a && b) ≡ true → (a ≡ true) × (b ≡ true)
both true true e = (refl, refl)
both true false e = cc
both false b e = cc

pub neither : (a b : Bool) → (a || b) ≡ false → (a ≡ false) × (b ≡ false)
neither false false e = (refl, refl)
neither false true e = cc
neither true b e = cc

pub unequal : {P : Type 0} → true ≡ false → P
unequal e = absurd (let p : true ≡ false = e in cc)

contains_here : {X : Type 0} (x : X) (xs : List X) → Contains (x ∷ xs) x
contains_here x xs = (0, (let low : 0 < length (x ∷ xs) = omega arith in low), refl)

contains_there : {X : Type 0} (x : X) (xs : List X) (y : X) → Contains xs y → Contains (x ∷ xs) y
contains_there x xs y c = Contains-append_right (x ∷ []) xs y c

pub contains_none : {X : Type 0} {P : Type 0} (x : X) → Contains [] x → P
contains_none x c = absurd (let low : c.0 < 0 = c.1 in omega arith)

alone : {X : Type 0} (x y : X) → (Contains [] y) ⊎ (x ≡ y) → x ≡ y
alone x y (inl c) = contains_none y c
alone x y (inr same) = same

one_or : {X : Type 0} (x : X) (xs : List X) (y : X) → (Contains (x ∷ []) y) ⊎ (Contains xs y) → (x ≡ y) ⊎ (Contains xs y)
one_or x xs y (inl c) = inl (alone x y (Contains-push_cases [] x y c))
one_or x xs y (inr c) = inr c

contains_cases : {X : Type 0} (x : X) (xs : List X) (y : X) → Contains (x ∷ xs) y → (x ≡ y) ⊎ (Contains xs y)
contains_cases x xs y c = one_or x xs y (Contains-append_cases (x ∷ []) xs y c)

found_step : {X : Type 0} (p : X → Bool) (x : X) (xs : List X) (b : Bool) → p x ≡ b
    → (list_any p xs ≡ true → (y : X) × Contains xs y × (p y ≡ true)) → (b || list_any p xs) ≡ true → (y : X) × Contains (x ∷ xs) y × (p y ≡ true)
found_step p x xs true hit more e = (x, contains_here x xs, hit)
found_step p x xs false miss more e = let rest = more e in (rest.0, contains_there x xs rest.0 rest.1, rest.2)

-- where some element passes, there is one that does
pub any_found : {X : Type 0} (p : X → Bool) (xs : List X) → list_any p xs ≡ true → (x : X) × Contains xs x × (p x ≡ true)
any_found p [] e = unequal (sym e)
any_found p (x ∷ xs) e = found_step p x xs (p x) refl (any_found p xs) e

missing_step : {X : Type 0} (p : X → Bool) (y : X) (ys : List X) (x : X) → p y ≡ false → (Contains ys x → p x ≡ false) → (y ≡ x) ⊎ (Contains ys x) → p x ≡ false
missing_step p y ys x miss more (inl same) = ap p (sym same) ∙ miss
missing_step p y ys x miss more (inr c) = more c

pub any_missing : {X : Type 0} (p : X → Bool) (xs : List X) → list_any p xs ≡ false → (x : X) → Contains xs x → p x ≡ false
any_missing p [] none x c = contains_none x c
any_missing p (y ∷ ys) none x c =
    let parts = neither (p y) (list_any p ys) none in
    missing_step p y ys x parts.0 (any_missing p ys parts.1 x) (contains_cases y ys x c)

holds_step : {X : Type 0} (p : X → Bool) (xs : List X) (x : X) (b : Bool) → list_any p xs ≡ b → Contains xs x → p x ≡ true → b ≡ true
holds_step p xs x true e c hit = refl
holds_step p xs x false e c hit = unequal (sym hit ∙ any_missing p xs e x c)

-- where an element passes, some element does
pub any_holds : {X : Type 0} (p : X → Bool) (xs : List X) (x : X) → Contains xs x → p x ≡ true → list_any p xs ≡ true
any_holds p xs x c hit = holds_step p xs x (list_any p xs) refl c hit
