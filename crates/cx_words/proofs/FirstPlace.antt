-- What stands before and behind the first item that passes a test.
use Rattle.std.proofs.Common.{◌≡◌, ℕ, zero, suc, ◌+◌, Bool, true, false, cond, List, [], ◌∷◌, ◌++◌, take, drop, length, Some, None, refl, sym, ap, arith, add-one, ◌-◌, ◌∙◌, length-drop}
use Rattle.std.proofs.Math.Seq.{take-length}
use Rattle.std.specs.List.{list_any, position_from}
use Rattle.std.proofs.lemmas.Bool.{or_parts, or_from}

-- the front before the first item that passes, that item, and where it stands
pub record Found {X : Type 0} (test : X → Bool) (xs : List X) (i j : ℕ) : Type 0 where
  pub n : ℕ
  pub item : X
  pub place : j ≡ i + n
  pub whole : xs ≡ take n xs ++ item ∷ drop (suc n) xs
  pub none : list_any test (take n xs) ≡ false
  pub passes : test item ≡ true

found_next : {X : Type 0} (test : X → Bool) (x : X) (xs : List X) (i j : ℕ) → test x ≡ false → Found test xs (i + 1) j → Found test (x ∷ xs) i j
found_next test x xs i j miss f = record {
  n = suc f.n;
  item = f.item;
  place = let p = f.place in omega arith;
  whole = ap (λ ys. x ∷ ys) f.whole;
  none = or_from (test x) (list_any test (take f.n xs)) miss f.none;
  passes = f.passes;
}

found_step : {X : Type 0} (test : X → Bool) (x : X) (xs : List X) (i j : ℕ) (b : Bool) → test x ≡ b
    → (position_from test (i + 1) xs ≡ Some j → Found test xs (i + 1) j)
    → cond b (Some i) (position_from test (i + 1) xs) ≡ Some j → Found test (x ∷ xs) i j
found_step test x xs i j true hit more e = record {
  n = zero;
  item = x;
  place = let p : i ≡ j = cc in omega arith;
  whole = refl;
  none = refl;
  passes = hit;
}
found_step test x xs i j false miss more e = found_next test x xs i j miss (more e)

pub found : {X : Type 0} (test : X → Bool) (xs : List X) (i j : ℕ) → position_from test i xs ≡ Some j → Found test xs i j
found test [] i j e = absurd (let p : None ≡ Some j = e in cc)
found test (x ∷ xs) i j e = found_step test x xs i j (test x) refl (found test xs (i + 1) j) e

-- the same from place 0 on
pub record Cut {X : Type 0} (test : X → Bool) (xs : List X) (place : ℕ) : Type 0 where
  pub item : X
  pub whole : xs ≡ take place xs ++ item ∷ drop (place + 1) xs
  pub none : list_any test (take place xs) ≡ false
  pub passes : test item ≡ true

cut_from : {X : Type 0} (test : X → Bool) (xs : List X) (place : ℕ) (f : Found test xs 0 place) → f.n ≡ place → Cut test xs place
cut_from test xs place f e = record {
  item = f.item;
  whole = rw (add-one, ← e) f.whole;
  none = rw (← e) f.none;
  passes = f.passes;
}

pub cut : {X : Type 0} (test : X → Bool) (xs : List X) (place : ℕ) → position_from test 0 xs ≡ Some place → Cut test xs place
cut test xs place e = let f = found test xs 0 place e in cut_from test xs place f (let p = f.place in omega arith)

-- where none is found, none passes
none_step : {X : Type 0} (test : X → Bool) (x : X) (xs : List X) (i : ℕ) (b : Bool) → test x ≡ b
    → (position_from test (i + 1) xs ≡ None → list_any test xs ≡ false)
    → cond b (Some i) (position_from test (i + 1) xs) ≡ None → list_any test (x ∷ xs) ≡ false
none_step test x xs i true hit more e = absurd (let p : Some i ≡ None = e in cc)
none_step test x xs i false miss more e = or_from (test x) (list_any test xs) miss (more e)

pub none_passes : {X : Type 0} (test : X → Bool) (xs : List X) (i : ℕ) → position_from test i xs ≡ None → list_any test xs ≡ false
none_passes test [] i e = refl
none_passes test (x ∷ xs) i e = none_step test x xs i (test x) refl (none_passes test xs (i + 1)) e

-- an item that passes is found behind a front of which none does
pub finds : {X : Type 0} (test : X → Bool) (front : List X) (item : X) (rest : List X) (i : ℕ)
    → list_any test front ≡ false → test item ≡ true → position_from test i (front ++ item ∷ rest) ≡ Some (i + length front)
finds test [] item rest i none hit = rw hit (ap Some (let e : i ≡ i + 0 = omega arith in e))
finds test (x ∷ front) item rest i none hit =
    let parts = or_parts (test x) (list_any test front) none in
    rw (parts.0, finds test front item rest (i + 1) parts.1 hit) (ap Some (let e : i + 1 + length front ≡ i + suc (length front) = omega arith in e))

pub finds_none : {X : Type 0} (test : X → Bool) (xs : List X) (i : ℕ) → list_any test xs ≡ false → position_from test i xs ≡ None
finds_none test [] i none = refl
finds_none test (x ∷ xs) i none =
    let parts = or_parts (test x) (list_any test xs) none in
    rw (parts.0) (finds_none test xs (i + 1) parts.1)

-- all that is left behind a place
pub take_rest : {X : Type 0} (n : ℕ) (xs : List X) → take (length xs - n) (drop n xs) ≡ drop n xs
take_rest n xs = ap (λ k. take k (drop n xs)) (sym (length-drop n xs)) ∙ take-length (drop n xs)
