-- Ranks as names: each number has one, and no two have the same. A cookie's rank behind the entries before it is its name in the whole journal.
use Rattle.std.proofs.Common.{◌≡◌, ◌==◌, ◌<◌, ◌+◌, ℕ, Bool, true, false, cond, List, [], ◌∷◌, ◌++◌, length, get_or, Option, Some, None, refl, sym, ap, ◌∙◌, eqb, ltb, ltb-true, lt-ltb, eq-eqb, eqb-true, ne_eqb, arith, append-nil, append_assoc, length-append}
use Rattle.std.specs.Prelude.{nat_lt, if◌then◌else◌}
use Rattle.std.specs.List.{cons_option, filter_map, list_any, position_or_len}
use Rattle.std.proofs.lemmas.List.Elements.{filter_map-append}
use Rattle.std.proofs.lemmas.List.Folds.{position_or_len_push}
use Rattle.std.proofs.lemmas.List.Sums.{passes_at_first}
use Rattle.cx_journal.proofs.Positions.{any_is_position, different_push, place_in_pushed}
use Rattle.cx_journal.specs.Places.{cookie_of, cookies_of, different, rank}
use Rattle.cx_journal.specs.declared.entries.Entry.{Entry}
use Rattle.cx_journal.specs.declared.entries.Entry.TheVariants as entry
use Rattle.cx_laws_text.proofs.told.Renaming.{entry_by, told_by}
use Rattle.cx_laws_text.specs.told.Told.{entry_told, told_behind}

-- the place of a number in a list
abbrev pub place : List ℕ → ℕ → ℕ
place cs c = position_or_len (λ d. c == d) cs

-- a name: the place from 1 where the number is in the list, and one behind all places where it isn't
abbrev pub name_in : List ℕ → ℕ → ℕ
name_in cs c = if nat_lt (place cs c) (length cs) then place cs c + 1 else length cs + 1 + c

-- ---- each number has its own

at-place : (cs : List ℕ) (c : ℕ) → place cs c < length cs → c ≡ get_or cs (place cs c) 0
at-place cs c low = eqb-true c (get_or cs (place cs c) 0) (passes_at_first (λ d. c == d) cs 0 low)

name-injective : (cs : List ℕ) (a b : ℕ) → name_in cs a ≡ name_in cs b → a ≡ b
name-injective cs a b = by_tests (nat_lt (place cs a) (length cs)) refl (nat_lt (place cs b) (length cs)) refl
  where
    by_tests : (s : Bool) → nat_lt (place cs a) (length cs) ≡ s → (t : Bool) → nat_lt (place cs b) (length cs) ≡ t
        → (if s then place cs a + 1 else length cs + 1 + a) ≡ (if t then place cs b + 1 else length cs + 1 + b) → a ≡ b
    by_tests true p true q e =
        let one : place cs a ≡ place cs b = omega (arith, e) in
        at-place cs a (ltb-true (place cs a) (length cs) p) ∙ ap (λ (k : ℕ). get_or cs k 0) one ∙ sym (at-place cs b (ltb-true (place cs b) (length cs) q))
    by_tests true p false q e = absurd (let low : place cs a < length cs = ltb-true (place cs a) (length cs) p in omega (arith, low, e))
    by_tests false p true q e = absurd (let low : place cs b < length cs = ltb-true (place cs b) (length cs) q in omega (arith, low, e))
    by_tests false p false q e = omega (arith, e)

-- so names are equal where the numbers are
pub same-name : (cs : List ℕ) (a b : ℕ) → (name_in cs a == name_in cs b) ≡ (a == b)
same-name cs a b = by_test (a == b) refl
  where
    by_test : (t : Bool) → (a == b) ≡ t → (name_in cs a == name_in cs b) ≡ t
    by_test true is = eq-eqb (name_in cs a) (name_in cs b) (ap (name_in cs) (eqb-true a b is))
    by_test false off = ne_eqb (name_in cs a) (name_in cs b) (λ e. differ (a == b) off (eq-eqb a b (name-injective cs a b e)))
      where
        differ : (t : Bool) → t ≡ false → t ≡ true → ⊥
        differ t off on = cc

-- ---- the name of a cookie that is there

found : (n len m : ℕ) → cond (ltb n len) (Some n) None ≡ Some m → (n < len) × (n ≡ m)
found n len m = by_test (ltb n len) refl
  where
    by_test : (t : Bool) → ltb n len ≡ t → cond t (Some n) None ≡ Some m → (n < len) × (n ≡ m)
    by_test true is e = (ltb-true n len is, cc)
    by_test false is e = absurd cc

-- a number that is in a list stays at its place, whatever comes behind
push-stays : (cs : List ℕ) (c y : ℕ) → place cs c < length cs → (place (cs ++ y ∷ []) c ≡ place cs c) × (place (cs ++ y ∷ []) c < length (cs ++ y ∷ []))
push-stays cs c y low =
    let is = position_or_len_push (λ d. c == d) cs y in
    let off : eqb (place cs c) (length cs) ≡ false = ne_eqb (place cs c) (length cs) (λ e. omega (arith, e, low)) in
    let same : place (cs ++ y ∷ []) c ≡ place cs c = is ∙ ap (λ (b : Bool). cond b (length cs + cond (c == y) 0 1) (place cs c)) off in
    (same, omega (arith, same, low, length-append cs (y ∷ [])))

more-stays : (b : Bool) (cs : List ℕ) (c y : ℕ) → place cs c < length cs
    → (place (cond b cs (cs ++ y ∷ [])) c ≡ place cs c) × (place (cond b cs (cs ++ y ∷ [])) c < length (cond b cs (cs ++ y ∷ [])))
more-stays true cs c y low = (refl, low)
more-stays false cs c y low = push-stays cs c y low

stays : (xs ys : List ℕ) (c : ℕ) → place (different xs) c < length (different xs)
    → (place (different (xs ++ ys)) c ≡ place (different xs) c) × (place (different (xs ++ ys)) c < length (different (xs ++ ys)))
stays xs [] c low = rw append-nil (refl, low)
stays xs (y ∷ ys) c low =
    let one = rw (← different_push xs y) at (more-stays (list_any (λ d. y == d) (different xs)) (different xs) c y low) in
    let more = rw (append_assoc xs (y ∷ []) ys) at (stays (xs ++ y ∷ []) ys c one.1) in
    (more.0 ∙ one.0, more.1)

-- one that comes next is at the end, where it isn't there before
comes : (xs : List ℕ) (c : ℕ)
    → (place (different (xs ++ c ∷ [])) c < length (different (xs ++ c ∷ []))) × (place (different (xs ++ c ∷ [])) c ≡ place (different xs) c)
comes xs c =
    let same : (c == c) ≡ true = eq-eqb c c refl in
    let at = place_in_pushed (λ d. c == d) (different xs) c (list_any (λ d. c == d) (different xs)) same (any_is_position (λ d. c == d) (different xs)) in
    let there = rw (← different_push xs c) at at in
    found (place (different (xs ++ c ∷ [])) c) (length (different (xs ++ c ∷ []))) (place (different xs) c) there

rank-named : (xs ys : List ℕ) (c : ℕ) → place (different xs) c + 1 ≡ name_in (different (xs ++ c ∷ ys)) c
rank-named xs ys c =
    let one = comes xs c in
    let all = rw (append_assoc xs (c ∷ []) ys) at (stays (xs ++ c ∷ []) ys c one.0) in
    let low : nat_lt (place (different (xs ++ c ∷ ys)) c) (length (different (xs ++ c ∷ ys))) ≡ true = lt-ltb _ _ all.1 in
    rw low (ap (λ (k : ℕ). k + 1) (sym one.1 ∙ sym all.0))

-- ---- what is told, with all cookies renamed by their names in the whole

rank-is : (whole earlier : List Entry) (e : Entry) (es : List Entry) (c : ℕ) → whole ≡ earlier ++ e ∷ es → cookie_of e ≡ Some c
    → rank earlier c ≡ name_in (cookies_of whole) c
rank-is whole earlier e es c place has =
    let all : filter_map cookie_of (earlier ++ e ∷ es) ≡ filter_map cookie_of earlier ++ c ∷ filter_map cookie_of es =
    filter_map-append cookie_of earlier (e ∷ es) ∙ ap (λ (o : Option ℕ). filter_map cookie_of earlier ++ cons_option o (filter_map cookie_of es)) has in
    rank-named (filter_map cookie_of earlier) (filter_map cookie_of es) c
    ∙ ap (λ (l : List ℕ). name_in (different l) c) (sym all) ∙ ap (λ (l : List Entry). name_in (cookies_of l) c) (sym place)

entry-is : (f : ℕ → ℕ) (earlier : List Entry) (e : Entry) → ((c : ℕ) → cookie_of e ≡ Some c → rank earlier c ≡ f c) → entry_told earlier e ≡ entry_by f earlier e
entry-is f earlier (entry.Admitted a) h = ap (λ (k : ℕ). entry.Admitted (record a { cookie = k })) (h a.cookie refl)
entry-is f earlier (entry.Resumed a) h = ap (λ (k : ℕ). entry.Resumed (record a { cookie = k })) (h a.cookie refl)
entry-is f earlier (entry.Sent s) h = ap (λ (k : ℕ). entry.Sent (record s { cookie = k })) (h s.cookie refl)
entry-is f earlier (entry.Handled a) h = ap (λ (k : ℕ). entry.Handled (record a { cookie = k })) (h a.cookie refl)
entry-is f earlier _ h = refl

pub told-is : (whole earlier es : List Entry) → whole ≡ earlier ++ es → told_behind earlier es ≡ told_by (name_in (cookies_of whole)) earlier es
told-is whole earlier [] place = refl
told-is whole earlier (e ∷ es) place =
    let one = entry-is (name_in (cookies_of whole)) earlier e (λ c has. rank-is whole earlier e es c place has) in
    let more = told-is whole (earlier ++ e ∷ []) es (place ∙ sym (append_assoc earlier (e ∷ []) es)) in
    ap (λ (y : Entry). y ∷ told_behind (earlier ++ e ∷ []) es) one ∙ ap (λ (l : List Entry). entry_by (name_in (cookies_of whole)) earlier e ∷ l) more
