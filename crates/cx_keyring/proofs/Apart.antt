-- Entries of different names.
use Rattle.std.proofs.Common.{◌≡◌, ℕ, zero, suc, ◌<◌, Bool, true, false, cond, List, [], ◌∷◌, ◌++◌, length, take, get_or, Option, Some, None, refl, sym, ap, ◌∙◌, arith, append_assoc, Bor, IfSome, IsTrue}
use Rattle.std.specs.Prelude.{not, find, is_some, position}
use Rattle.std.specs.List.{list_all, list_any}
use Rattle.std.specs.Option.{option_copied}
use Rattle.std.proofs.lemmas.Bool.{and_parts}
use Rattle.std.proofs.lemmas.List.{append-nil}
use Rattle.std.proofs.lemmas.List.Folds.{list_all-append}
use Rattle.cx_base.specs.Names.{Name, same_name}
use Rattle.cx_base.proofs.Names.{same_name_is, same_name_self}
use Rattle.cx_keyring.specs.declared.entries.Entry.{Entry}
use Rattle.cx_keyring.specs.Entries.{are_apart, are_grants, is_named, is_ring}
use Rattle.cx_keyring.proofs.Places.{position_push}

pub not_true : (b : Bool) → not b ≡ true → b ≡ false
not_true true e = absurd cc
not_true false e = refl

-- no name of an entry stands before it
pub apart_at : (earlier entries : List Entry) (i : ℕ) (entry : Entry) → are_apart earlier entries ≡ true → i < length entries → entry ≡ get_or entries i entry
    → list_any (is_named entry.name) (earlier ++ take i entries) ≡ false
apart_at earlier [] i entry apart here is = absurd (omega arith)
apart_at earlier (x ∷ entries) zero entry apart here is =
    let parts = and_parts (not (list_any (is_named x.name) earlier)) (are_apart (earlier ++ x ∷ []) entries) apart in
    rw (append-nil earlier, is) (not_true (list_any (is_named x.name) earlier) parts.0)
apart_at earlier (x ∷ entries) (suc i) entry apart here is =
    let parts = and_parts (not (list_any (is_named x.name) earlier)) (are_apart (earlier ++ x ∷ []) entries) apart in
    rw append_assoc at (apart_at (earlier ++ x ∷ []) entries i entry parts.1 (omega arith) is)

-- one more entry
pub apart_push : (earlier entries : List Entry) (entry : Entry) → are_apart earlier entries ≡ true → list_any (is_named entry.name) (earlier ++ entries) ≡ false → are_apart earlier (entries ++ entry ∷ []) ≡ true
apart_push earlier [] entry apart none =
    let alone : list_any (is_named entry.name) earlier ≡ false = ap (list_any (is_named entry.name)) (sym (append-nil earlier)) ∙ none in
    rw alone refl
apart_push earlier (x ∷ entries) entry apart none =
    let parts = and_parts (not (list_any (is_named x.name) earlier)) (are_apart (earlier ++ x ∷ []) entries) apart in
    let more : list_any (is_named entry.name) ((earlier ++ x ∷ []) ++ entries) ≡ false = ap (list_any (is_named entry.name)) (append_assoc earlier (x ∷ []) entries) ∙ none in
    rw (parts.0, apart_push (earlier ++ x ∷ []) entries entry parts.1 more) refl

-- a keyring with one more entry
pub ring_push : (entries : List Entry) (entry : Entry) → IsTrue (is_ring entries) → IsTrue (are_grants entry.caps) → list_any (is_named entry.name) entries ≡ false → IsTrue (is_ring (entries ++ entry ∷ []))
ring_push entries entry ring good fresh =
    let parts = and_parts (list_all (λ (e : Entry). are_grants e.caps) entries) (are_apart [] entries) ring in
    let apart = apart_push [] entries entry parts.1 fresh in
    let all : list_all (λ (e : Entry). are_grants e.caps) (entries ++ entry ∷ []) ≡ true = list_all-append (λ (e : Entry). are_grants e.caps) entries (entry ∷ []) ∙ rw (parts.0, good) refl in
    rw (all, apart) refl

other_way : (a b : Name) (c : Bool) → same_name a b ≡ false → same_name b a ≡ c → c ≡ false
other_way a b true apart same =
    let e = same_name_is b a same in
    absurd (let no : true ≡ false = sym (same_name_self a) ∙ ap (same_name a) (sym e) ∙ apart in cc)
other_way a b false apart same = refl

keeps : (o : Option ℕ) → cond (is_some o) o None ≡ o
keeps None = refl
keeps (Some n) = refl

placed_by : (name other : Name) (entries : List Entry) (entry : Entry) (old : Option ℕ) (b : Bool) → same_name name other ≡ b → entry.name ≡ name → position (is_named name) entries ≡ None → old ≡ position (is_named other) entries
    → cond b (Some (length entries)) old ≡ position (is_named other) (entries ++ entry ∷ [])
placed_by name other entries entry old true same is fresh placed =
    let e = same_name_is name other same in
    let gone : position (is_named other) entries ≡ None = ap (λ (n : Name). position (is_named n) entries) (sym e) ∙ fresh in
    let mine : is_named other entry ≡ true = ap (same_name other) (is ∙ e) ∙ same_name_self other in
    sym (position_push (is_named other) entries entry ∙ rw (gone, mine) refl)
placed_by name other entries entry old false same is fresh placed =
    let mine : is_named other entry ≡ false = ap (same_name other) is ∙ other_way name other (same_name other name) same refl in
    sym (position_push (is_named other) entries entry ∙ rw mine (keeps (position (is_named other) entries)) ∙ sym placed)

-- the index with one more name
pub placed_more : (name other : Name) (entries : List Entry) (entry : Entry) (old : Option ℕ) → entry.name ≡ name → position (is_named name) entries ≡ None → old ≡ position (is_named other) entries
    → cond (same_name name other) (Some (length entries)) old ≡ position (is_named other) (entries ++ entry ∷ [])
placed_more name other entries entry old is fresh placed = placed_by name other entries entry old (same_name name other) refl is fresh placed

good_by : (name : Name) (x : Entry) (xs : List Entry) (entry : Entry) (b : Bool) → is_named name x ≡ b → cond b (Some x) (find (is_named name) xs) ≡ Some entry → are_grants x.caps ≡ true
    → (find (is_named name) xs ≡ Some entry → are_grants entry.caps ≡ true) → are_grants entry.caps ≡ true
good_by name x xs entry true is e good more = let same : x ≡ entry = cc in ap (λ (y : Entry). are_grants y.caps) (sym same) ∙ good
good_by name x xs entry false is e good more = more e

all_good : (name : Name) (xs : List Entry) (entry : Entry) → list_all (λ (e : Entry). are_grants e.caps) xs ≡ true → find (is_named name) xs ≡ Some entry → are_grants entry.caps ≡ true
all_good name [] entry good e = absurd (let p : None ≡ Some entry = e in cc)
all_good name (x ∷ xs) entry good e =
    let parts = and_parts (are_grants x.caps) (list_all (λ (y : Entry). are_grants y.caps) xs) good in
    good_by name x xs entry (is_named name x) refl e parts.0 (all_good name xs entry parts.1)

-- the caps of an entry that is found are such as an entry may have
pub found_good : (found : Option (Bor Entry)) (name : Name) (ring : List Entry) → option_copied found ≡ find (is_named name) ring → IsTrue (is_ring ring) → IfSome found (λ entry. IsTrue (are_grants entry.now.caps))
found_good None name ring is good = tt
found_good (Some entry) name ring is good =
    all_good name ring entry.now (and_parts (list_all (λ (e : Entry). are_grants e.caps) ring) (are_apart [] ring) good).0 (sym is)
