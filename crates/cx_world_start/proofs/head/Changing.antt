-- The entity of a name, changed at its place.
use Rattle.std.proofs.Common.{◌≡◌, ℕ, zero, suc, ◌+◌, ◌<◌, Bool, true, false, cond, List, [], ◌∷◌, ◌++◌, length, get_or, set, refl, sym, ap, ◌∙◌, arith}
use Rattle.std.specs.Prelude.{◌||◌, map, not}
use Rattle.std.specs.List.{list_any, position_or_len}
use Rattle.std.proofs.lemmas.Bool.{and_parts, or_parts}
use Rattle.std.proofs.lemmas.List.Folds.{list_any-append}
use Rattle.cx_base.specs.Names.{Name, same_name}
use Rattle.cx_base.proofs.Names.{same_name_is, same_name_self}
use Rattle.cx_keyring.specs.declared.entries.Entry.{Entry}
use Rattle.cx_keyring.specs.Entries.{are_apart, is_named}
use Rattle.cx_keyring.proofs.Apart.{not_true}
use Rattle.cx_run.specs.Opening.{Declared, principal_of}
use Rattle.cx_world_start.proofs.head.Naming.{same_name_sym}

-- the entity of a name, changed
abbrev pub changed_if : Name → (Declared → Declared) → Declared → Declared
changed_if name change e = cond (same_name e.name name) (change e) e

or_true : (b : Bool) → (b || true) ≡ true
or_true true = refl
or_true false = refl

not_again : (name : Name) (earlier : List Entry) (x : Entry) (b : Bool) → same_name name x.name ≡ b → list_any (is_named name) earlier ≡ true → list_any (is_named x.name) earlier ≡ false → b ≡ false
not_again name earlier x true same there gone =
    let e : true ≡ false = sym there ∙ ap (λ (n : Name). list_any (is_named n) earlier) (same_name_is name x.name same) ∙ gone in
    absurd cc
not_again name earlier x false same there gone = refl

-- a name that stands before doesn't stand again
pub none_again : (name : Name) (earlier entries : List Entry) → list_any (is_named name) earlier ≡ true → are_apart earlier entries ≡ true → list_any (is_named name) entries ≡ false
none_again name earlier [] there apart = refl
none_again name earlier (x ∷ entries) there apart =
    let parts = and_parts (not (list_any (is_named x.name) earlier)) (are_apart (earlier ++ x ∷ []) entries) apart in
    let gone = not_true (list_any (is_named x.name) earlier) parts.0 in
    let here = not_again name earlier x (same_name name x.name) refl there gone in
    let more : list_any (is_named name) (earlier ++ x ∷ []) ≡ true = list_any-append (is_named name) earlier (x ∷ []) ∙ ap (λ b. b || list_any (is_named name) (x ∷ [])) there in
    rw (here, none_again name (earlier ++ x ∷ []) entries more parts.1) refl

-- where none has the name, nothing changes
pub changed_none : (name : Name) (change : Declared → Declared) (es : List Declared) → list_any (is_named name) (map principal_of es) ≡ false → map (changed_if name change) es ≡ es
changed_none name change [] none = refl
changed_none name change (e ∷ es) none =
    let parts = or_parts (same_name name e.name) (list_any (is_named name) (map principal_of es)) none in
    let other : same_name e.name name ≡ false = same_name_sym e.name name ∙ parts.0 in
    rw (other, changed_none name change es parts.1) refl

changed_by : (name : Name) (change : Declared → Declared) (e : Declared) (es : List Declared) (n : ℕ) (d : Declared) (b : Bool) → same_name name e.name ≡ b
    → cond (not b) (1 + position_or_len (is_named name) (map principal_of es)) 0 ≡ n → n < length (e ∷ es)
    → (same_name name e.name ≡ true → map (changed_if name change) es ≡ es)
    → ((m : ℕ) → position_or_len (is_named name) (map principal_of es) ≡ m → m < length es → map (changed_if name change) es ≡ set es m (change (get_or es m d)))
    → map (changed_if name change) (e ∷ es) ≡ set (e ∷ es) n (change (get_or (e ∷ es) n d))
changed_by name change e es zero d true same place within alone more =
    let mine : same_name e.name name ≡ true = same_name_sym e.name name ∙ same in
    rw (mine, alone same) refl
changed_by name change e es (suc n) d true same place within alone more = absurd (omega (arith, place))
changed_by name change e es zero d false same place within alone more = absurd (omega (arith, place))
changed_by name change e es (suc n) d false same place within alone more =
    let other : same_name e.name name ≡ false = same_name_sym e.name name ∙ same in
    let before : position_or_len (is_named name) (map principal_of es) ≡ n = omega (arith, place) in
    rw (other, more n before (omega arith)) refl

pub changed_first : (name : Name) (change : Declared → Declared) (earlier : List Entry) (es : List Declared) (n : ℕ) (d : Declared) → are_apart earlier (map principal_of es) ≡ true
    → position_or_len (is_named name) (map principal_of es) ≡ n → n < length es → map (changed_if name change) es ≡ set es n (change (get_or es n d))
changed_first name change earlier [] n d apart place within = absurd (omega arith)
changed_first name change earlier (e ∷ es) n d apart place within =
    let x = principal_of e in
    let parts = and_parts (not (list_any (is_named e.name) earlier)) (are_apart (earlier ++ x ∷ []) (map principal_of es)) apart in
    changed_by name change e es n d (same_name name e.name) refl place within
    (λ same.
    let is = same_name_is name e.name same in
    let itself : list_any (is_named e.name) (x ∷ []) ≡ true = rw (same_name_self e.name) refl in
    let there : list_any (is_named e.name) (earlier ++ x ∷ []) ≡ true = list_any-append (is_named e.name) earlier (x ∷ []) ∙ rw itself (or_true (list_any (is_named e.name) earlier)) in
    let none = none_again e.name (earlier ++ x ∷ []) (map principal_of es) there parts.1 in
    changed_none name change es (ap (λ (n : Name). list_any (is_named n) (map principal_of es)) is ∙ none))
    (λ m before less. changed_first name change (earlier ++ x ∷ []) es m d parts.1 before less)
