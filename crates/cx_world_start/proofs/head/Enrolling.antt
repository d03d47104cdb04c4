-- The entities of a keyring, entered one by one.
use Rattle.std.proofs.Common.{◌≡◌, ℕ, ◌+◌, ◌<◌, Bool, true, false, List, [], ◌∷◌, ◌++◌, length, get_or, drop, None, refl, sym, ap, ◌∙◌, append_assoc, IsTrue}
use Rattle.std.specs.Prelude.{find, map, not}
use Rattle.std.specs.List.{list_all, list_any}
use Rattle.std.proofs.lemmas.Bool.{and_parts, or_parts}
use Rattle.std.proofs.lemmas.List.{append-nil, drop_more}
use Rattle.std.proofs.lemmas.List.Folds.{list_all-append}
use Rattle.cx_keyring.specs.declared.entries.Entry.{Entry}
use Rattle.cx_keyring.specs.Entries.{are_apart, are_grants, is_named, is_ring}
use Rattle.cx_keyring.proofs.Apart.{not_true}
use Rattle.cx_run.specs.Opening.{Declared, principal_of}

none_found : {X : Type 0} (p : X → Bool) (xs : List X) → list_any p xs ≡ false → find p xs ≡ None
none_found p [] none = refl
none_found p (x ∷ xs) none =
    let parts = or_parts (p x) (list_any p xs) none in
    rw (parts.0, none_found p xs parts.1) refl

-- no name stands before it
apart_from : (earlier xs : List Entry) (y : Entry) (ys : List Entry) → are_apart earlier (xs ++ y ∷ ys) ≡ true → list_any (is_named y.name) (earlier ++ xs) ≡ false
apart_from earlier [] y ys apart =
    let parts = and_parts (not (list_any (is_named y.name) earlier)) (are_apart (earlier ++ y ∷ []) ys) apart in
    rw (append-nil earlier) (not_true (list_any (is_named y.name) earlier) parts.0)
apart_from earlier (x ∷ xs) y ys apart =
    let parts = and_parts (not (list_any (is_named x.name) earlier)) (are_apart (earlier ++ x ∷ []) (xs ++ y ∷ ys)) apart in
    rw append_assoc at (apart_from (earlier ++ x ∷ []) xs y ys parts.1)

-- an entity that may be entered behind these
pub record MayEnter (ring : List Entry) (entry : Entry) : Type 0 where
  pub fresh : find (is_named entry.name) ring ≡ None
  pub granted : IsTrue (are_grants entry.caps)

may_enter : (ring : List Entry) (y : Entry) (ys : List Entry) → IsTrue (is_ring (ring ++ y ∷ ys)) → MayEnter ring y
may_enter ring y ys good =
    let parts = and_parts (list_all (λ (e : Entry). are_grants e.caps) (ring ++ y ∷ ys)) (are_apart [] (ring ++ y ∷ ys)) good in
    let all = and_parts (list_all (λ (e : Entry). are_grants e.caps) ring) (list_all (λ (e : Entry). are_grants e.caps) (y ∷ ys)) (sym (list_all-append (λ (e : Entry). are_grants e.caps) ring (y ∷ ys)) ∙ parts.0) in
    record {
      fresh = none_found (is_named y.name) ring (apart_from [] ring y ys parts.1);
      granted = (and_parts (are_grants y.caps) (list_all (λ (e : Entry). are_grants e.caps) ys) all.1).0;
    }

-- the next entity may be entered
pub enters_next : (es : List Declared) (ring : List Entry) (i : ℕ) (e : Declared) (entry : Entry) → IsTrue (is_ring (map principal_of es)) → ring ++ map principal_of (drop i es) ≡ map principal_of es
    → i < length es → e ≡ get_or es i e → entry ≡ principal_of e → MayEnter ring entry
enters_next es ring i e entry good so_far within is made =
    let next : drop i es ≡ e ∷ drop (i + 1) es = drop_more es i e within ∙ ap (λ (x : Declared). x ∷ drop (i + 1) es) (sym is) in
    let all : map principal_of es ≡ ring ++ principal_of e ∷ map principal_of (drop (i + 1) es) = sym so_far ∙ ap (λ (xs : List Declared). ring ++ map principal_of xs) next in
    let so : IsTrue (is_ring (ring ++ principal_of e ∷ map principal_of (drop (i + 1) es))) = ap is_ring (sym all) ∙ good in
    rw made (may_enter ring (principal_of e) (map principal_of (drop (i + 1) es)) so)
