-- How a setup is held: an entity more, or one that changes.
use Rattle.std.proofs.Common.{◌≡◌, ℕ, ◌<◌, Bool, true, false, cond, List, [], ◌∷◌, ◌++◌, length, get_or, set, take, Some, None, refl, sym, ap, ◌∙◌, arith, IsTrue, String}
use Rattle.std.specs.Prelude.{find, map, nat_lt, option_and_then, position}
use Rattle.std.specs.BTreeMap.{BTreeMap}
use Rattle.std.specs.List.{list_any, position_or_len, slice_get}
use Rattle.std.specs.declared.alloc.Global.{Global}
use Rattle.std.proofs.Math.Seq.{take-append_seam}
use Rattle.std.proofs.lemmas.Bool.{and_parts}
use Rattle.std.proofs.lemmas.Bool.Decides.{nat_tests}
use Rattle.std.proofs.lemmas.List.{length-map, map-append}
use Rattle.std.specs.List.{list_all}
use Rattle.cx_base.specs.Names.{Name, same_name}
use Rattle.cx_keyring.specs.declared.entries.Entry.{Entry}
use Rattle.cx_keyring.specs.Entries.{are_apart, are_grants, is_named}
use Rattle.cx_keyring.proofs.Apart.{placed_more, ring_push}
use Rattle.cx_keyring.proofs.Places.{find_by_place, find_none, position_none}
use Rattle.cx_run.specs.Opening.{Declared, principal_of}
use Rattle.cx_world_start.specs.head.Beginning.{AreHeld}
use Rattle.cx_world_start.specs.head.Places.{place_of}
use Rattle.cx_world_start.proofs.head.Changing.{changed_first, changed_if, changed_none}

-- ---- an entity that changes

one_kept : (name : Name) (change : Declared → Declared) (e : Declared) (b : Bool) → same_name e.name name ≡ b → principal_of (change e) ≡ principal_of e → principal_of (changed_if name change e) ≡ principal_of e
one_kept name change e true is keeps = rw is keeps
one_kept name change e false is keeps = rw is refl

principals_kept : (name : Name) (change : Declared → Declared) → ((e : Declared) → principal_of (change e) ≡ principal_of e) → (es : List Declared) → map principal_of (map (changed_if name change) es) ≡ map principal_of es
principals_kept name change keeps [] = refl
principals_kept name change keeps (e ∷ es) =
    ap (λ (x : Entry). x ∷ map principal_of (map (changed_if name change) es)) (one_kept name change e (same_name e.name name) refl (keeps e))
    ∙ ap (λ (xs : List Entry). principal_of e ∷ xs) (principals_kept name change keeps es)

-- a change that keeps what stands in the keyring
pub held_changed : (life auth_life : ℕ) (es : List Declared) (texts : BTreeMap (String Global) ℕ) (name : Name) (change : Declared → Declared) → ((e : Declared) → principal_of (change e) ≡ principal_of e)
    → AreHeld life auth_life es texts → AreHeld life auth_life (map (changed_if name change) es) texts
held_changed life auth_life es texts name change keeps held =
    let kept = principals_kept name change keeps es in
    record {
      life_within = held.life_within;
      auth_life_within = held.auth_life_within;
      ring = rw kept held.ring;
      placed = λ n. rw kept (held.placed n);
    }

found_at : (n count place : ℕ) (b : Bool) → nat_lt n count ≡ b → cond b (Some n) None ≡ Some place → (n ≡ place) × (n < count)
found_at n count place true within e = ((let same : Some n ≡ Some place = e in cc), grind (arith, nat_tests, within))
found_at n count place false within e = absurd (let no : None ≡ Some place = e in cc)

-- what is written at the place of a name is the change of the entity of that name
pub written : (life auth_life : ℕ) (es : List Declared) (texts : BTreeMap (String Global) ℕ) (name : Name) (change : Declared → Declared) (place : ℕ) (old : Declared) → AreHeld life auth_life es texts
    → place_of texts name ≡ Some place → old ≡ get_or es place old → set es place (change old) ≡ map (changed_if name change) es
written life auth_life es texts name change place old held here is =
    let all = map principal_of es in
    let n = position_or_len (is_named name) all in
    let found = found_at n (length all) place (nat_lt n (length all)) refl (sym (held.placed name) ∙ here) in
    let apart = (and_parts (list_all (λ (e : Entry). are_grants e.caps) all) (are_apart [] all) held.ring).1 in
    let many : length all ≡ length es = length-map es principal_of in
    let within : place < length es = omega (arith, found.0, found.1, many) in
    ap (λ (e : Declared). set es place (change e)) is ∙ sym (changed_first name change [] es place old apart found.0 within)

-- where no entity has the name, none changes
pub unwritten : (life auth_life : ℕ) (es : List Declared) (texts : BTreeMap (String Global) ℕ) (name : Name) (change : Declared → Declared) → AreHeld life auth_life es texts
    → place_of texts name ≡ None → map (changed_if name change) es ≡ es
unwritten life auth_life es texts name change held nowhere =
    let all = map principal_of es in
    let gone : find (is_named name) all ≡ None = find_by_place (is_named name) all ∙ ap (option_and_then (slice_get all)) (sym (held.placed name) ∙ nowhere) in
    changed_none name change es (find_none (is_named name) all gone)

-- ---- an entity more

pub held_push : (life auth_life : ℕ) (es : List Declared) (texts new : BTreeMap (String Global) ℕ) (x : Declared) (name : Name) (place : ℕ) → AreHeld life auth_life es texts
    → x.name ≡ name → list_any (is_named name) (map principal_of es) ≡ false → IsTrue (are_grants x.grants) → place ≡ length es
    → ((n : Name) → place_of new n ≡ cond (same_name name n) (Some place) (place_of texts n)) → AreHeld life auth_life (es ++ x ∷ []) new
held_push life auth_life es texts new x name place held is fresh granted last put =
    let all = map principal_of es in
    let more : map principal_of (es ++ x ∷ []) ≡ all ++ principal_of x ∷ [] = map-append principal_of es (x ∷ []) in
    let unknown : list_any (is_named x.name) all ≡ false = ap (λ (n : Name). list_any (is_named n) all) is ∙ fresh in
    let many : place ≡ length all = last ∙ sym (length-map es principal_of) in
    record {
      life_within = held.life_within;
      auth_life_within = held.auth_life_within;
      ring = rw more (ring_push all (principal_of x) held.ring granted unknown);
      placed = λ n.
          put n
          ∙ ap (λ (k : ℕ). cond (same_name name n) (Some k) (place_of texts n)) many
          ∙ placed_more name n all (principal_of x) (place_of texts n) is (position_none (is_named name) all fresh) (held.placed n)
          ∙ sym (ap (λ (xs : List Entry). position (is_named n) xs) more);
    }

-- without the last one
pub taken_back : (old es : List Declared) (x : Declared) (place : ℕ) → place ≡ length old → es ≡ old ++ x ∷ [] → take place es ≡ old
taken_back old es x place last is = rw (is, last) (take-append_seam old (x ∷ []))
