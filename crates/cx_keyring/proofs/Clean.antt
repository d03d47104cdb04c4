-- Where lines are a keyring, none of them is wrong.
use Rattle.std.proofs.Common.{◌≡◌, ◌⊎◌, ◌+◌, ℕ, inl, inr, subst, Bool, true, false, List, [], ◌∷◌, ◌++◌, length, Option, Some, None, refl, sym, ap, ◌∙◌, append_assoc}
use Rattle.std.specs.Prelude.{◌&&◌, ◌||◌, not, is_some, fold}
use Rattle.std.specs.List.{flat_map, list_all, list_any}
use Rattle.std.proofs.lemmas.Bool.{and_parts}
use Rattle.std.proofs.lemmas.List.{append-nil}
use Rattle.std.proofs.lemmas.List.Folds.{list_all-append, list_any-append}
use Rattle.cx_base.specs.Names.{Name, same_kind, same_name}
use Rattle.cx_base.specs.declared.kinds.EntityType.{EntityType}
use Rattle.cx_enc.specs.declared.keys.Key.{Key}
use Rattle.cx_keyring.specs.declared.entries.Entry.{Entry}
use Rattle.cx_base.specs.declared.grants.Grant.{Grant}
use Rattle.cx_keyring.specs.declared.faults.KeyringFault.{KeyringFault}
use Rattle.cx_keyring.specs.declared.lines.Line.{Line}
use Rattle.cx_keyring.specs.declared.lines.Line.TheVariants as lines
use Rattle.cx_keyring.specs.Entries.{are_apart, are_grants, differ, granted_by, has_service, is_grant, is_named, is_skipped_line, is_whole, key_by, Gives, IsKeyring}
use Rattle.cx_keyring.specs.Faults.{body_after, body_of, fault_at, first_bad, is_caps_for, is_key, is_section, is_section_of, or_later, section_lines}
use Rattle.cx_keyring.proofs.Apart.{not_true}
use Rattle.cx_keyring.proofs.GoodRings.{body_push}

-- ---- one key, and each service once

some_key : (body : List Line) (key : Key) (keys : List Key) → flat_map key_by body ≡ key ∷ keys → list_any is_key body ≡ true
some_key [] key keys e = absurd (let p : [] ≡ key ∷ keys = e in cc)
some_key (lines.Key k ∷ body) key keys e = refl
some_key (lines.Skipped ∷ body) key keys e = some_key body key keys e
some_key (lines.Section name ∷ body) key keys e = some_key body key keys e
some_key (lines.Caps service text ∷ body) key keys e = some_key body key keys e
some_key (lines.Other ∷ body) key keys e = some_key body key keys e

not_none : (body : List Line) (own : Key) (rest : List Line) → flat_map key_by (body ++ lines.Key (Some own) ∷ rest) ≡ [] → ⊥
not_none [] own rest e = (let p : own ∷ flat_map key_by rest ≡ [] = e in absurd cc)
not_none (lines.Key (Some key) ∷ body) own rest e = (let p : key ∷ flat_map key_by (body ++ lines.Key (Some own) ∷ rest) ≡ [] = e in absurd cc)
not_none (lines.Key None ∷ body) own rest e = not_none body own rest e
not_none (lines.Skipped ∷ body) own rest e = not_none body own rest e
not_none (lines.Section name ∷ body) own rest e = not_none body own rest e
not_none (lines.Caps service text ∷ body) own rest e = not_none body own rest e
not_none (lines.Other ∷ body) own rest e = not_none body own rest e

-- before the one key there is none
key_new : (body : List Line) (own key : Key) (rest : List Line) → list_all is_whole body ≡ true → flat_map key_by (body ++ lines.Key (Some own) ∷ rest) ≡ key ∷ [] → list_any is_key body ≡ false
key_new [] own key rest whole e = refl
key_new (lines.Key (Some k) ∷ body) own key rest whole e =
    let p : k ∷ flat_map key_by (body ++ lines.Key (Some own) ∷ rest) ≡ key ∷ [] = e in
    absurd (not_none body own rest cc)
key_new (lines.Key None ∷ body) own key rest whole e = absurd (let p : false ≡ true = whole in cc)
key_new (lines.Skipped ∷ body) own key rest whole e = key_new body own key rest whole e
key_new (lines.Section name ∷ body) own key rest whole e = key_new body own key rest (and_parts (is_some name) (list_all is_whole body) whole).1 e
key_new (lines.Caps service text ∷ body) own key rest whole e = key_new body own key rest (and_parts (is_some service && is_some text) (list_all is_whole body) whole).1 e
key_new (lines.Other ∷ body) own key rest whole e = absurd (let p : false ≡ true = whole in cc)

services : (service : EntityType) (body : List Line) → list_all is_whole body ≡ true → list_any (is_caps_for service) body ≡ has_service service (flat_map granted_by body)
services service [] whole = refl
services service (lines.Caps (Some other) (Some text) ∷ body) whole = ap (λ b. same_kind service other || b) (services service body whole)
services service (lines.Caps (Some other) None ∷ body) whole = absurd (let p : false ≡ true = whole in cc)
services service (lines.Caps None text ∷ body) whole = absurd (let p : false ≡ true = whole in cc)
services service (lines.Key key ∷ body) whole = services service body (and_parts (is_some key) (list_all is_whole body) whole).1
services service (lines.Skipped ∷ body) whole = services service body whole
services service (lines.Section name ∷ body) whole = services service body (and_parts (is_some name) (list_all is_whole body) whole).1
services service (lines.Other ∷ body) whole = absurd (let p : false ≡ true = whole in cc)

differ_at : (earlier before : List Grant) (grant : Grant) (after : List Grant) → differ earlier (before ++ grant ∷ after) ≡ true → has_service grant.service (earlier ++ before) ≡ false
differ_at earlier [] grant after apart =
    let parts = and_parts (not (has_service grant.service earlier)) (differ (earlier ++ grant ∷ []) after) apart in
    rw (append-nil earlier) (not_true (has_service grant.service earlier) parts.0)
differ_at earlier (x ∷ before) grant after apart =
    let parts = and_parts (not (has_service x.service earlier)) (differ (earlier ++ x ∷ []) (before ++ grant ∷ after)) apart in
    rw append_assoc at (differ_at (earlier ++ x ∷ []) before grant after parts.1)

grants_joined : (xs ys : List Line) → flat_map granted_by (xs ++ ys) ≡ flat_map granted_by xs ++ flat_map granted_by ys
grants_joined [] ys = refl
grants_joined (x ∷ xs) ys = ap (λ (gs : List Grant). granted_by x ++ gs) (grants_joined xs ys) ∙ sym (append_assoc (granted_by x) (flat_map granted_by xs) (flat_map granted_by ys))

-- ---- the section that a line stands in

-- the lines of a section, behind its head
record IsBody (body : List Line) : Type 0 where
  key : Key
  one : flat_map key_by body ≡ key ∷ []
  apart : differ [] (flat_map granted_by body) ≡ true

-- what stands around a place: a section has begun there, and is whole; or none has, and nothing is said before the next one
abbrev Stands : List Line → List Line → Type 0
Stands before after =
    ((list_any is_section before ≡ true) × IsBody (body_of before ++ section_lines after))
    ⊎ (list_all is_skipped_line (section_lines after) ≡ true)

goes_on : (before : List Line) (line : Line) (after : List Line) → fault_at before line after ≡ None → first_bad (before ++ line ∷ []) after ≡ None → first_bad before (line ∷ after) ≡ None
goes_on before line after good later = ap (λ (f : Option KeyringFault). or_later (length before + 1) f (first_bad (before ++ line ∷ []) after)) good ∙ later

begun_on : (before : List Line) (line : Line) → list_any is_section before ≡ true → list_any is_section (before ++ line ∷ []) ≡ true
begun_on before line begun = list_any-append is_section before (line ∷ []) ∙ rw begun refl

names_on : (before : List Line) (line : Line) (name : Name) → is_section_of name line ≡ false → list_any (is_section_of name) (before ++ line ∷ []) ≡ list_any (is_section_of name) before
names_on before line name none = list_any-append (is_section_of name) before (line ∷ []) ∙ rw none (or_none (list_any (is_section_of name) before))
  where
    or_none : (b : Bool) → (b || (false || false)) ≡ b
    or_none true = refl
    or_none false = refl

whole_on : (before : List Line) (line : Line) → list_all is_whole before ≡ true → is_whole line ≡ true → list_all is_whole (before ++ line ∷ []) ≡ true
whole_on before line all one = list_all-append is_whole before (line ∷ []) ∙ rw (all, one) refl

-- the body of a place behind one more line that begins no section
body_on : (before : List Line) (line : Line) (after : List Line) → is_section line ≡ false → body_of before ++ line ∷ section_lines after ≡ body_of (before ++ line ∷ []) ++ section_lines after
body_on before line after none =
    let more : body_of (before ++ line ∷ []) ≡ body_of before ++ line ∷ [] = body_push before line ∙ rw none refl in
    sym (ap (λ (b : List Line). b ++ section_lines after) more ∙ append_assoc (body_of before) (line ∷ []) (section_lines after))

whole_after : (body : List Line) (line : Line) (b : Bool) → is_section line ≡ b → list_all is_whole body ≡ true → is_whole line ≡ true → list_all is_whole (body_after body line) ≡ true
whole_after body line true is all one = rw is refl
whole_after body line false is all one = rw is (list_all-append is_whole body (line ∷ []) ∙ rw (all, one) refl)

fold_whole : (body before : List Line) → list_all is_whole body ≡ true → list_all is_whole before ≡ true → list_all is_whole (fold body_after body before) ≡ true
fold_whole body [] all whole = all
fold_whole body (line ∷ before) all whole =
    let parts = and_parts (is_whole line) (list_all is_whole before) whole in
    fold_whole (body_after body line) before (whole_after body line (is_section line) refl all parts.0) parts.1

body_whole : (before : List Line) → list_all is_whole before ≡ true → list_all is_whole (body_of before) ≡ true
body_whole before whole = fold_whole [] before refl whole

-- the same place behind one more line that begins no section
stands_on : (before : List Line) (line : Line) (after : List Line) → is_section line ≡ false → Stands before (line ∷ after) → Stands (before ++ line ∷ []) after
stands_on before line after none (inl (begun, body)) =
    let lines_of_it : section_lines (line ∷ after) ≡ line ∷ section_lines after = rw none refl in
    let same : body_of before ++ section_lines (line ∷ after) ≡ body_of (before ++ line ∷ []) ++ section_lines after =
    ap (λ (ls : List Line). body_of before ++ ls) lines_of_it ∙ body_on before line after none in
    inl (begun_on before line begun, subst IsBody same body)
stands_on before line after none (inr skipped) =
    let lines_of_it : section_lines (line ∷ after) ≡ line ∷ section_lines after = rw none refl in
    inr (and_parts (is_skipped_line line) (list_all is_skipped_line (section_lines after)) (ap (list_all is_skipped_line) (sym lines_of_it) ∙ skipped)).1

-- a key that stands where it may
key_clean : (before : List Line) (key : Key) (after : List Line) → list_all is_whole before ≡ true → Stands before (lines.Key (Some key) ∷ after) → fault_at before (lines.Key (Some key)) after ≡ None
key_clean before key after whole (inl (begun, body)) =
    let fresh = key_new (body_of before) key body.key (section_lines after) (body_whole before whole) body.one in
    rw (begun, fresh) refl
key_clean before key after whole (inr skipped) = absurd (let p : false ≡ true = skipped in cc)

-- caps that stand where they may
caps_clean : (before : List Line) (service : EntityType) (text : List ℕ) (after : List Line) → list_all is_whole before ≡ true → Stands before (lines.Caps (Some service) (Some text) ∷ after)
    → fault_at before (lines.Caps (Some service) (Some text)) after ≡ None
caps_clean before service text after whole (inl (begun, body)) =
    let grant : Grant = record { service = service; caps = text } in
    let joined = grants_joined (body_of before) (lines.Caps (Some service) (Some text) ∷ section_lines after) in
    let apart : differ [] (flat_map granted_by (body_of before) ++ grant ∷ flat_map granted_by (section_lines after)) ≡ true = ap (differ []) (sym joined) ∙ body.apart in
    let fresh = services service (body_of before) (body_whole before whole) ∙ differ_at [] (flat_map granted_by (body_of before)) grant (flat_map granted_by (section_lines after)) apart in
    rw (begun, fresh) refl
caps_clean before service text after whole (inr skipped) = absurd (let p : false ≡ true = skipped in cc)

-- a section that stands where it may
section_clean : (before : List Line) (name : Name) (after : List Line) (key : Key) → list_any (is_section_of name) before ≡ false → flat_map key_by (section_lines after) ≡ key ∷ [] → fault_at before (lines.Section (Some name)) after ≡ None
section_clean before name after key fresh one =
    let keyed : list_any is_key (section_lines after) ≡ true = some_key (section_lines after) key [] one in
    rw (fresh, keyed) refl

section_stands : (before : List Line) (name : Name) (after : List Line) (key : Key) → flat_map key_by (section_lines after) ≡ key ∷ [] → differ [] (flat_map granted_by (section_lines after)) ≡ true
    → Stands (before ++ lines.Section (Some name) ∷ []) after
section_stands before name after key one apart =
    let head : Line = lines.Section (Some name) in
    let begun : list_any is_section (before ++ head ∷ []) ≡ true = list_any-append is_section before (head ∷ []) ∙ or_true (list_any is_section before) in
    let empty : section_lines after ≡ body_of (before ++ head ∷ []) ++ section_lines after = sym (ap (λ (b : List Line). b ++ section_lines after) (body_push before head)) in
    inl (begun, subst IsBody empty (record { key = key; one = one; apart = apart }))
  where
    or_true : (b : Bool) → (b || (true || false)) ≡ true
    or_true true = refl
    or_true false = refl

abbrev Knows : List Line → List Entry → Type 0
Knows before earlier = (name : Name) → list_any (is_section_of name) before ≡ list_any (is_named name) earlier

knows_on : (before : List Line) (line : Line) (earlier : List Entry) → ((name : Name) → is_section_of name line ≡ false) → Knows before earlier → Knows (before ++ line ∷ []) earlier
knows_on before line earlier none known = λ name. names_on before line name (none name) ∙ known name

clean_from : (before : List Line) (earlier : List Entry) (all : List Line) (ring : List Entry)
    → list_all is_whole before ≡ true → Knows before earlier → Stands before all
    → list_all is_whole all ≡ true → Gives all ring → list_all (λ (e : Entry). are_grants e.caps) ring ≡ true → are_apart earlier ring ≡ true
    → first_bad before all ≡ None
clean_from before earlier [] ring read known stands whole gives good apart = refl
clean_from before earlier (lines.Section (Some name) ∷ after) [] read known stands whole gives good apart = absurd gives
clean_from before earlier (lines.Section (Some name) ∷ after) (entry ∷ ring) read known stands whole (named, one, caps, gives) good apart =
    let head : Line = lines.Section (Some name) in
    let all = and_parts (are_grants entry.caps) (list_all (λ (e : Entry). are_grants e.caps) ring) good in
    let own = and_parts (list_all is_grant entry.caps) (differ [] entry.caps) all.0 in
    let parts = and_parts (not (list_any (is_named entry.name) earlier)) (are_apart (earlier ++ entry ∷ []) ring) apart in
    let fresh : list_any (is_section_of name) before ≡ false =
    known name ∙ ap (λ (n : Name). list_any (is_named n) earlier) (sym named) ∙ not_true (list_any (is_named entry.name) earlier) parts.0 in
    let differs : differ [] (flat_map granted_by (section_lines after)) ≡ true = ap (differ []) caps ∙ own.1 in
    let knows : Knows (before ++ head ∷ []) (earlier ++ entry ∷ []) = λ n.
    list_any-append (is_section_of n) before (head ∷ [])
    ∙ ap (λ b. b || (same_name n name || false)) (known n)
    ∙ ap (λ (m : Name). list_any (is_named n) earlier || (same_name n m || false)) (sym named)
    ∙ sym (list_any-append (is_named n) earlier (entry ∷ [])) in
    goes_on before head after (section_clean before name after entry.key fresh one)
    (clean_from (before ++ head ∷ []) (earlier ++ entry ∷ []) after ring (whole_on before head read refl) knows (section_stands before name after entry.key one differs) whole gives all.1 parts.1)
clean_from before earlier (lines.Section None ∷ after) ring read known stands whole gives good apart = absurd (let p : false ≡ true = whole in cc)
clean_from before earlier (lines.Skipped ∷ after) ring read known stands whole gives good apart =
    goes_on before lines.Skipped after refl
    (clean_from (before ++ lines.Skipped ∷ []) earlier after ring (whole_on before lines.Skipped read refl) (knows_on before lines.Skipped earlier (λ n. refl) known) (stands_on before lines.Skipped after refl stands) whole gives good apart)
clean_from before earlier (lines.Key (Some key) ∷ after) ring read known stands whole gives good apart =
    let line : Line = lines.Key (Some key) in
    goes_on before line after (key_clean before key after read stands)
    (clean_from (before ++ line ∷ []) earlier after ring (whole_on before line read refl) (knows_on before line earlier (λ n. refl) known) (stands_on before line after refl stands) whole gives good apart)
clean_from before earlier (lines.Key None ∷ after) ring read known stands whole gives good apart = absurd (let p : false ≡ true = whole in cc)
clean_from before earlier (lines.Caps (Some service) (Some text) ∷ after) ring read known stands whole gives good apart =
    let line : Line = lines.Caps (Some service) (Some text) in
    goes_on before line after (caps_clean before service text after read stands)
    (clean_from (before ++ line ∷ []) earlier after ring (whole_on before line read refl) (knows_on before line earlier (λ n. refl) known) (stands_on before line after refl stands) whole gives good apart)
clean_from before earlier (lines.Caps (Some service) None ∷ after) ring read known stands whole gives good apart = absurd (let p : false ≡ true = whole in cc)
clean_from before earlier (lines.Caps None text ∷ after) ring read known stands whole gives good apart = absurd (let p : false ≡ true = whole in cc)
clean_from before earlier (lines.Other ∷ after) ring read known stands whole gives good apart = absurd (let p : false ≡ true = whole in cc)

-- lines that are a keyring have no line that is wrong
pub clean : (all : List Line) (ring : List Entry) → IsKeyring all ring → first_bad [] all ≡ None
clean all ring k =
    let parts = and_parts (list_all (λ (e : Entry). are_grants e.caps) ring) (are_apart [] ring) k.good in
    clean_from [] [] all ring refl (λ name. refl) (inr k.begins) k.whole k.gives parts.0 parts.1
