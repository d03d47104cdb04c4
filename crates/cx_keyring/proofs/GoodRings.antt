-- Where no line is wrong, the entries that the lines give are those of a keyring.
use Rattle.std.proofs.Common.{◌≡◌, ℕ, ◌+◌, Bool, true, false, List, [], ◌∷◌, ◌++◌, length, Option, Some, None, refl, sym, ap, ◌∙◌, subst}
use Rattle.std.specs.Prelude.{◌||◌, not}
use Rattle.std.specs.List.{flat_map, list_all, list_any}
use Rattle.std.proofs.lemmas.Bool.{and_parts}
use Rattle.std.proofs.lemmas.List.Folds.{list_any-append}
use Rattle.std.proofs.lemmas.List.Sums.{fold-append}
use Rattle.cx_base.specs.Names.{Name, same_kind}
use Rattle.cx_base.specs.declared.kinds.EntityType.{EntityType}
use Rattle.cx_enc.specs.declared.keys.Key.{Key}
use Rattle.cx_words.specs.Cutting.{lines_of}
use Rattle.cx_keyring.specs.declared.entries.Entry.{Entry}
use Rattle.cx_base.specs.declared.grants.Grant.{Grant}
use Rattle.cx_keyring.specs.declared.faults.KeyringFault.{KeyringFault}
use Rattle.cx_keyring.specs.declared.lines.Line.{Line}
use Rattle.cx_keyring.specs.declared.lines.Line.TheVariants as lines
use Rattle.cx_keyring.specs.Collected.{entries_of, keyed, key_in}
use Rattle.cx_keyring.specs.Entries.{are_apart, are_grants, differ, granted_by, has_service, is_grant, is_named, is_skipped_line, is_whole, key_by, Gives}
use Rattle.cx_keyring.specs.Faults.{body_after, body_of, fault_at, fault_of, first_bad, is_caps_for, is_inner, is_key, is_keyless, is_repeated, is_section, is_section_of, or_later, section_lines}
use Rattle.cx_keyring.specs.Lines.{lines_said}
use Rattle.cx_keyring.specs.Rings.{KeyringText}
use Rattle.cx_keyring.proofs.GoodLines.{all_lines_good, is_line}

-- ---- a line that isn't wrong

or_later_none : (n : ℕ) (fault : Option KeyringFault) (later : Option (ℕ × KeyringFault)) → or_later n fault later ≡ None → (fault ≡ None) × (later ≡ None)
or_later_none n None later e = (refl, e)
or_later_none n (Some why) later e = absurd (let p : Some (n, why) ≡ None = e in cc)

pub good_here : (before : List Line) (line : Line) (after : List Line) → first_bad before (line ∷ after) ≡ None → (fault_at before line after ≡ None) × (first_bad (before ++ line ∷ []) after ≡ None)
good_here before line after e = or_later_none (length before + 1) (fault_at before line after) (first_bad (before ++ line ∷ []) after) e

section_good : (begun repeated keyless : Bool) (name : Name) → fault_of begun repeated keyless (lines.Section (Some name)) ≡ None → repeated ≡ false
section_good begun true keyless name e = absurd cc
section_good begun false keyless name e = refl

caps_good : (begun repeated keyless : Bool) (service : EntityType) (text : List ℕ) → fault_of begun repeated keyless (lines.Caps (Some service) (Some text)) ≡ None → repeated ≡ false
caps_good false repeated keyless service text e = absurd cc
caps_good true true keyless service text e = absurd cc
caps_good true false keyless service text e = refl

pub section_fresh : (before : List Line) (name : Name) (after : List Line) → fault_at before (lines.Section (Some name)) after ≡ None → list_any (is_section_of name) before ≡ false
section_fresh before name after e =
    section_good (list_any is_section before) (list_any (is_section_of name) before) (is_keyless (lines.Section (Some name)) after) name e

pub caps_fresh : (before : List Line) (service : EntityType) (text : List ℕ) (after : List Line) → fault_at before (lines.Caps (Some service) (Some text)) after ≡ None → list_any (is_caps_for service) (body_of before) ≡ false
caps_fresh before service text after e =
    caps_good (list_any is_section before) (list_any (is_caps_for service) (body_of before)) false service text e

-- ---- what stood before stands still

or_left : (a b : Bool) → a ≡ true → (a || b) ≡ true
or_left true b e = refl
or_left false b e = absurd cc

or_both : (a b c : Bool) → (a ≡ true → b ≡ true) → (a || c) ≡ true → (b || c) ≡ true
or_both true b c step e = let p = step refl in rw p refl
or_both false true c step e = refl
or_both false false c step e = e

impossible : (a b : Bool) → (a ≡ true → b ≡ true) → b ≡ false → a ≡ false
impossible true b step e = absurd (let p = step refl in cc)
impossible false b step e = refl

stays : {X : Type 0} (p : X → Bool) (xs : List X) (x : X) → list_any p xs ≡ true → list_any p (xs ++ x ∷ []) ≡ true
stays p xs x e = list_any-append p xs (x ∷ []) ∙ or_left (list_any p xs) (list_any p (x ∷ [])) e

pub body_push : (before : List Line) (line : Line) → body_of (before ++ line ∷ []) ≡ body_after (body_of before) line
body_push before line = fold-append body_after [] before (line ∷ [])

-- ---- names

apart_keyed : (before : List Line) (earlier rest : List Entry) (name : Name) (key : Option Key) (caps : List Grant)
    → ((n : Name) → list_any (is_named n) earlier ≡ true → list_any (is_section_of n) before ≡ true)
    → list_any (is_section_of name) before ≡ false
    → ((more : List Entry) → ((n : Name) → list_any (is_named n) more ≡ true → list_any (is_section_of n) (before ++ lines.Section (Some name) ∷ []) ≡ true) → are_apart more rest ≡ true)
    → are_apart earlier (keyed name key caps ++ rest) ≡ true
apart_keyed before earlier rest name None caps known fresh later = later earlier (λ n e. stays (is_section_of n) before (lines.Section (Some name)) (known n e))
apart_keyed before earlier rest name (Some key) caps known fresh later =
    let entry : Entry = record { name = name; key = key; caps = caps } in
    let none = impossible (list_any (is_named name) earlier) (list_any (is_section_of name) before) (known name) fresh in
    let more = later (earlier ++ entry ∷ []) (λ n e.
    list_any-append (is_section_of n) before (lines.Section (Some name) ∷ [])
    ∙ or_both (list_any (is_named n) earlier) (list_any (is_section_of n) before) (list_any (is_named n) (entry ∷ [])) (known n) (sym (list_any-append (is_named n) earlier (entry ∷ [])) ∙ e)) in
    rw (none, more) refl

apart_law : (before : List Line) (earlier : List Entry) (all : List Line)
    → ((n : Name) → list_any (is_named n) earlier ≡ true → list_any (is_section_of n) before ≡ true) → first_bad before all ≡ None
    → are_apart earlier (entries_of all) ≡ true
apart_law before earlier [] known good = refl
apart_law before earlier (lines.Section (Some name) ∷ after) known good =
    let parts = good_here before (lines.Section (Some name)) after good in
    let fresh = section_fresh before name after parts.0 in
    apart_keyed before earlier (entries_of after) name (key_in (section_lines after)) (flat_map granted_by (section_lines after)) known fresh
    (λ more wider. apart_law (before ++ lines.Section (Some name) ∷ []) more after wider parts.1)
apart_law before earlier (line ∷ after) known good =
    let parts = good_here before line after good in
    apart_law (before ++ line ∷ []) earlier after (λ n e. stays (is_section_of n) before line (known n e)) parts.1

-- ---- caps

differ_law : (before : List Line) (earlier : List Grant) (all : List Line)
    → ((s : EntityType) → has_service s earlier ≡ true → list_any (is_caps_for s) (body_of before) ≡ true) → first_bad before all ≡ None
    → differ earlier (flat_map granted_by (section_lines all)) ≡ true
differ_law before earlier [] known good = refl
differ_law before earlier (lines.Section name ∷ after) known good = refl
differ_law before earlier (lines.Caps (Some service) (Some text) ∷ after) known good =
    let line : Line = lines.Caps (Some service) (Some text) in
    let grant : Grant = record { service = service; caps = text } in
    let parts = good_here before line after good in
    let fresh = caps_fresh before service text after parts.0 in
    let none = impossible (has_service service earlier) (list_any (is_caps_for service) (body_of before)) (known service) fresh in
    let more = differ_law (before ++ line ∷ []) (earlier ++ grant ∷ []) after (λ s e.
    ap (list_any (is_caps_for s)) (body_push before line)
    ∙ list_any-append (is_caps_for s) (body_of before) (line ∷ [])
    ∙ or_both (has_service s earlier) (list_any (is_caps_for s) (body_of before)) (has_service s (grant ∷ [])) (known s) (sym (list_any-append (λ (g : Grant). same_kind s g.service) earlier (grant ∷ [])) ∙ e)) parts.1 in
    rw (none, more) refl
differ_law before earlier (line ∷ after) known good =
    let parts = good_here before line after good in
    differ_law (before ++ line ∷ []) earlier after (λ s e. ap (list_any (is_caps_for s)) (body_push before line) ∙ stays (is_caps_for s) (body_of before) line (known s e)) parts.1

grants_law : (all : List Line) → list_all is_line all ≡ true → list_all is_grant (flat_map granted_by (section_lines all)) ≡ true
grants_law [] good = refl
grants_law (lines.Section name ∷ after) good = refl
grants_law (lines.Caps (Some service) (Some text) ∷ after) good =
    let parts = and_parts (is_line (lines.Caps (Some service) (Some text))) (list_all is_line after) good in
    rw (parts.0, grants_law after parts.1) refl
grants_law (line ∷ after) good =
    let parts = and_parts (is_line line) (list_all is_line after) good in
    grants_law after parts.1

-- ---- entries

all_keyed : (name : Name) (key : Option Key) (caps : List Grant) (rest : List Entry) → are_grants caps ≡ true → list_all (λ (e : Entry). are_grants e.caps) rest ≡ true → list_all (λ (e : Entry). are_grants e.caps) (keyed name key caps ++ rest) ≡ true
all_keyed name None caps rest good all = all
all_keyed name (Some key) caps rest good all = rw (good, all) refl

entries_law : (before all : List Line) → list_all is_line all ≡ true → first_bad before all ≡ None → list_all (λ (e : Entry). are_grants e.caps) (entries_of all) ≡ true
entries_law before [] read good = refl
entries_law before (lines.Section (Some name) ∷ after) read good =
    let parts = good_here before (lines.Section (Some name)) after good in
    let apart = differ_law (before ++ lines.Section (Some name) ∷ []) [] after (λ s e. absurd (let p : false ≡ true = e in cc)) parts.1 in
    let caps : are_grants (flat_map granted_by (section_lines after)) ≡ true = rw (grants_law after read, apart) refl in
    all_keyed name (key_in (section_lines after)) (flat_map granted_by (section_lines after)) (entries_of after) caps (entries_law (before ++ lines.Section (Some name) ∷ []) after read parts.1)
entries_law before (line ∷ after) read good =
    let parts = good_here before line after good in
    entries_law (before ++ line ∷ []) after (and_parts (is_line line) (list_all is_line after) read).1 parts.1

-- ---- lines that can be read

line_whole : (b r k : Bool) (line : Line) → fault_of b r k line ≡ None → is_whole line ≡ true
line_whole b r k lines.Skipped e = refl
line_whole b r k (lines.Section (Some name)) e = refl
line_whole b r k (lines.Section None) e = absurd cc
line_whole b r k (lines.Key (Some key)) e = refl
line_whole true r k (lines.Key None) e = absurd cc
line_whole false r k (lines.Key None) e = absurd cc
line_whole b r k (lines.Caps (Some service) (Some text)) e = refl
line_whole true r k (lines.Caps (Some service) None) e = absurd cc
line_whole false r k (lines.Caps (Some service) None) e = absurd cc
line_whole true r k (lines.Caps None text) e = absurd cc
line_whole false r k (lines.Caps None text) e = absurd cc
line_whole false r k lines.Other e = absurd cc
line_whole true true k lines.Other e = absurd cc
line_whole true false true lines.Other e = absurd cc
line_whole true false false lines.Other e = absurd cc

here_whole : (before : List Line) (line : Line) (after : List Line) → fault_at before line after ≡ None → is_whole line ≡ true
here_whole before line after e =
    line_whole (list_any is_section before) (is_repeated (λ name. list_any (is_section_of name) before) (body_of before) line) (is_keyless line after) line e

all_whole : (before all : List Line) → first_bad before all ≡ None → list_all is_whole all ≡ true
all_whole before [] good = refl
all_whole before (line ∷ after) good =
    let parts = good_here before line after good in
    rw (here_whole before line after parts.0, all_whole (before ++ line ∷ []) after parts.1) refl

-- ---- nothing is said before the first section

inner_bad : (b r k : Bool) (line : Line) → b ≡ false → is_inner line ≡ true → fault_of b r k line ≡ None → ⊥
inner_bad true r k line e inner good = absurd (let p : true ≡ false = e in cc)
inner_bad false r k lines.Skipped e inner good = absurd (let p : false ≡ true = inner in cc)
inner_bad false r k (lines.Section name) e inner good = absurd (let p : false ≡ true = inner in cc)
inner_bad false r k (lines.Key key) e inner good = absurd cc
inner_bad false r k (lines.Caps service text) e inner good = absurd cc
inner_bad false r k lines.Other e inner good = absurd cc

here_bad : (before : List Line) (line : Line) (after : List Line) → list_any is_section before ≡ false → is_inner line ≡ true → fault_at before line after ≡ None → ⊥
here_bad before line after none inner e =
    inner_bad (list_any is_section before) (is_repeated (λ name. list_any (is_section_of name) before) (body_of before) line) (is_keyless line after) line none inner e

none_begins : (before all : List Line) → list_any is_section before ≡ false → first_bad before all ≡ None → list_all is_skipped_line (section_lines all) ≡ true
none_begins before [] none good = refl
none_begins before (lines.Section name ∷ after) none good = refl
none_begins before (lines.Skipped ∷ after) none good =
    none_begins (before ++ lines.Skipped ∷ []) after (list_any-append is_section before (lines.Skipped ∷ []) ∙ rw none refl) (good_here before lines.Skipped after good).1
none_begins before (lines.Key key ∷ after) none good = absurd (here_bad before (lines.Key key) after none refl (good_here before (lines.Key key) after good).0)
none_begins before (lines.Caps service text ∷ after) none good = absurd (here_bad before (lines.Caps service text) after none refl (good_here before (lines.Caps service text) after good).0)
none_begins before (lines.Other ∷ after) none good = absurd (here_bad before lines.Other after none refl (good_here before lines.Other after good).0)

-- ---- one key in each section

key_good : (b r : Bool) (key : Option Key) → fault_of b r false (lines.Key key) ≡ None → r ≡ false
key_good true true (Some key) e = absurd cc
key_good true false (Some key) e = refl
key_good false r (Some key) e = absurd cc
key_good true r None e = absurd cc
key_good false r None e = absurd cc

key_fresh : (before : List Line) (key : Option Key) (after : List Line) → fault_at before (lines.Key key) after ≡ None → list_any is_key (body_of before) ≡ false
key_fresh before key after e = key_good (list_any is_section before) (list_any is_key (body_of before)) key e

key_stays : (before : List Line) (line : Line) → is_section line ≡ false → list_any is_key (body_of before) ≡ true → list_any is_key (body_of (before ++ line ∷ [])) ≡ true
key_stays before line none e =
    let more : body_of (before ++ line ∷ []) ≡ body_of before ++ line ∷ [] = body_push before line ∙ rw none refl in
    ap (list_any is_key) more ∙ stays is_key (body_of before) line e

none_more : (before all : List Line) → first_bad before all ≡ None → list_any is_key (body_of before) ≡ true → flat_map key_by (section_lines all) ≡ []
none_more before [] good has = refl
none_more before (lines.Section name ∷ after) good has = refl
none_more before (lines.Key key ∷ after) good has =
    let fresh = key_fresh before key after (good_here before (lines.Key key) after good).0 in
    absurd (let p : true ≡ false = sym has ∙ fresh in cc)
none_more before (lines.Skipped ∷ after) good has = none_more (before ++ lines.Skipped ∷ []) after (good_here before lines.Skipped after good).1 (key_stays before lines.Skipped refl has)
none_more before (lines.Caps service text ∷ after) good has =
    none_more (before ++ lines.Caps service text ∷ []) after (good_here before (lines.Caps service text) after good).1 (key_stays before (lines.Caps service text) refl has)
none_more before (lines.Other ∷ after) good has = none_more (before ++ lines.Other ∷ []) after (good_here before lines.Other after good).1 (key_stays before lines.Other refl has)

one_key : (before all : List Line) → first_bad before all ≡ None → list_any is_key (section_lines all) ≡ true → (key : Key) × (flat_map key_by (section_lines all) ≡ key ∷ [])
one_key before [] good has = absurd (let p : false ≡ true = has in cc)
one_key before (lines.Section name ∷ after) good has = absurd (let p : false ≡ true = has in cc)
one_key before (lines.Key (Some key) ∷ after) good has =
    let line : Line = lines.Key (Some key) in
    let now : list_any is_key (body_of (before ++ line ∷ [])) ≡ true = ap (list_any is_key) (body_push before line) ∙ list_any-append is_key (body_of before) (line ∷ []) ∙ or_true (list_any is_key (body_of before)) in
    (key, ap (λ (ks : List Key). key ∷ ks) (none_more (before ++ line ∷ []) after (good_here before line after good).1 now))
  where
    or_true : (b : Bool) → (b || (true || false)) ≡ true
    or_true true = refl
    or_true false = refl
one_key before (lines.Key None ∷ after) good has =
    absurd (let p : false ≡ true = here_whole before (lines.Key None) after (good_here before (lines.Key None) after good).0 in cc)
one_key before (lines.Skipped ∷ after) good has = one_key (before ++ lines.Skipped ∷ []) after (good_here before lines.Skipped after good).1 has
one_key before (lines.Caps service text ∷ after) good has = one_key (before ++ lines.Caps service text ∷ []) after (good_here before (lines.Caps service text) after good).1 has
one_key before (lines.Other ∷ after) good has = one_key (before ++ lines.Other ∷ []) after (good_here before lines.Other after good).1 has

key_in_is : (body : List Line) (key : Key) → flat_map key_by body ≡ key ∷ [] → key_in body ≡ Some key
key_in_is [] key e = absurd (let p : [] ≡ key ∷ [] = e in cc)
key_in_is (lines.Key (Some own) ∷ body) key e = let p : own ∷ flat_map key_by body ≡ key ∷ [] = e in let same : own ≡ key = cc in ap Some same
key_in_is (lines.Key None ∷ body) key e = key_in_is body key e
key_in_is (lines.Skipped ∷ body) key e = key_in_is body key e
key_in_is (lines.Section name ∷ body) key e = key_in_is body key e
key_in_is (lines.Caps service text ∷ body) key e = key_in_is body key e
key_in_is (lines.Other ∷ body) key e = key_in_is body key e

-- ---- the entries

keyed_good : (b r k : Bool) (name : Name) → fault_of b r k (lines.Section (Some name)) ≡ None → k ≡ false
keyed_good b true k name e = absurd cc
keyed_good b false true name e = absurd cc
keyed_good b false false name e = refl

not_false : (b : Bool) → not b ≡ false → b ≡ true
not_false true e = refl
not_false false e = absurd (let p : true ≡ false = e in cc)

gives : (before all : List Line) → first_bad before all ≡ None → Gives all (entries_of all)
gives before [] good = refl
gives before (lines.Section (Some name) ∷ after) good =
    let head : Line = lines.Section (Some name) in
    let parts = good_here before head after good in
    let keyed_here = keyed_good (list_any is_section before) (list_any (is_section_of name) before) (is_keyless head after) name parts.0 in
    let one = one_key (before ++ head ∷ []) after parts.1 (not_false (list_any is_key (section_lines after)) keyed_here) in
    let caps = flat_map granted_by (section_lines after) in
    subst (λ (o : Option Key). Gives (head ∷ after) (keyed name o caps ++ entries_of after)) (sym (key_in_is (section_lines after) one.0 one.1))
    (refl, one.1, refl, gives (before ++ head ∷ []) after parts.1)
gives before (lines.Section None ∷ after) good =
    absurd (let p : false ≡ true = here_whole before (lines.Section None) after (good_here before (lines.Section None) after good).0 in cc)
gives before (lines.Skipped ∷ after) good = gives (before ++ lines.Skipped ∷ []) after (good_here before lines.Skipped after good).1
gives before (lines.Key key ∷ after) good = gives (before ++ lines.Key key ∷ []) after (good_here before (lines.Key key) after good).1
gives before (lines.Caps service text ∷ after) good = gives (before ++ lines.Caps service text ∷ []) after (good_here before (lines.Caps service text) after good).1
gives before (lines.Other ∷ after) good = gives (before ++ lines.Other ∷ []) after (good_here before lines.Other after good).1

-- lines of which none is wrong are a keyring of the entries that are collected
pub judged_good : (bytes : List ℕ) → first_bad [] (lines_said bytes) ≡ None → KeyringText bytes (entries_of (lines_said bytes))
judged_good bytes good =
    let all = entries_law [] (lines_said bytes) (all_lines_good (lines_of bytes)) good in
    let apart = apart_law [] [] (lines_said bytes) (λ n e. absurd (let p : false ≡ true = e in cc)) good in
    record {
      whole = all_whole [] (lines_said bytes) good;
      begins = none_begins [] (lines_said bytes) refl good;
      gives = gives [] (lines_said bytes) good;
      good = rw (all, apart) refl;
    }
