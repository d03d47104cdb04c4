-- The lines of a printed keyring are read as what they were printed from.
use Rattle.std.proofs.Common.{◌≡◌, ℕ, suc, ◌+◌, ◌-◌, Bool, true, false, List, [], ◌∷◌, ◌++◌, length, take, get_or, Some, refl, sym, ap, ◌∙◌, arith, IsTrue, length-append, get_or-append-add}
use Rattle.std.specs.Prelude.{◌==◌, ◌&&◌, codes, nat_le}
use Rattle.std.specs.List.{list_all, list_any}
use Rattle.std.proofs.lemmas.Bool.{and_parts, or_from}
use Rattle.std.proofs.lemmas.Bool.Decides.{nat_tests}
use Rattle.std.proofs.lemmas.List.Folds.{list_all-append}
use Rattle.std.proofs.Math.Seq.{take-append_seam}
use Rattle.cx_base.specs.Names.{Name, is_id, is_id_byte, name_text, type_word}
use Rattle.cx_base.specs.declared.kinds.EntityType.{EntityType}
use Rattle.cx_base.specs.declared.kinds.EntityType.TheVariants.{Mon, Mds, Osd, Client, Mgr, Auth}
use Rattle.cx_words.specs.Cutting.{is_line_end}
use Rattle.cx_base.specs.Texts.{is_caps, is_caps_byte}
use Rattle.cx_words.specs.Words.{inside, is_service, quoted}
use Rattle.cx_words.proofs.NameWords.{name_of-text, service_of-word}
use Rattle.cx_words.proofs.TextWords.{caps_of-quoted}
use Rattle.cx_keyring.specs.declared.lines.Line.TheVariants as lines
use Rattle.cx_keyring.specs.Keys.{is_ink, key_of}
use Rattle.cx_keyring.specs.Lines.{caps_text_of, is_blank, is_bracketed, line_of, said_by, setting, trimmed, without_cr, without_front}
use Rattle.cx_keyring.proofs.Blanks.{kept_end}

-- ---- bytes that are no blank, and those that end no line

no_blank : (b : ℕ) → is_ink b ≡ true → is_blank b ≡ false
no_blank b h = grind (arith, nat_tests, h)

no_cr : (b : ℕ) → is_ink b ≡ true → (b == 13) ≡ false
no_cr b h = grind (arith, nat_tests, h)

no_end : (b : ℕ) → nat_le 32 b ≡ true → is_line_end b ≡ false
no_end b h = grind (arith, nat_tests, h)

-- a text of bytes from 0x20 on ends no line
pub in_line : (test : ℕ → Bool) (text : List ℕ) → ((b : ℕ) → test b ≡ true → nat_le 32 b ≡ true) → list_all test text ≡ true → list_any is_line_end text ≡ false
in_line test [] high all = refl
in_line test (b ∷ text) high all =
    let parts = and_parts (test b) (list_all test text) all in
    or_from (is_line_end b) (list_any is_line_end text) (no_end b (high b parts.0)) (in_line test text high parts.1)

pub ink_high : (b : ℕ) → is_ink b ≡ true → nat_le 32 b ≡ true
ink_high b h = grind (arith, nat_tests, h)

pub id_high : (b : ℕ) → is_id_byte b ≡ true → nat_le 32 b ≡ true
id_high b h = grind (arith, nat_tests, h)

pub caps_high : (b : ℕ) → is_caps_byte b ≡ true → nat_le 32 b ≡ true
caps_high b h = grind (arith, nat_tests, h)

-- ---- what is dropped at the ends

last_is : (text : List ℕ) (last : ℕ) → get_or (text ++ last ∷ []) (length (text ++ last ∷ []) - 1) 0 ≡ last
last_is text last =
    let n : length (text ++ last ∷ []) - 1 ≡ length text + 0 = omega (arith, length-append text (last ∷ [])) in
    ap (λ k. get_or (text ++ last ∷ []) k 0) n ∙ get_or-append-add text (last ∷ []) 0 0

-- a line that ends in no CR and no blank
ends_so : (text : List ℕ) (last : ℕ) → (last == 13) ≡ false → is_blank last ≡ false → trimmed (without_cr (text ++ last ∷ [])) ≡ without_front (text ++ last ∷ [])
unfolding trimmed without_cr
ends_so text last cr blank =
    let no : (get_or (text ++ last ∷ []) (length (text ++ last ∷ []) - 1) 0 == 13) ≡ false = ap (λ b. b == 13) (last_is text last) ∙ cr in
    rw (no, kept_end text last blank) refl

trimmed_end : (text : List ℕ) (last : ℕ) → is_blank last ≡ false → trimmed (text ++ last ∷ []) ≡ without_front (text ++ last ∷ [])
unfolding trimmed
trimmed_end text last blank = ap without_front (kept_end text last blank)

front_kept : (text : List ℕ) → list_all is_ink text ≡ true → without_front text ≡ text
front_kept [] all = refl
front_kept (b ∷ text) all = rw (no_blank b (and_parts (is_ink b) (list_all is_ink text) all).0) refl

-- ---- a section

bracketed : (text : List ℕ) → is_bracketed (91 ∷ (text ++ 93 ∷ [])) ≡ true
bracketed text =
    let long : nat_le 2 (length (91 ∷ (text ++ 93 ∷ []))) ≡ true = grind (arith, nat_tests, length-append text (93 ∷ [])) in
    rw (long, last_is (91 ∷ text) 93) refl

inside_brackets : (text : List ℕ) → inside (91 ∷ (text ++ 93 ∷ [])) ≡ text
inside_brackets text =
    let n : suc (length (text ++ 93 ∷ [])) - 1 - 1 ≡ length text = omega (arith, length-append text (93 ∷ [])) in
    ap (λ j. take j (text ++ 93 ∷ [])) n ∙ take-append_seam text (93 ∷ [])

pub section_line : (name : Name) → IsTrue (is_id name.kind name.id) → line_of (91 ∷ (name_text name ++ 93 ∷ [])) ≡ lines.Section (Some name)
unfolding line_of said_by
section_line name good =
    let cut : trimmed (without_cr (91 ∷ (name_text name ++ 93 ∷ []))) ≡ 91 ∷ (name_text name ++ 93 ∷ []) = ends_so (91 ∷ name_text name) 93 refl refl in
    ap said_by cut ∙ rw (bracketed (name_text name), inside_brackets (name_text name), name_of-text name good) refl

-- ---- a key

not_bracketed : (b : ℕ) (text : List ℕ) → (b == 91) ≡ false → is_bracketed (b ∷ text) ≡ false
not_bracketed b text other = rw other (neither (nat_le 2 (length (b ∷ text))) (get_or (b ∷ text) (length (b ∷ text) - 1) 0 == 93))
  where
    neither : (a c : Bool) → ((a && false) && c) ≡ false
    neither true c = refl
    neither false c = refl

last_apart : (b : ℕ) (text : List ℕ) → (front : List ℕ) × (last : ℕ) × (b ∷ text ≡ front ++ last ∷ [])
last_apart b [] = ([], b, refl)
last_apart b (c ∷ text) = let more = last_apart c text in (b ∷ more.0, more.1, ap (λ (t : List ℕ). b ∷ t) more.2)

last_ink : (front : List ℕ) (last : ℕ) → list_all is_ink (front ++ last ∷ []) ≡ true → is_ink last ≡ true
last_ink front last all =
    let parts = and_parts (list_all is_ink front) (list_all is_ink (last ∷ [])) (sym (list_all-append is_ink front (last ∷ [])) ∙ all) in
    (and_parts (is_ink last) true parts.1).0

left_key : trimmed (codes "key ") ≡ codes "key"
unfolding trimmed
left_key = refl

key_said : (front : List ℕ) (last : ℕ) → list_all is_ink (front ++ last ∷ []) ≡ true → line_of (codes "\tkey = " ++ (front ++ last ∷ [])) ≡ lines.Key (key_of (front ++ last ∷ []))
unfolding line_of said_by setting
key_said front last all =
    let ink = last_ink front last all in
    let text = front ++ last ∷ [] in
    let cut : trimmed (without_cr (codes "\tkey = " ++ text)) ≡ codes "key = " ++ text = ends_so (codes "\tkey = " ++ front) last (no_cr last ink) (no_blank last ink) in
    let plain : is_bracketed (codes "key = " ++ text) ≡ false = not_bracketed 107 (codes "ey = " ++ text) refl in
    let right : trimmed (32 ∷ text) ≡ text = trimmed_end (32 ∷ front) last (no_blank last ink) ∙ front_kept text all in
    ap said_by cut ∙ rw (plain, left_key, right) refl

key_split : (text : List ℕ) → (front : List ℕ) × (last : ℕ) × (text ≡ front ++ last ∷ []) → list_all is_ink text ≡ true → line_of (codes "\tkey = " ++ text) ≡ lines.Key (key_of text)
key_split text (front, last, is) all =
    ap (λ (t : List ℕ). line_of (codes "\tkey = " ++ t)) is
    ∙ key_said front last (ap (list_all is_ink) (sym is) ∙ all)
    ∙ ap (λ (t : List ℕ). lines.Key (key_of t)) (sym is)

empty_key : line_of (codes "\tkey = ") ≡ lines.Key (key_of [])
unfolding line_of said_by setting trimmed without_cr
empty_key = refl

pub key_line : (text : List ℕ) → list_all is_ink text ≡ true → line_of (codes "\tkey = " ++ text) ≡ lines.Key (key_of text)
key_line [] all = empty_key
key_line (b ∷ text) all = key_split (b ∷ text) (last_apart b text) all

-- ---- caps

caps_text : (caps : List ℕ) → IsTrue (is_caps caps) → caps_text_of (quoted caps) ≡ Some caps
unfolding caps_text_of
caps_text caps good = rw (caps_of-quoted caps good) refl

quoted_right : (caps : List ℕ) → trimmed (32 ∷ 34 ∷ (caps ++ 34 ∷ [])) ≡ quoted caps
quoted_right caps = trimmed_end (32 ∷ 34 ∷ caps) 34 refl

caps_left : (kind : EntityType) → IsTrue (is_service kind) → (trimmed (codes "caps " ++ type_word kind ++ codes " ") ≡ codes "caps " ++ type_word kind) × (trimmed (32 ∷ type_word kind) ≡ type_word kind)
unfolding trimmed
caps_left Mon good = (refl, refl)
caps_left Mds good = (refl, refl)
caps_left Osd good = (refl, refl)
caps_left Client good = absurd cc
caps_left Mgr good = (refl, refl)
caps_left Auth good = absurd cc

caps_said : (kind : EntityType) (caps : List ℕ) → IsTrue (is_service kind) → caps_text_of (quoted caps) ≡ Some caps → setting (codes "caps " ++ type_word kind) (quoted caps) ≡ lines.Caps (Some kind) (Some caps)
unfolding setting
caps_said Mon caps good read = rw ((caps_left Mon good).1, service_of-word Mon good, read) refl
caps_said Mds caps good read = rw ((caps_left Mds good).1, service_of-word Mds good, read) refl
caps_said Osd caps good read = rw ((caps_left Osd good).1, service_of-word Osd good, read) refl
caps_said Client caps good read = absurd cc
caps_said Mgr caps good read = rw ((caps_left Mgr good).1, service_of-word Mgr good, read) refl
caps_said Auth caps good read = absurd cc

-- what stands left of the text, for each service
caps_cut : (kind : EntityType) (right : List ℕ) → IsTrue (is_service kind) → is_bracketed (codes "caps " ++ type_word kind ++ codes " =" ++ right) ≡ false
    → said_by (codes "caps " ++ type_word kind ++ codes " =" ++ right) ≡ setting (trimmed (codes "caps " ++ type_word kind ++ codes " ")) (trimmed right)
unfolding said_by
caps_cut Mon right good plain = rw plain refl
caps_cut Mds right good plain = rw plain refl
caps_cut Osd right good plain = rw plain refl
caps_cut Client right good plain = absurd cc
caps_cut Mgr right good plain = rw plain refl
caps_cut Auth right good plain = absurd cc

caps_by : (kind : EntityType) (caps line : List ℕ) → IsTrue (is_service kind) → IsTrue (is_caps caps)
    → trimmed (without_cr line) ≡ codes "caps " ++ type_word kind ++ codes " =" ++ (32 ∷ quoted caps)
    → is_bracketed (codes "caps " ++ type_word kind ++ codes " =" ++ (32 ∷ quoted caps)) ≡ false
    → line_of line ≡ lines.Caps (Some kind) (Some caps)
unfolding line_of
caps_by kind caps line good fits cut plain =
    ap said_by cut ∙ caps_cut kind (32 ∷ quoted caps) good plain
    ∙ ap (λ (left : List ℕ). setting left (trimmed (32 ∷ quoted caps))) (caps_left kind good).0
    ∙ ap (setting (codes "caps " ++ type_word kind)) (quoted_right caps)
    ∙ caps_said kind caps good (caps_text caps fits)

pub caps_line : (kind : EntityType) (caps : List ℕ) → IsTrue (is_service kind) → IsTrue (is_caps caps)
    → line_of (codes "\tcaps " ++ (type_word kind ++ (codes " = \"" ++ (caps ++ 34 ∷ [])))) ≡ lines.Caps (Some kind) (Some caps)
caps_line Mon caps good fits = caps_by Mon caps _ good fits (ends_so (codes "\tcaps mon = \"" ++ caps) 34 refl refl) (not_bracketed 99 (codes "aps mon = \"" ++ (caps ++ 34 ∷ [])) refl)
caps_line Mds caps good fits = caps_by Mds caps _ good fits (ends_so (codes "\tcaps mds = \"" ++ caps) 34 refl refl) (not_bracketed 99 (codes "aps mds = \"" ++ (caps ++ 34 ∷ [])) refl)
caps_line Osd caps good fits = caps_by Osd caps _ good fits (ends_so (codes "\tcaps osd = \"" ++ caps) 34 refl refl) (not_bracketed 99 (codes "aps osd = \"" ++ (caps ++ 34 ∷ [])) refl)
caps_line Client caps good fits = absurd cc
caps_line Mgr caps good fits = caps_by Mgr caps _ good fits (ends_so (codes "\tcaps mgr = \"" ++ caps) 34 refl refl) (not_bracketed 99 (codes "aps mgr = \"" ++ (caps ++ 34 ∷ [])) refl)
caps_line Auth caps good fits = absurd cc
