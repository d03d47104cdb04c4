-- The printed form of a keyring is a keyring.
use Rattle.std.proofs.Common.{◌≡◌, ℕ, true, false, List, [], ◌∷◌, ◌++◌, Some, map, length, refl, sym, ap, ◌∙◌, subst, IsTrue, append_assoc}
use Rattle.std.specs.Prelude.{◌&&◌, ◌||◌, codes, nat_le}
use Rattle.std.specs.List.{flat_map, list_all, list_any, AllByRecursion}
use Rattle.std.proofs.lemmas.Bool.{and_parts, or_from, or_parts}
use Rattle.std.proofs.lemmas.List.Folds.{list_any-append}
use Rattle.cx_base.specs.Names.{Name, is_id, is_id_byte, name_text, same_kind, type_word}
use Rattle.cx_base.specs.declared.kinds.EntityType.{EntityType}
use Rattle.cx_base.specs.declared.kinds.EntityType.TheVariants.{Mon, Mds, Osd, Client, Mgr, Auth}
use Rattle.cx_words.specs.Cutting.{is_line_end, lines_of}
use Rattle.cx_base.specs.Texts.{is_caps, is_caps_byte}
use Rattle.cx_words.specs.Words.{is_service}
use Rattle.cx_keyring.specs.declared.entries.Entry.{Entry}
use Rattle.cx_base.specs.declared.grants.Grant.{Grant}
use Rattle.cx_keyring.specs.declared.lines.Line.{Line}
use Rattle.cx_keyring.specs.declared.lines.Line.TheVariants as lines
use Rattle.cx_keyring.specs.Entries.{are_grants, differ, is_grant, is_ring, IsKeyring}
use Rattle.cx_keyring.specs.Keys.{is_ink, key_text}
use Rattle.cx_keyring.specs.Lines.{line_of, lines_said}
use Rattle.cx_keyring.specs.Rings.{IsPrintable, KeyringText, printed_grant, printed_head, printed_keyring}
use Rattle.cx_keyring.proofs.PrintedLines.{caps_high, caps_line, id_high, in_line, ink_high, key_line, section_line}
use Rattle.cx_keyring.proofs.SaidRings.{said_grant, said_keyring, said_ring}

-- ---- texts that end no line

joined : (xs ys : List ℕ) → list_any is_line_end xs ≡ false → list_any is_line_end ys ≡ false → list_any is_line_end (xs ++ ys) ≡ false
joined xs ys p q = list_any-append is_line_end xs ys ∙ or_from (list_any is_line_end xs) (list_any is_line_end ys) p q

word_in_line : (kind : EntityType) → list_any is_line_end (type_word kind) ≡ false
word_in_line Mon = refl
word_in_line Mds = refl
word_in_line Osd = refl
word_in_line Client = refl
word_in_line Mgr = refl
word_in_line Auth = refl

name_in_line : (name : Name) → IsTrue (is_id name.kind name.id) → list_any is_line_end (name_text name) ≡ false
name_in_line name good =
    let parts = and_parts (same_kind name.kind Mon || nat_le 1 (length name.id)) (nat_le (length name.id) 64 && list_all is_id_byte name.id) good in
    let id = in_line is_id_byte name.id id_high (and_parts (nat_le (length name.id) 64) (list_all is_id_byte name.id) parts.1).1 in
    joined (type_word name.kind) (codes "." ++ name.id) (word_in_line name.kind) id

-- ---- lines

line_behind : (front rest : List ℕ) → list_any is_line_end front ≡ false → lines_of (front ++ 10 ∷ rest) ≡ front ∷ lines_of rest
unfolding lines_of
line_behind [] rest none = refl
line_behind (b ∷ front) rest none =
    let parts = or_parts (is_line_end b) (list_any is_line_end front) none in
    rw (parts.0, line_behind front rest parts.1) refl

said_behind : (front rest : List ℕ) (said : Line) → list_any is_line_end front ≡ false → line_of front ≡ said → lines_said (front ++ 10 ∷ rest) ≡ said ∷ lines_said rest
said_behind front rest said none is = ap (map line_of) (line_behind front rest none) ∙ ap (λ (line : Line). line ∷ lines_said rest) is

grant_said : (grant : Grant) (rest : List ℕ) → is_grant grant ≡ true → lines_said (printed_grant grant ++ rest) ≡ said_grant grant ∷ lines_said rest
grant_said grant rest good =
    let parts = and_parts (is_service grant.service) (is_caps grant.caps) good in
    let line : List ℕ = codes "\tcaps " ++ (type_word grant.service ++ (codes " = \"" ++ (grant.caps ++ 34 ∷ []))) in
    let whole : printed_grant grant ++ rest ≡ line ++ 10 ∷ rest = simp append_assoc in
    let caps = in_line is_caps_byte grant.caps caps_high (and_parts (nat_le (length grant.caps) 4096) (list_all is_caps_byte grant.caps) parts.1).1 in
    let none : list_any is_line_end line ≡ false =
    joined (type_word grant.service) (codes " = \"" ++ (grant.caps ++ 34 ∷ [])) (word_in_line grant.service) (joined grant.caps (34 ∷ []) caps refl) in
    ap lines_said whole ∙ said_behind line rest (said_grant grant) none (caps_line grant.service grant.caps parts.0 parts.1)

grants_said : (grants : List Grant) (rest : List ℕ) → list_all is_grant grants ≡ true → lines_said (flat_map printed_grant grants ++ rest) ≡ map said_grant grants ++ lines_said rest
grants_said [] rest good = refl
grants_said (grant ∷ grants) rest good =
    let parts = and_parts (is_grant grant) (list_all is_grant grants) good in
    ap lines_said (append_assoc (printed_grant grant) (flat_map printed_grant grants) rest)
    ∙ grant_said grant (flat_map printed_grant grants ++ rest) parts.0
    ∙ ap (λ (ls : List Line). said_grant grant ∷ ls) (grants_said grants rest parts.1)

head_said : (entry : Entry) (rest : List ℕ) → IsPrintable entry → lines_said (printed_head entry ++ rest) ≡ lines.Section (Some entry.name) ∷ lines.Key (Some entry.key) ∷ lines_said rest
head_said entry rest (good, keyed_text) =
    let inked = keyed_text.0 in
    let read = keyed_text.1 in
    let first : List ℕ = 91 ∷ (name_text entry.name ++ 93 ∷ []) in
    let second : List ℕ = codes "\tkey = " ++ key_text entry.key in
    let whole : printed_head entry ++ rest ≡ first ++ 10 ∷ (second ++ 10 ∷ rest) = simp append_assoc in
    let named : list_any is_line_end first ≡ false = joined (name_text entry.name) (93 ∷ []) (name_in_line entry.name good) refl in
    let keyed : list_any is_line_end second ≡ false = in_line is_ink (key_text entry.key) ink_high inked in
    ap lines_said whole
    ∙ said_behind first (second ++ 10 ∷ rest) (lines.Section (Some entry.name)) named (section_line entry.name good)
    ∙ ap (λ (ls : List Line). lines.Section (Some entry.name) ∷ ls)
    (said_behind second rest (lines.Key (Some entry.key)) keyed (key_line (key_text entry.key) inked ∙ ap lines.Key read))

no_lines : lines_said [] ≡ []
unfolding lines_of
no_lines = refl

ring_said : (ring : List Entry) → list_all (λ (e : Entry). are_grants e.caps) ring ≡ true → AllByRecursion IsPrintable ring → lines_said (printed_keyring ring) ≡ said_ring ring
ring_said [] good all = no_lines
ring_said (entry ∷ ring) good (own, all) =
    let parts = and_parts (are_grants entry.caps) (list_all (λ (e : Entry). are_grants e.caps) ring) good in
    let grants = and_parts (list_all is_grant entry.caps) (differ [] entry.caps) parts.0 in
    ap lines_said (append_assoc (printed_head entry) (flat_map printed_grant entry.caps) (printed_keyring ring))
    ∙ head_said entry (flat_map printed_grant entry.caps ++ printed_keyring ring) own
    ∙ ap (λ (ls : List Line). lines.Section (Some entry.name) ∷ lines.Key (Some entry.key) ∷ ls)
    (grants_said entry.caps (printed_keyring ring) grants.0 ∙ ap (λ (ls : List Line). map said_grant entry.caps ++ ls) (ring_said ring parts.1 all))

pub printed_again : (ring : List Entry) → IsTrue (is_ring ring) → AllByRecursion IsPrintable ring → KeyringText (printed_keyring ring) ring
printed_again ring good all =
    let said = ring_said ring (and_parts _ _ good).0 all in
    subst (λ (ls : List Line). IsKeyring ls ring) (sym said) (said_keyring ring good)
