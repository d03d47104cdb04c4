-- A word that spells a value is read as that value, and so it spells one at most at its place.
use Rattle.std.proofs.Common.{◌≡◌, ℕ, zero, suc, ◌+◌, ◌/◌, ◌%◌, ◌<◌, ◌^◌, Bool, true, false, cond, List, [], ◌∷◌, map, get_or, drop, codes, Option, Some, None, refl, sym, ap, ◌∙◌, arith}
use Rattle.std.specs.Prelude.{is_some}
use Rattle.std.specs.Option.{option_map}
use Rattle.std.specs.Str.{bytes_eq}
use Rattle.std.proofs.lemmas.Bool.{and_parts}
use Rattle.hex.specs.Hex.{encode_lower, encode_with, hex_digit_value, lower_digits}
use Rattle.cx_words.specs.Words.{IsHexText, IsHexWord, access_of, caps_of, hex_of, hex_word, name_of, number_of, part_of}
use Rattle.cx_words.proofs.HexWords.{hex_of-is}
use Rattle.cx_words.proofs.NameWords.{access_of-word, name_of-text}
use Rattle.cx_words.proofs.NumberWords.{number_of-decimal}
use Rattle.cx_words.proofs.TextWords.{caps_of-quoted, part_of-word}
use Rattle.cx_journal.specs.Words.{data_text}
use Rattle.cx_audit_text.proofs.words.Chosen.{admin_outcome_of-word, entity_type_of-word, key_kind_of-word, outcome_of-word, premise_of-word, reason_form_of-word, verb_of-word}
use Rattle.cx_audit_text.specs.words.Choices.{admin_outcome_of, entity_type_of, key_kind_of, outcome_of, premise_of, verb_of}
use Rattle.cx_audit_text.specs.words.Items.{JournalItem, AccessOf, AdminOutcomeOf, AskedOf, ByteOf, CapsOf, CookieOf, DataOf, EntityOf, FullBookWord, FullWord, IdsOf, KeyKindOf, NextOf, NodeOf, NumberOf, OutcomeOf, PartOf, PremiseOf, ReadingOf, ReasonOf, ShortOf, SpellsItem, SpellsItems, TicketOf, TypeOf, VerbOf, are_good, is_good}
use Rattle.cx_audit_text.specs.words.Readings.{asked_of, byte_of, cookie_of, data_of, ids_of, node_of, printed, printed_reading_of, short_of}
use Rattle.cx_audit_text.specs.words.Reasons.{reason_form_of}
use Rattle.cx_audit_text.specs.declared.words_places.CountedAbove.{CountedAbove}
use Rattle.cx_audit_text.specs.declared.words_places.JournalPlace.{JournalPlace}
use Rattle.cx_audit_text.specs.declared.words_places.JournalPlace.TheVariants as at
use Rattle.cx_laws_text.proofs.printed.Back.{asked_of-text, byte_of-decimal, cookie_of-word, hex-word, ids_of-text, node_of-text, printed_reading_of-text, short_of-decimal}
use Rattle.cx_laws_text.proofs.printed.Good.{place_of}

-- ---- data: a word that decodes is the text of one list alone

-- the values of digits, one behind the other, from this one on
abbrev Counts : ℕ → List ℕ → Type 0
Counts n [] = Unit {0}
Counts n (x ∷ xs) = (hex_digit_value x ≡ Some n) × Counts (n + 1) xs

digit-once : (xs : List ℕ) (n i v : ℕ) → Counts n xs → hex_digit_value (get_or xs i 0) ≡ Some v → v ≡ n + i
digit-once [] n i v c e = absurd (let x : None ≡ Some v = e in cc)
digit-once (x ∷ xs) n zero v c e = let same : Some n ≡ Some v = sym c.0 ∙ e in (let s : n ≡ v = cc in omega (arith, s))
digit-once (x ∷ xs) n (suc i) v c e = let more = digit-once xs (n + 1) i v c.1 e in omega (arith, more)

all-digits : Counts 0 lower_digits
all-digits = (refl, (refl, (refl, (refl, (refl, (refl, (refl, (refl, (refl, (refl, (refl, (refl, (refl, (refl, (refl, (refl, tt))))))))))))))))

hex-once : (bytes found : List ℕ) → IsHexText (encode_lower bytes) found → bytes ≡ found
unfolding encode_with
hex-once [] [] h = refl
hex-once [] (c ∷ found) h = absurd h
hex-once (b ∷ bytes) [] h = absurd h
hex-once (b ∷ bytes) (c ∷ found) h =
    let high = digit-once lower_digits 0 (b / 16) (c / 16) all-digits h.0 in
    let low = digit-once lower_digits 0 (b % 16) (c % 16) all-digits h.1 in
    let same : b ≡ c = omega (arith, high, low) in
    ap (λ x. x ∷ bytes) same ∙ ap (λ xs. c ∷ xs) (hex-once bytes found h.2)

not-dash : (b : ℕ) (bytes : List ℕ) → encode_lower (b ∷ bytes) ≡ codes "-" → ⊥
unfolding encode_with
not-dash b bytes e =
    let xs : List ℕ = encode_lower (b ∷ bytes) in
    let more : List ℕ = encode_lower bytes in
    let two : get_or lower_digits (b / 16) 0 ∷ get_or lower_digits (b % 16) 0 ∷ more ≡ 45 ∷ [] = e in
    cc

word-once : (bytes found : List ℕ) → IsHexWord (hex_word bytes) found → bytes ≡ found
word-once [] [] h = refl
word-once [] (c ∷ found) h = absurd h
word-once (b ∷ bytes) [] h = absurd (not-dash b bytes h)
word-once (b ∷ bytes) (c ∷ found) h = hex-once (b ∷ bytes) (c ∷ found) h

data-cases : (w : List ℕ) (decoded : Option (List ℕ)) (found : List ℕ) (b : Bool) → hex_of w ≡ Some found → bytes_eq w (data_text found) ≡ b → is_some (cond b (Some found) None) ≡ true
    → cond b (Some found) None ≡ Some found
data-cases w decoded found true is same good = refl
data-cases w decoded found false is same good = absurd (let x : false ≡ true = good in cc)

data-read : (bytes : List ℕ) (decoded : Option (List ℕ)) → hex_of (data_text bytes) ≡ decoded → is_some (printed data_text (data_text bytes) decoded) ≡ true → printed data_text (data_text bytes) decoded ≡ Some bytes
data-read bytes None is good = absurd (let x : false ≡ true = good in cc)
data-read bytes (Some found) is good =
    let spelled : IsHexWord (hex_word bytes) found = hex_of-is (hex_word bytes) found (ap hex_of (sym (hex-word bytes)) ∙ is) in
    data-cases (data_text bytes) (Some found) found (bytes_eq (data_text bytes) (data_text found)) is refl good ∙ ap Some (sym (word-once bytes found spelled))

data_of-good : (bytes : List ℕ) → is_some (data_of (data_text bytes)) ≡ true → data_of (data_text bytes) ≡ Some bytes
unfolding data_of
data_of-good bytes good = data-read bytes (hex_of (data_text bytes)) refl good

-- ---- any value

abbrev pub read_item : JournalPlace → List ℕ → Option JournalItem
read_item at.Number w = option_map (λ n. NumberOf n) (number_of w)
read_item at.Short w = option_map (λ n. ShortOf n) (short_of w)
read_item at.Byte w = option_map (λ n. ByteOf n) (byte_of w)
read_item at.Next w = Some (NextOf w)
read_item at.Reading w = option_map (λ r. ReadingOf r) (printed_reading_of w)
read_item at.Asked w = option_map (λ a. AskedOf a) (asked_of w)
read_item at.Entity w = option_map (λ n. EntityOf n) (name_of w)
read_item at.Node w = option_map (λ n. NodeOf n) (node_of w)
read_item at.Type w = option_map (λ k. TypeOf k) (entity_type_of w)
read_item at.Caps w = option_map (λ c. CapsOf c) (caps_of w)
read_item at.Ids w = option_map (λ gs. IdsOf gs) (ids_of w)
read_item at.Cookie w = option_map (λ k. CookieOf k) (cookie_of w)
read_item at.Access w = option_map (λ a. AccessOf a) (access_of w)
read_item at.Part w = option_map (λ p. PartOf p) (part_of w)
read_item at.Data w = option_map (λ bs. DataOf bs) (data_of w)
read_item at.Outcome w = option_map (λ o. OutcomeOf o) (outcome_of w)
read_item at.Premise w = option_map (λ p. PremiseOf p) (premise_of w)
read_item at.KeyKind w = option_map (λ k. KeyKindOf k) (key_kind_of w)
read_item at.Reason w = option_map (λ f. ReasonOf f) (reason_form_of w)
read_item at.Full w = Some FullWord
read_item at.FullBook w = Some FullBookWord
read_item at.Ticket w = Some (TicketOf (drop 7 w))
read_item at.Verb w = option_map (λ v. VerbOf v) (verb_of w)
read_item at.AdminOutcome w = option_map (λ a. AdminOutcomeOf a) (admin_outcome_of w)

data-item : (w bytes : List ℕ) → w ≡ data_text bytes → is_some (data_of w) ≡ true → data_of w ≡ Some bytes
data-item w bytes is good = ap data_of is ∙ data_of-good bytes (ap (λ x. is_some (data_of x)) (sym is) ∙ good)

item-back : (counted : CountedAbove) (item : JournalItem) (w : List ℕ) → counted.cookies + 1 < 2 ^ 64 → SpellsItem counted item w → is_good counted (place_of item) w ≡ true → read_item (place_of item) w ≡ Some item
item-back counted (NumberOf n) w low p good = ap (option_map (λ n. NumberOf n)) (ap number_of p.1 ∙ number_of-decimal n p.0)
item-back counted (ShortOf n) w low p good = ap (option_map (λ n. ShortOf n)) (ap short_of p.1 ∙ short_of-decimal n p.0)
item-back counted (ByteOf n) w low p good = ap (option_map (λ n. ByteOf n)) (ap byte_of p.1 ∙ byte_of-decimal n p.0)
item-back counted (NextOf digits) w low p good = ap (λ x. Some (NextOf x)) p.1
item-back counted (ReadingOf r) w low p good = ap (option_map (λ r. ReadingOf r)) (ap printed_reading_of p.1 ∙ printed_reading_of-text r p.0)
item-back counted (AskedOf asked) w low p good = ap (option_map (λ a. AskedOf a)) (ap asked_of p.1 ∙ asked_of-text asked p.0)
item-back counted (EntityOf n) w low p good = ap (option_map (λ n. EntityOf n)) (ap name_of p.1 ∙ name_of-text n p.0)
item-back counted (NodeOf n) w low p good = ap (option_map (λ n. NodeOf n)) (ap node_of p.1 ∙ node_of-text n p.0)
item-back counted (TypeOf k) w low p good = ap (option_map (λ k. TypeOf k)) (ap entity_type_of p.1 ∙ entity_type_of-word k)
item-back counted (CapsOf caps) w low p good = ap (option_map (λ c. CapsOf c)) (ap caps_of p.1 ∙ caps_of-quoted caps p.0)
item-back counted (IdsOf gs) w low p good = ap (option_map (λ gs. IdsOf gs)) (ap ids_of p.1 ∙ ids_of-text gs p.0)
item-back counted (CookieOf rank) w low p good = ap (option_map (λ k. CookieOf k)) (ap cookie_of p.1 ∙ cookie_of-word rank (omega (arith, p.0.1, low)))
item-back counted (AccessOf a) w low p good = ap (option_map (λ a. AccessOf a)) (ap access_of p.1 ∙ access_of-word a)
item-back counted (PartOf part) w low p good = ap (option_map (λ p. PartOf p)) (ap part_of p.1 ∙ part_of-word part p.0)
item-back counted (DataOf bytes) w low p good = ap (option_map (λ bs. DataOf bs)) (data-item w bytes p.1 good)
item-back counted (OutcomeOf o) w low p good = ap (option_map (λ o. OutcomeOf o)) (ap outcome_of p.1 ∙ outcome_of-word o)
item-back counted (PremiseOf q) w low p good = ap (option_map (λ p. PremiseOf p)) (ap premise_of p.1 ∙ premise_of-word q)
item-back counted (KeyKindOf k) w low p good = ap (option_map (λ k. KeyKindOf k)) (ap key_kind_of p.1 ∙ key_kind_of-word k)
item-back counted (ReasonOf f) w low p good = ap (option_map (λ f. ReasonOf f)) (ap reason_form_of p.1 ∙ reason_form_of-word f)
item-back counted FullWord w low p good = refl
item-back counted FullBookWord w low p good = refl
item-back counted (TicketOf digits) w low p good = ap (λ x. Some (TicketOf (drop 7 x))) p.1
item-back counted (VerbOf v) w low p good = ap (option_map (λ v. VerbOf v)) (ap verb_of p.1 ∙ verb_of-word v)
item-back counted (AdminOutcomeOf a) w low p good = ap (option_map (λ a. AdminOutcomeOf a)) (ap admin_outcome_of p.1 ∙ admin_outcome_of-word a)

-- ---- several

abbrev cons_read : Option JournalItem → Option (List JournalItem) → Option (List JournalItem)
cons_read None items = None
cons_read (Some item) None = None
cons_read (Some item) (Some items) = Some (item ∷ items)

abbrev pub read_items : List JournalPlace → List (List ℕ) → Option (List JournalItem)
read_items [] [] = Some []
read_items [] (w ∷ ws) = None
read_items (p ∷ ps) [] = None
read_items (p ∷ ps) (w ∷ ws) = cons_read (read_item p w) (read_items ps ws)

pub items-back : (counted : CountedAbove) (items : List JournalItem) (ws : List (List ℕ)) → counted.cookies + 1 < 2 ^ 64 → SpellsItems counted items ws → are_good counted (map place_of items) ws ≡ true
    → read_items (map place_of items) ws ≡ Some items
items-back counted [] [] low p good = refl
items-back counted [] (w ∷ ws) low p good = absurd p
items-back counted (i ∷ is) [] low p good = absurd p
items-back counted (i ∷ is) (w ∷ ws) low p good =
    let parts = and_parts (is_good counted (place_of i) w) (are_good counted (map place_of is) ws) good in
    rw (item-back counted i w low p.0 parts.0, items-back counted is ws low p.1 parts.1) refl
