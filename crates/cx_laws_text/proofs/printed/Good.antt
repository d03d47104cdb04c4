-- The printed form of each value is good at its place, and is read as that value again.
use Rattle.std.proofs.Common.{◌≡◌, ℕ, ◌+◌, ◌<◌, ◌≤◌, ◌^◌, true, List, [], ◌∷◌, map, length, codes, refl, ap, ◌∙◌, ◌==◌, ◌&&◌, nat_le, arith, eq-eqb}
use Rattle.std.specs.Prelude.{is_some}
use Rattle.std.specs.Fmt.{decimal}
use Rattle.std.specs.List.{AllByRecursion}
use Rattle.std.proofs.lemmas.Bool.Decides.{nat_tests}
use Rattle.cx_base.specs.Joined.{◌<>◌}
use Rattle.cx_words.specs.Words.{number_of}
use Rattle.cx_words.proofs.NameWords.{access_of-word, name_of-text}
use Rattle.cx_words.proofs.NumberWords.{number_of-decimal}
use Rattle.cx_words.proofs.TextWords.{caps_of-quoted, part_of-word}
use Rattle.cx_words.specs.lines.Places.{passes}
use Rattle.cx_audit_text.proofs.words.Chosen.{admin_outcome_of-word, entity_type_of-word, key_kind_of-word, outcome_of-word, premise_of-word, reason_form_of-word, verb_of-word}
use Rattle.cx_audit_text.specs.words.Items.{IsItem, JournalItem, AccessOf, AdminOutcomeOf, AskedOf, ByteOf, CapsOf, CookieOf, DataOf, EntityOf, FullBookWord, FullWord, IdsOf, KeyKindOf, NextOf, NodeOf, NumberOf, OutcomeOf, PartOf, PremiseOf, ReadingOf, ReasonOf, ShortOf, SpellsItems, TicketOf, TypeOf, VerbOf, are_good, is_good, item_word}
use Rattle.cx_audit_text.specs.words.Readings.{ticket_of}
use Rattle.cx_audit_text.specs.declared.words_places.CountedAbove.{CountedAbove}
use Rattle.cx_audit_text.specs.declared.words_places.JournalPlace.{JournalPlace}
use Rattle.cx_audit_text.specs.declared.words_places.JournalPlace.TheVariants as at
use Rattle.cx_laws_text.proofs.printed.Back.{asked_of-text, byte_of-decimal, cookie_of-word, data_of-text, ids_of-text, node_of-text, printed_reading_of-text, short_of-decimal, ticket_of-word}
use Rattle.cx_laws_text.proofs.printed.Plain.{item-word}
use Rattle.cx_laws_text.proofs.printed.Spaced.{IsWord}

-- the place of a value
abbrev pub place_of : JournalItem → JournalPlace
place_of (NumberOf n) = at.Number
place_of (ShortOf n) = at.Short
place_of (ByteOf n) = at.Byte
place_of (NextOf digits) = at.Next
place_of (ReadingOf r) = at.Reading
place_of (AskedOf asked) = at.Asked
place_of (EntityOf n) = at.Entity
place_of (NodeOf n) = at.Node
place_of (TypeOf k) = at.Type
place_of (CapsOf caps) = at.Caps
place_of (IdsOf gs) = at.Ids
place_of (CookieOf rank) = at.Cookie
place_of (AccessOf a) = at.Access
place_of (PartOf part) = at.Part
place_of (DataOf bytes) = at.Data
place_of (OutcomeOf o) = at.Outcome
place_of (PremiseOf p) = at.Premise
place_of (KeyKindOf k) = at.KeyKind
place_of (ReasonOf f) = at.Reason
place_of FullWord = at.Full
place_of FullBookWord = at.FullBook
place_of (TicketOf digits) = at.Ticket
place_of (VerbOf v) = at.Verb
place_of (AdminOutcomeOf a) = at.AdminOutcome

-- where so much is counted above, one more has a number
pub record Counts (counted : CountedAbove) : Type 0 where
  pub issued : counted.issued + 1 < 2 ^ 64
  pub cookies : counted.cookies + 1 < 2 ^ 64

-- data is bytes
abbrev pub HasBytes : JournalItem → Type 0
HasBytes (DataOf bytes) = AllByRecursion (λ (b : ℕ). b < 256) bytes
HasBytes _ = Unit {0}

next-good : (counted : CountedAbove) (digits : List ℕ) → digits ≡ decimal (counted.issued + 1) → counted.issued + 1 < 2 ^ 64 → is_good counted at.Next digits ≡ true
next-good counted digits is few =
    ap (λ w. passes (λ n. n == counted.issued + 1) (number_of w)) is ∙ ap (passes (λ n. n == counted.issued + 1)) (number_of-decimal (counted.issued + 1) few)
    ∙ eq-eqb (counted.issued + 1) (counted.issued + 1) refl

cookie-good : (counted : CountedAbove) (rank : ℕ) → 1 ≤ rank → rank ≤ counted.cookies + 1 → counted.cookies + 1 < 2 ^ 64 → is_good counted at.Cookie (codes "c" <> decimal rank) ≡ true
cookie-good counted rank low high few =
    let within : (nat_le 1 rank && nat_le rank (counted.cookies + 1)) ≡ true = grind (arith, nat_tests, low, high) in
    ap (passes (λ k. nat_le 1 k && nat_le k (counted.cookies + 1))) (cookie_of-word rank (omega (arith, high, few))) ∙ within

ticket-good : (counted : CountedAbove) (digits : List ℕ) (k : ℕ) → k ≤ counted.issued → digits ≡ decimal k → counted.issued + 1 < 2 ^ 64 → is_good counted at.Ticket (codes "ticket=" <> digits) ≡ true
ticket-good counted digits k small is few =
    let within : nat_le k counted.issued ≡ true = grind (arith, nat_tests, small) in
    ap (λ w. passes (λ n. nat_le n counted.issued) (ticket_of (codes "ticket=" <> w))) is ∙ ap (passes (λ n. nat_le n counted.issued)) (ticket_of-word k (omega (arith, small, few))) ∙ within

pub good-item : (counted : CountedAbove) (item : JournalItem) → Counts counted → IsItem counted item → HasBytes item → is_good counted (place_of item) (item_word item) ≡ true
good-item counted (NumberOf n) c h b = ap is_some (number_of-decimal n h)
good-item counted (ShortOf n) c h b = ap is_some (short_of-decimal n h)
good-item counted (ByteOf n) c h b = ap is_some (byte_of-decimal n h)
good-item counted (NextOf digits) c h b = next-good counted digits h c.issued
good-item counted (ReadingOf r) c h b = ap is_some (printed_reading_of-text r h)
good-item counted (AskedOf asked) c h b = ap is_some (asked_of-text asked h)
good-item counted (EntityOf n) c h b = ap is_some (name_of-text n h)
good-item counted (NodeOf n) c h b = ap is_some (node_of-text n h)
good-item counted (TypeOf k) c h b = ap is_some (entity_type_of-word k)
good-item counted (CapsOf caps) c h b = ap is_some (caps_of-quoted caps h)
good-item counted (IdsOf gs) c h b = ap is_some (ids_of-text gs h)
good-item counted (CookieOf rank) c h b = cookie-good counted rank h.0 h.1 c.cookies
good-item counted (AccessOf a) c h b = ap is_some (access_of-word a)
good-item counted (PartOf part) c h b = ap is_some (part_of-word part h)
good-item counted (DataOf bytes) c h b = ap is_some (data_of-text bytes b)
good-item counted (OutcomeOf o) c h b = ap is_some (outcome_of-word o)
good-item counted (PremiseOf p) c h b = ap is_some (premise_of-word p)
good-item counted (KeyKindOf k) c h b = ap is_some (key_kind_of-word k)
good-item counted (ReasonOf f) c h b = ap is_some (reason_form_of-word f)
good-item counted FullWord c h b = refl
good-item counted FullBookWord c h b = refl
good-item counted (TicketOf digits) c (k, small, is) b = ticket-good counted digits k small is c.issued
good-item counted (VerbOf v) c h b = ap is_some (verb_of-word v)
good-item counted (AdminOutcomeOf a) c h b = ap is_some (admin_outcome_of-word a)

-- ---- several values

-- each is one that a line may hold
abbrev pub AreItems : CountedAbove → List JournalItem → Type 0
AreItems counted items = AllByRecursion (λ (item : JournalItem). IsItem counted item × HasBytes item) items

pub spell-items : (counted : CountedAbove) (items : List JournalItem) → AreItems counted items → SpellsItems counted items (map item_word items)
spell-items counted [] h = tt
spell-items counted (i ∷ is) h = ((h.0.0, refl), spell-items counted is h.1)

pub good-items : (counted : CountedAbove) (items : List JournalItem) → Counts counted → AreItems counted items → are_good counted (map place_of items) (map item_word items) ≡ true
good-items counted [] c h = refl
good-items counted (i ∷ is) c h = rw (good-item counted i c h.0.0 h.0.1, good-items counted is c h.1) refl

pub as-many : (items : List JournalItem) → length (map place_of items) ≡ length (map item_word items)
as-many [] = refl
as-many (i ∷ is) = let more = as-many is in omega (arith, more)

pub all-words : (counted : CountedAbove) (items : List JournalItem) → Counts counted → AreItems counted items → AllByRecursion IsWord (map item_word items)
all-words counted [] c h = tt
all-words counted (i ∷ is) c h = (item-word counted i c.issued c.cookies h.0.0, all-words counted is c h.1)
