-- The values at the places of a journal's line, how each is printed, and which words are good at which place.
use Rattle.std.specs.Prelude.{ℕ, ◌+◌, ◌<◌, ◌≤◌, ◌^◌, ◌≡◌, ◌==◌, ◌&&◌, Bool, true, false, IsTrue, nat_le, List, [], ◌∷◌, length, codes, Option, Some, None, is_some}
use Rattle.std.specs.Str.{bytes_eq}
use Rattle.std.specs.Fmt.{decimal}
use Rattle.cx_base.specs.Joined.{◌<>◌}
use Rattle.cx_base.specs.declared.kinds.Access.{Access}
use Rattle.cx_base.specs.declared.kinds.EntityType.{EntityType}
use Rattle.cx_base.specs.declared.nodes.NodeName.{NodeName}
use Rattle.cx_base.specs.Nodes.{node_text}
use Rattle.cx_base.specs.Names.{Name, name_text, type_word, access_word}
use Rattle.cx_base.specs.Texts.{is_caps, is_part}
use Rattle.cx_words.specs.Words.{access_of, caps_of, name_of, number_of, part_of, part_word, quoted}
use Rattle.cx_words.specs.lines.Named.{is_name}
use Rattle.cx_words.specs.lines.Places.{passes}
use Rattle.cx_words.specs.lines.Values.{IsWritable}
use Rattle.cx_rotate.specs.declared.generations.Generation.{Generation}
use Rattle.cx_journal.specs.Words.{asked_text, data_text, ids_text, key_kind_word, outcome_word, premise_word, reading_text}
use Rattle.cx_journal.specs.declared.outcomes.Outcome.{Outcome}
use Rattle.cx_journal.specs.declared.premises.KeyKind.{KeyKind}
use Rattle.cx_journal.specs.declared.premises.Premise.{Premise}
use Rattle.cx_audit_text.specs.declared.choices.AdminOutcome.{AdminOutcome}
use Rattle.cx_audit_text.specs.declared.choices.Verb.{Verb}
use Rattle.cx_audit_text.specs.declared.words_places.CountedAbove.{CountedAbove}
use Rattle.cx_audit_text.specs.declared.words_places.JournalPlace.{JournalPlace}
use Rattle.cx_audit_text.specs.declared.words_places.JournalPlace.TheVariants as at
use Rattle.cx_audit_text.specs.declared.words_reasons.ReasonForm.{ReasonForm}
use Rattle.cx_audit_text.specs.words.Choices.{admin_outcome_of, admin_outcome_word, entity_type_of, key_kind_of, outcome_of, premise_of, verb_of, verb_word}
use Rattle.cx_audit_text.specs.words.Readings.{asked_of, byte_of, cookie_of, data_of, ids_of, node_of, printed_reading_of, short_of, three_from, ticket_of}
use Rattle.cx_audit_text.specs.words.Reasons.{reason_form_of, reason_word}

-- a value at its place. The next ticket and the refused one are told by the digits of their number, which stand for the blob
pub data JournalItem : Type 0 where
  NumberOf : ℕ → JournalItem
  ShortOf : ℕ → JournalItem
  ByteOf : ℕ → JournalItem
  NextOf : List ℕ → JournalItem
  ReadingOf : ℕ → JournalItem
  AskedOf : Option ℕ → JournalItem
  EntityOf : Name → JournalItem
  NodeOf : NodeName → JournalItem
  TypeOf : EntityType → JournalItem
  CapsOf : List ℕ → JournalItem
  IdsOf : List Generation → JournalItem
  CookieOf : ℕ → JournalItem
  AccessOf : Access → JournalItem
  PartOf : List ℕ → JournalItem
  DataOf : List ℕ → JournalItem
  OutcomeOf : Outcome → JournalItem
  PremiseOf : Premise → JournalItem
  KeyKindOf : KeyKind → JournalItem
  ReasonOf : ReasonForm → JournalItem
  FullWord : JournalItem
  FullBookWord : JournalItem
  TicketOf : List ℕ → JournalItem
  VerbOf : Verb → JournalItem
  AdminOutcomeOf : AdminOutcome → JournalItem

-- the word of a value
abbrev pub item_word : JournalItem → List ℕ
item_word (NumberOf n) = decimal n
item_word (ShortOf n) = decimal n
item_word (ByteOf n) = decimal n
item_word (NextOf number) = number
item_word (ReadingOf reading) = reading_text reading
item_word (AskedOf asked) = asked_text asked
item_word (EntityOf name) = name_text name
item_word (NodeOf node) = node_text node
item_word (TypeOf kind) = type_word kind
item_word (CapsOf caps) = quoted caps
item_word (IdsOf generations) = ids_text generations
item_word (CookieOf rank) = codes "c" <> decimal rank
item_word (AccessOf access) = access_word access
item_word (PartOf part) = part_word part
item_word (DataOf bytes) = data_text bytes
item_word (OutcomeOf outcome) = outcome_word outcome
item_word (PremiseOf premise) = premise_word premise
item_word (KeyKindOf kind) = key_kind_word kind
item_word (ReasonOf form) = reason_word form
item_word FullWord = codes "1024"
item_word FullBookWord = codes "4096"
item_word (TicketOf number) = codes "ticket=" <> number
item_word (VerbOf verb) = verb_word verb
item_word (AdminOutcomeOf answer) = admin_outcome_word answer

-- the generations that a line tells: none, or three by their ids alone, which rise by one
abbrev pub AreTold : List Generation → Type 0
AreTold [] = Unit {0}
AreTold (first ∷ rest) = (first.id < 18446744073709551614) × (first ∷ rest ≡ three_from first.id)

-- a reading that a line may hold, or none
abbrev pub IsAsked : Option ℕ → Type 0
IsAsked None = Unit {0}
IsAsked (Some reading) = reading < 18446744073000000000

-- what a value has to be, where so much is counted of the lines above
abbrev pub IsItem : CountedAbove → JournalItem → Type 0
IsItem counted (NumberOf n) = n < 2 ^ 64
IsItem counted (ShortOf n) = n < 4294967296
IsItem counted (ByteOf n) = n < 256
IsItem counted (NextOf number) = number ≡ decimal (counted.issued + 1)
IsItem counted (ReadingOf reading) = reading < 18446744073000000000
IsItem counted (AskedOf asked) = IsAsked asked
IsItem counted (EntityOf name) = IsTrue (is_name name)
IsItem counted (NodeOf node) = IsWritable node
IsItem counted (TypeOf kind) = Unit {0}
IsItem counted (CapsOf caps) = IsTrue (is_caps caps)
IsItem counted (IdsOf generations) = AreTold generations
IsItem counted (CookieOf rank) = (1 ≤ rank) × (rank ≤ counted.cookies + 1)
IsItem counted (AccessOf access) = Unit {0}
IsItem counted (PartOf part) = IsTrue (is_part part)
IsItem counted (DataOf bytes) = Unit {0}
IsItem counted (OutcomeOf outcome) = Unit {0}
IsItem counted (PremiseOf premise) = Unit {0}
IsItem counted (KeyKindOf kind) = Unit {0}
IsItem counted (ReasonOf form) = Unit {0}
IsItem counted FullWord = Unit {0}
IsItem counted FullBookWord = Unit {0}
IsItem counted (TicketOf number) = (k : ℕ) × (k ≤ counted.issued) × (number ≡ decimal k)
IsItem counted (VerbOf verb) = Unit {0}
IsItem counted (AdminOutcomeOf answer) = Unit {0}

-- the word spells the value: it is its printed form
abbrev pub SpellsItem : CountedAbove → JournalItem → List ℕ → Type 0
SpellsItem counted item word = IsItem counted item × (word ≡ item_word item)

-- the words spell the values one by one
abbrev pub SpellsItems : CountedAbove → List JournalItem → List (List ℕ) → Type 0
SpellsItems counted [] [] = Unit {0}
SpellsItems counted [] (word ∷ words) = ⊥
SpellsItems counted (item ∷ items) [] = ⊥
SpellsItems counted (item ∷ items) (word ∷ words) = SpellsItem counted item word × SpellsItems counted items words

-- ---- which words are good at which place

abbrev pub is_good : CountedAbove → JournalPlace → List ℕ → Bool
is_good counted at.Number word = is_some (number_of word)
is_good counted at.Short word = is_some (short_of word)
is_good counted at.Byte word = is_some (byte_of word)
is_good counted at.Next word = passes (λ n. n == counted.issued + 1) (number_of word)
is_good counted at.Reading word = is_some (printed_reading_of word)
is_good counted at.Asked word = is_some (asked_of word)
is_good counted at.Entity word = is_some (name_of word)
is_good counted at.Node word = is_some (node_of word)
is_good counted at.Type word = is_some (entity_type_of word)
is_good counted at.Caps word = is_some (caps_of word)
is_good counted at.Ids word = is_some (ids_of word)
is_good counted at.Cookie word = passes (λ rank. nat_le 1 rank && nat_le rank (counted.cookies + 1)) (cookie_of word)
is_good counted at.Access word = is_some (access_of word)
is_good counted at.Part word = is_some (part_of word)
is_good counted at.Data word = is_some (data_of word)
is_good counted at.Outcome word = is_some (outcome_of word)
is_good counted at.Premise word = is_some (premise_of word)
is_good counted at.KeyKind word = is_some (key_kind_of word)
is_good counted at.Reason word = is_some (reason_form_of word)
is_good counted at.Full word = bytes_eq word (codes "1024")
is_good counted at.FullBook word = bytes_eq word (codes "4096")
is_good counted at.Ticket word = passes (λ k. nat_le k counted.issued) (ticket_of word)
is_good counted at.Verb word = is_some (verb_of word)
is_good counted at.AdminOutcome word = is_some (admin_outcome_of word)

-- whether there is a good word at each of these places
abbrev pub are_good : CountedAbove → List JournalPlace → List (List ℕ) → Bool
are_good counted [] [] = true
are_good counted [] (word ∷ words) = false
are_good counted (place ∷ places) [] = false
are_good counted (place ∷ places) (word ∷ words) = is_good counted place word && are_good counted places words

-- whether there are as many words as places, each good at its place
abbrev pub is_whole : CountedAbove → List JournalPlace → List (List ℕ) → Bool
is_whole counted places words = (length places == length words) && are_good counted places words
