-- The printed form of each value is one word of a line.
use Rattle.std.proofs.Common.{◌≡◌, ℕ, zero, suc, ◌+◌, ◌-◌, ◌/◌, ◌%◌, ◌<◌, ◌^◌, inl, inr, Bool, true, false, cond, IsTrue, List, [], ◌∷◌, ◌++◌, length, replicate, get_or, codes, Option, Some, None, refl, sym, subst, ◌==◌, ◌&&◌, ◌||◌, nat_le, arith}
use Rattle.std.specs.Fmt.{decimal}
use Rattle.std.specs.List.{list_all, list_any}
use Rattle.std.specs.Prelude.{not}
use Rattle.std.specs.Str.{bytes_eq}
use Rattle.std.proofs.lemmas.Bool.{and_parts, or_from, or_parts}
use Rattle.std.proofs.lemmas.Bool.Decides.{nat_tests}
use Rattle.std.proofs.lemmas.Fmt.{digits_decimal}
use Rattle.hex.specs.Hex.{encode_lower, encode_with, lower_digits}
use Rattle.cx_base.specs.Names.{Name, is_id, is_id_byte, name_text, same_kind, type_word}
use Rattle.cx_base.specs.Nodes.{node_text}
use Rattle.cx_base.specs.Texts.{is_caps, is_caps_byte, is_long_part, is_part, is_part_byte}
use Rattle.cx_base.specs.declared.kinds.EntityType.{EntityType}
use Rattle.cx_base.specs.declared.kinds.EntityType.TheVariants.{Mon}
use Rattle.cx_base.specs.declared.nodes.NodeName.{NodeName}
use Rattle.cx_base.specs.declared.nodes.NodeName.TheVariants as node
use Rattle.cx_words.specs.Words.{is_digit, part_word, quoted}
use Rattle.cx_words.proofs.NumberWords.{own}
use Rattle.cx_words.specs.lines.Values.{IsWritable}
use Rattle.cx_rotate.specs.declared.generations.Generation.{Generation}
use Rattle.cx_journal.specs.Words.{asked_text, data_text, ids_text, nine_digits, reading_text}
use Rattle.cx_audit_text.specs.words.Items.{AreTold, IsAsked, IsItem, JournalItem, AccessOf, AdminOutcomeOf, AskedOf, ByteOf, CapsOf, CookieOf, DataOf, EntityOf, FullBookWord, FullWord, IdsOf, KeyKindOf, NextOf, NodeOf, NumberOf, OutcomeOf, PartOf, PremiseOf, ReadingOf, ReasonOf, ShortOf, TicketOf, TypeOf, VerbOf, item_word}
use Rattle.cx_audit_text.specs.words.Readings.{three_from}
use Rattle.cx_audit_text.specs.declared.words_places.CountedAbove.{CountedAbove}
use Rattle.cx_laws_text.proofs.printed.ChoicesPlain.{access-plain, admin-plain, kind-plain, outcome-plain, premise-plain, reason-plain, type-plain, verb-plain}
use Rattle.cx_laws_text.proofs.printed.Spaced.{IsPlain, IsWord, closes, cuts, plain-append}

-- ---- bytes of an alphabet

pub all-none : (test other : ℕ → Bool) → ((b : ℕ) → test b ≡ true → other b ≡ false) → (w : List ℕ) → list_all test w ≡ true → list_any other w ≡ false
all-none test other apart [] h = refl
all-none test other apart (b ∷ w) h =
    let p = and_parts (test b) (list_all test w) h in
    or_from (other b) (list_any other w) (apart b p.0) (all-none test other apart w p.1)

digit-plain : (b : ℕ) → is_digit b ≡ true → cuts b ≡ false
digit-plain b h = grind (arith, nat_tests, h)

id-plain : (b : ℕ) → is_id_byte b ≡ true → cuts b ≡ false
id-plain b h = grind (arith, nat_tests, h)

part-plain : (b : ℕ) → is_part_byte b ≡ true → cuts b ≡ false
part-plain b h = grind (arith, nat_tests, h)

caps-closed : (b : ℕ) → is_caps_byte b ≡ true → closes b ≡ false
caps-closed b h = grind (arith, nat_tests, h)

-- ---- numbers and readings

pub digits-plain : (ds : List ℕ) → list_all is_digit ds ≡ true → IsPlain ds
digits-plain ds h = all-none is_digit cuts digit-plain ds h

decimal-plain : (n : ℕ) → n < 2 ^ 64 → IsPlain (decimal n)
decimal-plain n lt = digits-plain (decimal n) (digits_decimal own n lt)

zeros-plain : (k : ℕ) → IsPlain (replicate k 48)
zeros-plain zero = refl
zeros-plain (suc k) = zeros-plain k

nine-plain : (n : ℕ) → n < 2 ^ 64 → IsPlain (nine_digits n)
nine-plain n lt = plain-append cuts (replicate (9 - length (decimal n)) 48) (decimal n) (zeros-plain (9 - length (decimal n))) (decimal-plain n lt)

either-plain : (b : Bool) (xs ys : List ℕ) → IsPlain xs → IsPlain ys → IsPlain (cond b xs ys)
either-plain true xs ys h g = h
either-plain false xs ys h g = g

reading-plain : (r : ℕ) → r < 18446744073000000000 → IsPlain (reading_text r)
reading-plain r lt =
    let seconds = decimal-plain (r / 1000000000) (omega (arith, lt)) in
    let rest : IsPlain (46 ∷ nine_digits (r % 1000000000)) = nine-plain (r % 1000000000) (omega arith) in
    either-plain (r % 1000000000 == 0) (decimal (r / 1000000000)) (decimal (r / 1000000000) ++ 46 ∷ nine_digits (r % 1000000000)) seconds
    (plain-append cuts (decimal (r / 1000000000)) (46 ∷ nine_digits (r % 1000000000)) seconds rest)

asked-plain : (asked : Option ℕ) → IsAsked asked → IsPlain (asked_text asked)
asked-plain None h = refl
asked-plain (Some r) h = reading-plain r h

-- ---- ids

three-plain : (id : ℕ) → id < 18446744073709551614 → IsPlain (ids_text (three_from id))
three-plain id lt =
    let first = decimal-plain id (omega (arith, lt)) in
    let second = decimal-plain (id + 1) (omega (arith, lt)) in
    let third = decimal-plain (id + 2) (omega (arith, lt)) in
    plain-append cuts (decimal id) (44 ∷ (decimal (id + 1) ++ 44 ∷ decimal (id + 2))) first
    (plain-append cuts (decimal (id + 1)) (44 ∷ decimal (id + 2)) second third)

ids-plain : (generations : List Generation) → AreTold generations → IsPlain (ids_text generations)
ids-plain [] h = refl
ids-plain (g ∷ gs) h = subst (λ (l : List Generation). IsPlain (ids_text l)) (sym h.1) (three-plain g.id h.0)

-- ---- data

at-plain : (xs : List ℕ) (i : ℕ) → list_any cuts xs ≡ false → cuts (get_or xs i 0) ≡ false
at-plain [] i h = refl
at-plain (x ∷ xs) zero h = (or_parts (cuts x) (list_any cuts xs) h).0
at-plain (x ∷ xs) (suc i) h = at-plain xs i (or_parts (cuts x) (list_any cuts xs) h).1

hex-plain : (bytes : List ℕ) → IsPlain (encode_lower bytes)
unfolding encode_with
hex-plain [] = refl
hex-plain (b ∷ bytes) =
    or_from (cuts (get_or lower_digits (b / 16) 0)) (cuts (get_or lower_digits (b % 16) 0) || list_any cuts (encode_lower bytes)) (at-plain lower_digits (b / 16) refl)
    (or_from (cuts (get_or lower_digits (b % 16) 0)) (list_any cuts (encode_lower bytes)) (at-plain lower_digits (b % 16) refl) (hex-plain bytes))

data-plain : (bytes : List ℕ) → IsPlain (data_text bytes)
data-plain [] = refl
data-plain (b ∷ bytes) = hex-plain (b ∷ bytes)

-- ---- names and texts

id-bytes : (k : EntityType) (id : List ℕ) → is_id k id ≡ true → list_all is_id_byte id ≡ true
id-bytes k id h =
    (and_parts (nat_le (length id) 64) (list_all is_id_byte id) (and_parts (same_kind k Mon || nat_le 1 (length id)) (nat_le (length id) 64 && list_all is_id_byte id) h).1).1

name-plain : (n : Name) → IsTrue (is_id n.kind n.id) → IsPlain (name_text n)
name-plain n h =
    plain-append cuts (type_word n.kind) (46 ∷ n.id) (type-plain n.kind) (all-none is_id_byte cuts id-plain n.id (id-bytes n.kind n.id h))

node-plain : (n : NodeName) → IsWritable n → IsPlain (node_text n)
node-plain node.Monitor h = refl
node-plain (node.Entity name) h = name-plain name h

long-plain : (text : List ℕ) → is_long_part text ≡ true → IsPlain text
long-plain text h =
    all-none is_part_byte cuts part-plain text
    (and_parts (not (bytes_eq text (codes "-")) && nat_le 1 (length text) && nat_le (length text) 255) (list_all is_part_byte text) h).1

part-word-plain : (text : List ℕ) → IsTrue (is_part text) → IsPlain (part_word text)
part-word-plain [] h = refl
part-word-plain (b ∷ bs) h = long-plain (b ∷ bs) h

caps-word : (text : List ℕ) → IsTrue (is_caps text) → IsWord (quoted text)
caps-word text h = inr (text, refl, all-none is_caps_byte closes caps-closed text (and_parts (nat_le (length text) 4096) (list_all is_caps_byte text) h).1)

-- ---- any value

number-word : (digits : List ℕ) (n : ℕ) → digits ≡ decimal n → n < 2 ^ 64 → IsPlain digits
number-word digits n is lt = rw is (decimal-plain n lt)

pub item-word : (counted : CountedAbove) (item : JournalItem) → counted.issued + 1 < 2 ^ 64 → counted.cookies + 1 < 2 ^ 64 → IsItem counted item → IsWord (item_word item)
item-word counted (NumberOf n) few low h = inl (decimal-plain n h)
item-word counted (ShortOf n) few low h = inl (decimal-plain n (omega (arith, h)))
item-word counted (ByteOf n) few low h = inl (decimal-plain n (omega (arith, h)))
item-word counted (NextOf digits) few low h = inl (number-word digits (counted.issued + 1) h few)
item-word counted (ReadingOf r) few low h = inl (reading-plain r h)
item-word counted (AskedOf asked) few low h = inl (asked-plain asked h)
item-word counted (EntityOf n) few low h = inl (name-plain n h)
item-word counted (NodeOf n) few low h = inl (node-plain n h)
item-word counted (TypeOf k) few low h = inl (type-plain k)
item-word counted (CapsOf caps) few low h = caps-word caps h
item-word counted (IdsOf gs) few low h = inl (ids-plain gs h)
item-word counted (CookieOf rank) few low h = inl (decimal-plain rank (omega (arith, h.1, low)))
item-word counted (AccessOf a) few low h = inl (access-plain a)
item-word counted (PartOf part) few low h = inl (part-word-plain part h)
item-word counted (DataOf bytes) few low h = inl (data-plain bytes)
item-word counted (OutcomeOf o) few low h = inl (outcome-plain o)
item-word counted (PremiseOf p) few low h = inl (premise-plain p)
item-word counted (KeyKindOf k) few low h = inl (kind-plain k)
item-word counted (ReasonOf f) few low h = inl (reason-plain f)
item-word counted FullWord few low h = inl refl
item-word counted FullBookWord few low h = inl refl
item-word counted (TicketOf digits) few low (k, small, is) = inl (number-word digits k is (omega (arith, small, few)))
item-word counted (VerbOf v) few low h = inl (verb-plain v)
item-word counted (AdminOutcomeOf a) few low h = inl (admin-plain a)
