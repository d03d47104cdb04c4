-- A value of its type that is within its bounds is one that a line can hold, whatever stands above it.
use Rattle.std.proofs.Common.{ℕ, ◌<◌, ◌^◌, IsTrue, List, [], ◌∷◌}
use Rattle.std.specs.List.{AllByRecursion}
use Rattle.cx_base.specs.Texts.{is_caps, is_part}
use Rattle.cx_words.specs.lines.Named.{is_name}
use Rattle.cx_words.specs.lines.Values.{IsWritable}
use Rattle.cx_journal.specs.declared.entries.Entry.{Entry}
use Rattle.cx_audit_text.specs.words.Items.{AreTold, IsAsked, JournalItem, AccessOf, AdminOutcomeOf, AskedOf, ByteOf, CapsOf, CookieOf, DataOf, EntityOf, FullBookWord, FullWord, IdsOf, KeyKindOf, NextOf, NodeOf, NumberOf, OutcomeOf, PartOf, PremiseOf, ReadingOf, ReasonOf, ShortOf, TicketOf, TypeOf, VerbOf}
use Rattle.cx_audit_text.specs.lines.Lines.{entry_items}
use Rattle.cx_laws_text.specs.told.Told.{ids_told}
use Rattle.cx_laws_text.specs.printed.Tellable.{AreBounded, AreOfTypes, IsBounded, IsOfType}

-- for a blob there is always a number, and for a cookie a rank
abbrev pub IsTellableItem : JournalItem → Type 0
IsTellableItem (NumberOf n) = n < 2 ^ 64
IsTellableItem (ShortOf n) = n < 4294967296
IsTellableItem (ByteOf n) = n < 256
IsTellableItem (ReadingOf reading) = reading < 18446744073000000000
IsTellableItem (AskedOf asked) = IsAsked asked
IsTellableItem (EntityOf name) = IsTrue (is_name name)
IsTellableItem (NodeOf node) = IsWritable node
IsTellableItem (CapsOf caps) = IsTrue (is_caps caps)
IsTellableItem (IdsOf generations) = AreTold (ids_told generations)
IsTellableItem (PartOf part) = IsTrue (is_part part)
IsTellableItem (DataOf bytes) = AllByRecursion (λ (b : ℕ). b < 256) bytes
IsTellableItem _ = Unit {0}

abbrev pub IsTellable : Entry → Type 0
IsTellable e = AllByRecursion IsTellableItem (entry_items e)

abbrev pub AreTellable : List Entry → Type 0
AreTellable entries = AllByRecursion IsTellable entries

tellable-item : (item : JournalItem) → IsOfType item → IsBounded item → IsTellableItem item
tellable-item (NumberOf x) t b = t
tellable-item (ShortOf x) t b = t
tellable-item (ByteOf x) t b = t
tellable-item (EntityOf x) t b = t
tellable-item (NodeOf x) t b = t
tellable-item (IdsOf x) t b = t
tellable-item (DataOf x) t b = t
tellable-item (ReadingOf x) t b = b
tellable-item (AskedOf x) t b = b
tellable-item (CapsOf x) t b = b
tellable-item (PartOf x) t b = b
tellable-item (NextOf x) t b = tt
tellable-item (TypeOf x) t b = tt
tellable-item (CookieOf x) t b = tt
tellable-item (AccessOf x) t b = tt
tellable-item (OutcomeOf x) t b = tt
tellable-item (PremiseOf x) t b = tt
tellable-item (KeyKindOf x) t b = tt
tellable-item (ReasonOf x) t b = tt
tellable-item (TicketOf x) t b = tt
tellable-item (VerbOf x) t b = tt
tellable-item (AdminOutcomeOf x) t b = tt
tellable-item FullWord t b = tt
tellable-item FullBookWord t b = tt

tellable-items : (items : List JournalItem) → AllByRecursion IsOfType items → AllByRecursion IsBounded items → AllByRecursion IsTellableItem items
tellable-items [] t b = tt
tellable-items (i ∷ is) t b = (tellable-item i t.0 b.0, tellable-items is t.1 b.1)

pub tellable : (entries : List Entry) → AreOfTypes entries → AreBounded entries → AreTellable entries
tellable [] t b = tt
tellable (e ∷ es) t b = (tellable-items (entry_items e) t.0 b.0, tellable es t.1 b.1)
