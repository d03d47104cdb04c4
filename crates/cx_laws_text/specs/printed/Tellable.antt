-- Which entries a line can tell: each of their values has a printed form that is read again.
use Rattle.std.specs.Prelude.{ℕ, ◌<◌, ◌^◌, IsTrue, List}
use Rattle.std.specs.List.{AllByRecursion}
use Rattle.cx_base.specs.Texts.{is_caps, is_part}
use Rattle.cx_words.specs.lines.Named.{is_name}
use Rattle.cx_words.specs.lines.Values.{IsWritable}
use Rattle.cx_journal.specs.declared.entries.Entry.{Entry}
use Rattle.cx_audit_text.specs.words.Items.{AreTold, IsAsked, JournalItem, AskedOf, ByteOf, CapsOf, DataOf, EntityOf, IdsOf, NodeOf, NumberOf, PartOf, ReadingOf, ShortOf}
use Rattle.cx_audit_text.specs.lines.Lines.{entry_items}
use Rattle.cx_laws_text.specs.told.Told.{ids_told}

-- a value as its type has it: a number of its size, a name, bytes; of generations none, or three whose ids rise by one
abbrev pub IsOfType : JournalItem → Type 0
IsOfType (NumberOf n) = n < 2 ^ 64
IsOfType (ShortOf n) = n < 4294967296
IsOfType (ByteOf n) = n < 256
IsOfType (EntityOf name) = IsTrue (is_name name)
IsOfType (NodeOf node) = IsWritable node
IsOfType (IdsOf generations) = AreTold (ids_told generations)
IsOfType (DataOf bytes) = AllByRecursion (λ (b : ℕ). b < 256) bytes
IsOfType _ = Unit {0}

-- a value that no type bounds: a reading below 18,446,744,073 s, a capability text, part of an address
abbrev pub IsBounded : JournalItem → Type 0
IsBounded (ReadingOf reading) = reading < 18446744073000000000
IsBounded (AskedOf asked) = IsAsked asked
IsBounded (CapsOf caps) = IsTrue (is_caps caps)
IsBounded (PartOf part) = IsTrue (is_part part)
IsBounded _ = Unit {0}

-- the entries have values of their types
abbrev pub AreOfTypes : List Entry → Type 0
AreOfTypes entries = AllByRecursion (λ (e : Entry). AllByRecursion IsOfType (entry_items e)) entries

-- and within those bounds
abbrev pub AreBounded : List Entry → Type 0
AreBounded entries = AllByRecursion (λ (e : Entry). AllByRecursion IsBounded (entry_items e)) entries
