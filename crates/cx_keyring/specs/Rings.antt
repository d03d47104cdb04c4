-- Keyrings as texts: what bytes mean, why they are none, and how a keyring is printed (Ceph's "user management": keyring
-- files, with the faults of this project's profile).
use Rattle.std.specs.Prelude.{ℕ, ◌<◌, ◌≡◌, ◌⊎◌, List, [], length, codes, Some, Result, Ok, Err, IsTrue}
use Rattle.std.specs.List.{flat_map}
use Rattle.cx_base.specs.Joined.{◌<>◌}
use Rattle.cx_base.specs.Names.{is_id, name_text, type_word}
use Rattle.cx_keyring.specs.declared.entries.Entry.{Entry}
use Rattle.cx_base.specs.declared.grants.Grant.{Grant}
use Rattle.cx_keyring.specs.declared.refusals.KeyringRefusal.{KeyringRefusal}
use Rattle.cx_keyring.specs.declared.refusals.KeyringRefusal.TheVariants.{BadLine, TooMany, OutOfMemory}
use Rattle.cx_keyring.specs.Entries.{IsKeyring}
use Rattle.cx_keyring.specs.Faults.{first_bad}
use Rattle.cx_keyring.specs.Keys.{key_text, HasText}
use Rattle.cx_keyring.specs.Lines.{lines_said}

-- the bytes are a keyring of these entries
abbrev pub KeyringText : List ℕ → List Entry → Type 0
KeyringText bytes ring = IsKeyring (lines_said bytes) ring

-- why bytes are not read as a keyring: this line is the first that is wrong, or they are a keyring of more entries than may
-- be; want of memory is free
abbrev pub IsKeyringCause : List ℕ → KeyringRefusal → Type 0
IsKeyringCause bytes (BadLine n why) = first_bad [] (lines_said bytes) ≡ Some (n, why)
IsKeyringCause bytes (TooMany limit) = (limit ≡ 4096) × (ring : List Entry) × KeyringText bytes ring × (4096 < length ring)
IsKeyringCause bytes OutOfMemory = Unit {0}

-- why they are not read where memory isn't wanting
abbrev pub IsReason : List ℕ → KeyringRefusal → Type 0
IsReason bytes (BadLine n why) = IsKeyringCause bytes (BadLine n why)
IsReason bytes (TooMany limit) = IsKeyringCause bytes (TooMany limit)
IsReason bytes OutOfMemory = ⊥

-- the answer is this refusal, or want of memory
abbrev pub Refuses : {X : Type 0} → Result X KeyringRefusal → KeyringRefusal → Type 0
Refuses (Ok x) why = ⊥
Refuses (Err got) why = (got ≡ OutOfMemory) ⊎ (got ≡ why)

-- the printed form of an entry's caps for one service
abbrev pub printed_grant : Grant → List ℕ
printed_grant grant = codes "\tcaps " <> type_word grant.service <> codes " = \"" <> grant.caps <> codes "\"\n"

-- the printed form of an entry's name and key
abbrev pub printed_head : Entry → List ℕ
printed_head entry = codes "[" <> name_text entry.name <> codes "]\n\tkey = " <> key_text entry.key <> codes "\n"

abbrev pub printed_entry : Entry → List ℕ
printed_entry entry = printed_head entry <> flat_map printed_grant entry.caps

-- the printed form of a keyring: its entries in order, each with its key and then its caps in order
abbrev pub printed_keyring : List Entry → List ℕ
printed_keyring ring = flat_map printed_entry ring

-- its name and its key have a printed form that is read again
abbrev pub IsPrintable : Entry → Type 0
IsPrintable entry = IsTrue (is_id entry.name.kind entry.name.id) × HasText entry.key
