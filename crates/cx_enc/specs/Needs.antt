-- How many bytes a field needs, and so which fault it has.
use Rattle.std.specs.Prelude.{ℕ, ◌≡◌, ◌+◌, ◌<◌, ◌≤◌, List, length, take, drop, Err, nat_lt, if◌then◌else◌}
use Rattle.std.specs.Int.{w32, from_le_bytes}
use Rattle.cx_enc.specs.declared.faults.ReadFault.{ReadFault}
use Rattle.cx_enc.specs.declared.faults.ReadFault.TheVariants.{Short, BadField}
use Rattle.cx_enc.specs.Forms.{Spot, Form}

-- a field that needs so many of the bytes that are left: where it needs more than there are, it falls short at its own
-- place; where they are there and it can't be read, it is a bad field at its own place
pub record IsField {X : Type 0} (f : Form X) (needs : List ℕ → ℕ) : Type 0 where
  pub short : (s : Spot) → length s.left < needs s.left → f.at s ≡ Err (Short s.place)
  pub there : (s : Spot) (e : ReadFault) → needs s.left ≤ length s.left → f.at s ≡ Err e → e ≡ BadField s.place

-- a blob needs its length, and then as many bytes as it says
abbrev pub blob_needs : List ℕ → ℕ
blob_needs bytes = if nat_lt (length bytes) 4 then 4 else 4 + from_le_bytes w32 (take 4 bytes)

-- a name needs the number of its type and a blob
abbrev pub name_needs : List ℕ → ℕ
name_needs bytes = 4 + blob_needs (drop 4 bytes)

-- the blob of a ticket needs a byte, an id and a blob
abbrev pub ticket_needs : List ℕ → ℕ
ticket_needs bytes = 9 + blob_needs (drop 9 bytes)
