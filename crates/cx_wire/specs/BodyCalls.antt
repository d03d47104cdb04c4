-- What the readers of the bodies of messages 17 and 18 do.
use Rattle.std.specs.Prelude.{ℕ, ◌≡◌, List, Some, None, Result, Ok, Err, IfOk, IfErr}
use Rattle.cx_enc.specs.declared.cut.Cut.{Cut}
use Rattle.cx_enc.specs.declared.faults.ReadFault.{ReadFault}
use Rattle.cx_enc.specs.Forms.{Form, blob_form}
use Rattle.cx_enc.specs.Reading.{spot}
use Rattle.cx_enc.specs.Whole.{start, Spells}
use Rattle.cx_control.specs.Calls.{stop_of}
use Rattle.cx_wire.specs.Codes.{other_code}
use Rattle.cx_wire.specs.declared.refusals.BodyRefusal.{BodyRefusal}
use Rattle.cx_wire.specs.declared.refusals.BodyRefusal.TheVariants.{OtherCode, Malformed, OutOfMemory}

-- why a body is refused. It spells no value; and then, where its blob is whole and its first two bytes hold another code, for that
-- code; else at the first field that can't be read, or where bytes are left over
abbrev pub IsBodyRefusedFor : {X : Type 0} → Form X → List ℕ → BodyRefusal → Type 0
IsBodyRefusedFor {X} form bytes (OtherCode code) = ((x : X) → Spells form bytes x → ⊥) × (other_code bytes ≡ Some code)
IsBodyRefusedFor {X} form bytes (Malformed place) = ((x : X) → Spells form bytes x → ⊥) × (other_code bytes ≡ None) × (place ≡ stop_of (form.at (start bytes)))
IsBodyRefusedFor form bytes OutOfMemory = Unit {0}

-- the answer is this value, unless memory was wanting
abbrev pub Yields : {X : Type 0} → Result X BodyRefusal → X → Type 0
Yields (Ok y) x = y ≡ x
Yields (Err e) x = e ≡ OutOfMemory

-- a reader: what it reads is spelled by all of the bytes; what all of the bytes spell is read; and why bytes are refused
pub record IsBodyReadBy {X : Type 0} (form : Form X) (bytes : List ℕ) (result : Result X BodyRefusal) : Type 0 where
  pub found : IfOk result (Spells form bytes)
  pub only : (x : X) → Spells form bytes x → Yields result x
  pub refused : IfErr result (IsBodyRefusedFor form bytes)

-- a body that was opened: a cut stands before what its blob holds, at its place in the body, and one behind the blob
abbrev pub IsOpened : List ℕ → Result (Cut × Cut) ReadFault → Type 0
IsOpened bytes (Ok (content, behind)) = (blob_form.at (start bytes) ≡ Ok ((spot content).left, spot behind)) × ((spot content).place ≡ 4)
IsOpened bytes (Err fault) = blob_form.at (start bytes) ≡ Err fault
