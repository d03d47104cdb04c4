-- What the calls of a payload do: one statement of every reader and one of every writer.
use Rattle.std.specs.Prelude.{ℕ, ◌≡◌, List, ◌++◌, Result, Ok, Err, IfOk, IfErr, OnOk, OnErr}
use Rattle.std.specs.declared.alloc.AllocError.{AllocError}
use Rattle.cx_enc.specs.declared.faults.ReadFault.{ReadFault}
use Rattle.cx_enc.specs.Forms.{Spot, Form}
use Rattle.cx_enc.specs.Faults.{fault_place}
use Rattle.cx_enc.specs.Whole.{start, Spells, SpellsPart, IsReadAgain}
use Rattle.cx_control.specs.declared.refusals.WireRefusal.{WireRefusal}
use Rattle.cx_control.specs.declared.refusals.WireRefusal.TheVariants.{Malformed, OutOfMemory}

-- the place of the first field that can't be read; where each is read, the place behind the last
abbrev pub stop_of : {X : Type 0} → Result (X × Spot) ReadFault → ℕ
stop_of (Ok x) = x.1.place
stop_of (Err fault) = fault_place fault

-- why bytes are refused: they spell no value, and this is the place of the first field that can't be read, or the place where
-- bytes are left over; want of memory is free
abbrev pub IsRefusedFor : {X : Type 0} → Form X → List ℕ → WireRefusal → Type 0
IsRefusedFor {X} form bytes (Malformed place) = ((x : X) → Spells form bytes x → ⊥) × (place ≡ stop_of (form.at (start bytes)))
IsRefusedFor form bytes OutOfMemory = Unit {0}

-- the answer is this value, unless memory was wanting
abbrev pub Yields : {X : Type 0} → Result X WireRefusal → X → Type 0
Yields (Ok y) x = y ≡ x
Yields (Err e) x = e ≡ OutOfMemory

-- a reader: what it reads is spelled by all of the bytes; what all of the bytes spell is read; and why bytes are refused
pub record IsReadBy {X : Type 0} (form : Form X) (bytes : List ℕ) (result : Result X WireRefusal) : Type 0 where
  pub found : IfOk result (Spells form bytes)
  pub only : (x : X) → Spells form bytes x → Yields result x
  pub refused : IfErr result (IsRefusedFor form bytes)

-- a writer: it appends the one spelling of the value, which is read again, at any place and whatever follows; after a refusal
-- the bytes are as before
pub record IsPutBy {X : Type 0} (form : Form X) (x : X) (old new : List ℕ) (result : Result (Unit {0}) AllocError) : Type 0 where
  pub ok : OnOk result (new ≡ old ++ form.text x)
  pub spells : OnOk result (Spells form (form.text x) x)
  pub again : OnOk result (IsReadAgain form (form.text x) x)
  pub err : OnErr result (new ≡ old)

-- a reader of a value that keeps a part of what is spelled
pub record IsPartReadBy {V X : Type 0} (form : Form V) (kept : V → X) (bytes : List ℕ) (result : Result X WireRefusal) : Type 0 where
  pub found : IfOk result (SpellsPart form kept bytes)
  pub only : (v : V) → Spells form bytes v → Yields result (kept v)
  pub refused : IfErr result (IsRefusedFor form bytes)

-- a writer of such a value: it appends the spelling of a whole of which the value is the part that is kept
pub record IsWholePutBy {V X : Type 0} (form : Form V) (kept : V → X) (whole : V) (x : X) (old new : List ℕ) (result : Result (Unit {0}) AllocError) : Type 0 where
  pub ok : OnOk result (new ≡ old ++ form.text whole)
  pub spells : OnOk result (SpellsPart form kept (form.text whole) x)
  pub again : OnOk result (IsReadAgain form (form.text whole) whole)
  pub err : OnErr result (new ≡ old)
