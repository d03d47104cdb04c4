-- What a reader that may want memory answers, and what a reader and a writer of all bytes do.
use Rattle.std.specs.Prelude.{ℕ, ◌≡◌, ◌≢◌, ◌+◌, List, [], ◌++◌, length, Result, Ok, Err}
use Rattle.cx_enc.specs.declared.faults.ReadRefusal.{ReadRefusal}
use Rattle.cx_enc.specs.declared.faults.ReadRefusal.TheVariants as refusals
use Rattle.cx_enc.specs.declared.faults.Misspelling.{Misspelling}
use Rattle.cx_enc.specs.declared.faults.Misspelling.TheVariants as misspellings
use Rattle.cx_enc.specs.declared.faults.ReadFault.{ReadFault}
use Rattle.cx_enc.specs.Forms.{Spot, ◌>>=◌, Form}

-- the answer is what is read: the value, and then the new spot is the one behind it; or the fault; where the answer is a
-- refusal, the new spot is free, and so is want of memory
abbrev pub Gives : {X : Type 0} → Spot → Result X ReadRefusal → Result (X × Spot) ReadFault → Type 0
Gives new (Ok x) read = read ≡ Ok (x, new)
Gives new (Err (refusals.Fault e)) read = read ≡ Err e
Gives new (Err (refusals.LeftOver place)) read = ⊥
Gives new (Err refusals.OutOfMemory) read = Unit {0}

-- the same of a reader that wants no memory
abbrev pub GivesInPlace : {X : Type 0} → Spot → Result X ReadFault → Result (X × Spot) ReadFault → Type 0
GivesInPlace new (Ok x) read = read ≡ Ok (x, new)
GivesInPlace new (Err e) read = read ≡ Err e

-- the same, where after a refusal the new spot is as before
abbrev pub Takes : {X : Type 0} → Spot → Spot → Result X ReadRefusal → Result (X × Spot) ReadFault → Type 0
Takes old new (Ok x) read = read ≡ Ok (x, new)
Takes old new (Err (refusals.Fault e)) read = (read ≡ Err e) × (new ≡ old)
Takes old new (Err (refusals.LeftOver place)) read = ⊥
Takes old new (Err refusals.OutOfMemory) read = new ≡ old

-- the beginning of some bytes
abbrev pub start : List ℕ → Spot
start bytes = record { place = 0; left = bytes }

-- all of the bytes spell the value
abbrev pub Spells : {X : Type 0} → Form X → List ℕ → X → Type 0
Spells form bytes x = form.Fits x × (bytes ≡ form.text x)

-- at any place, and whatever follows them, the bytes are read as this value, and the spot is then behind them
abbrev pub IsReadAgain : {X : Type 0} → Form X → List ℕ → X → Type 0
IsReadAgain form bytes x = (place : ℕ) (more : List ℕ)
    → form.at (record { place = place; left = bytes ++ more }) ≡ Ok (x, record { place = place + length bytes; left = more })

-- the place behind the value that the bytes begin with, where bytes are left over
abbrev pub IsLeftOver : {X : Type 0} → Form X → List ℕ → ℕ → Type 0
IsLeftOver {X} form bytes place = (x : X) × (next : Spot) × (form.at (start bytes) ≡ Ok (x, next)) × (next.left ≢ []) × (place ≡ next.place)

-- why bytes are refused: the first fault, or the place where bytes are left over; want of memory is free
abbrev pub IsRefusedBy : {X : Type 0} → Form X → List ℕ → ReadRefusal → Type 0
IsRefusedBy form bytes (refusals.Fault e) = form.at (start bytes) ≡ Err e
IsRefusedBy form bytes (refusals.LeftOver place) = IsLeftOver form bytes place
IsRefusedBy form bytes refusals.OutOfMemory = Unit {0}

-- the same of a reader that wants no memory
abbrev pub IsMisspelled : {X : Type 0} → Form X → List ℕ → Misspelling → Type 0
IsMisspelled form bytes (misspellings.Fault e) = form.at (start bytes) ≡ Err e
IsMisspelled form bytes (misspellings.LeftOver place) = IsLeftOver form bytes place

-- the answer is this value, unless memory was wanting
abbrev pub Yields : {X : Type 0} → Result X ReadRefusal → X → Type 0
Yields (Ok y) x = y ≡ x
Yields (Err e) x = e ≡ refusals.OutOfMemory

-- ---- a reader that is wider than its writer: the form reads a whole, of which the value keeps a part

abbrev pub part_at : {V X : Type 0} → (V → X) → Form V → Spot → Result (X × Spot) ReadFault
part_at kept whole s = whole.at s >>= λ a. Ok (kept a.0, a.1)

-- all of the bytes spell a whole of which this is the part
abbrev pub SpellsPart : {V X : Type 0} → Form V → (V → X) → List ℕ → X → Type 0
SpellsPart {V} form kept bytes x = (v : V) × Spells form bytes v × (kept v ≡ x)
