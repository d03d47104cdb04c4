-- What a reader answers, against what a form reads.
use Rattle.std.specs.Prelude.{◌≡◌, Result, Ok, Err}
use Rattle.cx_enc.specs.declared.faults.ReadFault.{ReadFault}
use Rattle.cx_enc.specs.declared.cut.Cut.{Cut}
use Rattle.cx_enc.specs.Forms.{Spot}

-- where a cut stands
abbrev pub spot : Cut → Spot
spot cut = record { place = cut.place; left = cut.left.now }

-- the answer is what is read, seen by `view`: the value, and then the new spot is the one behind it; or the fault, and then
-- the spot is as before
abbrev pub ReadsAs : {X Y : Type 0} → (Y → X) → Spot → Spot → Result Y ReadFault → Result (X × Spot) ReadFault → Type 0
ReadsAs view old new (Ok y) read = read ≡ Ok (view y, new)
ReadsAs view old new (Err e) read = (read ≡ Err e) × (new ≡ old)

abbrev pub Reads : {X : Type 0} → Spot → Spot → Result X ReadFault → Result (X × Spot) ReadFault → Type 0
Reads old new answer read = ReadsAs (λ x. x) old new answer read

-- so many values were read and none is kept: the answer is as of a reader of them
abbrev pub Passes : {V : Type 0} → Spot → Spot → Result (Unit {0}) ReadFault → Result (V × Spot) ReadFault → Type 0
Passes {V} old new (Ok _) read = (v : V) × (read ≡ Ok (v, new))
Passes old new (Err e) read = (read ≡ Err e) × (new ≡ old)
