-- What holds of each row by which a turn may be handled.
use Rattle.std.proofs.Common.{List}
use Rattle.cx_login.specs.cx_steps.specs.declared.seals.SealEntry.{SealEntry}
use Rattle.cx_rules.specs.Fronts.{Front, NotYet, Broken, Next}
use Rattle.cx_rules.specs.Rows.{Row, Turned, Waits, Refuses, Handles, turned_by}

-- where a turn is handled by a row, this holds of the row
abbrev pub EachRow : {Own Stage : Type 0} → (Row Own Stage → Type 0) → Turned Own Stage → Type 0
EachRow P Waits = Unit {0}
EachRow P (Refuses why opened) = Unit {0}
EachRow P (Handles row) = P row

module _ {Own Stage X : Type 0} (P : Row Own Stage → Type 0) (row : X → List SealEntry → Row Own Stage) where
  pub each-turned : ((x : X) (opened : List SealEntry) → P (row x opened)) → (front : Front X) → EachRow P (turned_by row front)
  each-turned each NotYet = tt
  each-turned each (Broken why opened) = tt
  each-turned each (Next x opened) = each x opened
