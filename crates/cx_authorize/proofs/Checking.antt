-- What a check answers.
use Rattle.std.proofs.Common.{List, Ok, Err, sym, inr}
use Rattle.cx_steps.specs.declared.seals.SealEntry.{SealEntry}
use Rattle.cx_authorize.specs.Judging.{Judged, Judges, IsChecked}
use Rattle.cx_authorize.specs.declared.refusals.AuthRefusal.{AuthRefusal}
use Rattle.cx_authorize.specs.declared.judging.Shown.{Shown}

pub passed_by : {A : Type 0} (j : Judged AuthRefusal Shown) (Passes : Shown → A → Type 0) (old new : List SealEntry) (shown : Shown) (made : A)
    → Judges j old new (Ok (Ok shown)) → Passes shown made → IsChecked j Passes old new (Ok made)
passed_by j Passes old new shown made is passes = (shown, sym is.0, passes, is.1)

pub refused_by : {A : Type 0} (j : Judged AuthRefusal Shown) (Passes : Shown → A → Type 0) (old new : List SealEntry) (why : AuthRefusal)
    → Judges j old new (Ok (Err why)) → IsChecked {A = A} j Passes old new (Err why)
refused_by j Passes old new why is = inr (sym is.0, is.1)
