-- What an answer says of its value.
use Rattle.std.proofs.Common.{◌≡◌, Result, Ok, Err, refl}
use Rattle.std.specs.Prelude.{IfOk}
use Rattle.cx_frame.specs.declared.refusals.FrameRefusal.{FrameRefusal}
use Rattle.cx_frame.specs.Frames.{Agrees}

pub ok_from : {X E : Type 0} (r : Result X E) (Q : X → Type 0) → ((x : X) → r ≡ Ok x → Q x) → IfOk r Q
ok_from (Ok x) Q of = of x refl
ok_from (Err e) Q of = tt

pub agrees_ok : {X : Type 0} (r expected : Result X FrameRefusal) (Q : X → Type 0) → Agrees r expected → ((x : X) → expected ≡ Ok x → Q x) → IfOk r Q
agrees_ok (Ok x) expected Q is of = of x is
agrees_ok (Err e) expected Q is of = tt
