-- What is read at the front of some bytes: a frame and its length, or nothing where it isn't all there yet.
use Rattle.std.specs.Prelude.{ℕ, List, [], ◌∷◌, Option, Some, None, Result, Ok, Err}
use Rattle.cx_frame.specs.declared.frame.Frame.{Frame}

unfoldable pub with_length : {E : Type 0} → ℕ → Result Frame E → Result (Option (Frame × ℕ)) E
with_length n (Ok f) = Ok (Some (f, n))
with_length n (Err e) = Err e

-- the frame without its length
abbrev pub frame_in : {E : Type 0} → Result (Option (Frame × ℕ)) E → Result (Option Frame) E
frame_in (Ok (Some x)) = Ok (Some x.0)
frame_in (Ok None) = Ok None
frame_in (Err e) = Err e

-- the frames that an answer gives
abbrev pub given_by : {E : Type 0} → Result (Option Frame) E → List Frame
given_by (Ok (Some f)) = f ∷ []
given_by (Ok None) = []
given_by (Err e) = []
