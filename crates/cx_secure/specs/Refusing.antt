-- What a refusal of a frame is here, and what the calls that want memory answer.
use Rattle.std.specs.Prelude.{◌≡◌, Result, Ok, Err, Option, Some}
use Rattle.cx_frame.specs.declared.refusals.FrameRefusal.{FrameRefusal}
use Rattle.cx_frame.specs.declared.refusals.FrameRefusal.TheVariants as plain
use Rattle.cx_secure.specs.declared.refusals.SecureRefusal.{SecureRefusal}
use Rattle.cx_secure.specs.declared.refusals.SecureRefusal.TheVariants.{BadCrc, BadShape, TooLong, Aborted, OutOfMemory}

abbrev pub secured : FrameRefusal → SecureRefusal
secured plain.BadCrc = BadCrc
secured plain.BadShape = BadShape
secured (plain.TooLong n) = TooLong n
secured plain.Aborted = Aborted
secured plain.OutOfMemory = OutOfMemory

-- the answer is this one, unless memory was wanting
abbrev pub Agrees : {X : Type 0} → Result X SecureRefusal → Result X SecureRefusal → Type 0
Agrees (Ok x) expected = expected ≡ Ok x
Agrees (Err OutOfMemory) expected = Unit {0}
Agrees (Err e) expected = expected ≡ Err e

-- this is the refusal that there is, unless memory was wanting
abbrev pub IsRefusal : Option SecureRefusal → SecureRefusal → Type 0
IsRefusal expected OutOfMemory = Unit {0}
IsRefusal expected e = expected ≡ Some e
