-- Why a link is given up.
use Rattle.std.specs.Prelude.{◌≡◌, Result, Ok, Err}
use Rattle.cx_frame.specs.declared.refusals.FrameRefusal.{FrameRefusal}
use Rattle.cx_frame.specs.declared.refusals.FrameRefusal.TheVariants as plain
use Rattle.cx_journal.specs.declared.faults.BytesFault.{BytesFault}
use Rattle.cx_rules.specs.Fronts.{banner_fault, plain_fault, secure_fault}
use Rattle.cx_rules.specs.cx_secure.specs.declared.refusals.SecureRefusal.{SecureRefusal}
use Rattle.cx_rules.specs.cx_secure.specs.declared.refusals.SecureRefusal.TheVariants as secure
use Rattle.cx_rules.specs.cx_stream.specs.declared.faults.StreamFault.{StreamFault}
use Rattle.cx_rules.specs.cx_stream.specs.declared.faults.StreamFault.TheVariants as stream
use Rattle.cx_link.specs.declared.refusals.LinkRefusal.{LinkRefusal}
use Rattle.cx_link.specs.declared.refusals.LinkRefusal.TheVariants.{Fault, OutOfMemory}

-- what refuses a plain frame, under the rules' name
abbrev pub plain_refusal : FrameRefusal → LinkRefusal
plain_refusal plain.OutOfMemory = OutOfMemory
plain_refusal refusal = Fault (plain_fault refusal)

-- a secure one
abbrev pub secure_refusal : SecureRefusal → LinkRefusal
secure_refusal secure.OutOfMemory = OutOfMemory
secure_refusal refusal = Fault (secure_fault refusal)

-- the bytes of a stream
abbrev pub stream_refusal : StreamFault → LinkRefusal
stream_refusal (stream.Banner refusal) = Fault (banner_fault refusal)
stream_refusal (stream.Plain refusal) = plain_refusal refusal
stream_refusal (stream.Secure refusal) = secure_refusal refusal

-- the answer is this one, unless memory was wanting
abbrev pub Agrees : {X : Type 0} → Result X LinkRefusal → Result X BytesFault → Type 0
Agrees (Ok x) expected = expected ≡ Ok x
Agrees (Err (Fault why)) expected = expected ≡ Err why
Agrees (Err OutOfMemory) expected = Unit {0}
