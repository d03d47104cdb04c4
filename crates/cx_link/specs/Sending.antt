-- What is sent on a link, and what is logged of it.
use Rattle.std.specs.Prelude.{ℕ, ◌≡◌, ◌≤◌, List, ◌++◌, length, Result, Ok, Err}
use Rattle.cx_frame.specs.declared.frame.Frame.{Frame}
use Rattle.cx_journal.specs.declared.faults.BytesFault.{BytesFault}
use Rattle.cx_journal.specs.declared.premises.KeyKind.TheVariants as kind
use Rattle.cx_rules.specs.Acceptor.{Finished}
use Rattle.cx_rules.specs.Secured.{SealedFrame, Secured}
use Rattle.cx_steps.specs.declared.seals.SealEntry.{SealEntry}
use Rattle.cx_steps.specs.declared.seals.SealEntry.TheVariants as entry
use Rattle.cx_rules.specs.cx_secure.specs.declared.sealing.SealedAhead.{SealedAhead}
use Rattle.cx_link.specs.Wires.{SecureWire}
use Rattle.cx_link.specs.declared.links.AheadFrame.{AheadFrame}
use Rattle.cx_link.specs.declared.links.Finished.{Finished as FinishedLink}
use Rattle.cx_link.specs.declared.links.SentFrame.{SentFrame}
use Rattle.cx_link.specs.declared.links.Signing.{Signing}
use Rattle.cx_link.specs.declared.refusals.LinkRefusal.{LinkRefusal}
use Rattle.cx_link.specs.declared.refusals.LinkRefusal.TheVariants.{Fault, OutOfMemory}

-- a control frame has one segment
pub record IsControl (f : Frame) : Type 0 where
  pub tag_low : 1 ≤ f.tag
  pub tag_high : f.tag ≤ 20
  pub one : length f.segments ≡ 1

-- a part that opened, and one that was sealed, under the key of a connection
abbrev pub opened_entry : List ℕ → List ℕ → SealEntry
opened_entry key content = entry.Opened (record { key = key; kind = kind.Connection; content = content })

abbrev pub sealed_entry : List ℕ → List ℕ → SealEntry
sealed_entry key content = entry.Sealed (record { key = key; kind = kind.Connection; content = content })

-- the link behind authentication, as the rules see it
abbrev pub secured_of : Signing → Secured
secured_of s = record { keys = s.link.keys; session = s.session; covered = s.covered }

-- a frame was sealed so, and the link goes on behind it with the bytes that it had, unless memory was wanting
abbrev pub Sends : List ℕ → Result SentFrame LinkRefusal → Result SealedFrame BytesFault → Type 0
Sends ahead (Ok s) expected =
    (expected ≡ Ok (record { bytes = s.bytes; seals = s.seals; keys = s.link.keys })) × (s.link.ahead ≡ ahead)
Sends ahead (Err (Fault why)) expected = expected ≡ Err why
Sends ahead (Err OutOfMemory) expected = Unit {0}

-- the link behind a frame that was sealed ahead on it
abbrev pub behind_ahead : SecureWire → SealedAhead → SecureWire
behind_ahead link a = record link { keys = record link.keys { out = record link.keys.out { counter = a.next } } }

-- a frame was sealed ahead so, under the counter at which the link stands, unless memory was wanting
abbrev pub SealsAhead : SecureWire → Result AheadFrame LinkRefusal → Result SealedFrame BytesFault → Type 0
SealsAhead link (Ok s) expected =
    (expected ≡ Ok (record { bytes = s.bytes; seals = s.seals; keys = (behind_ahead link s.ahead).keys })) × (s.ahead.from ≡ link.keys.out.counter)
SealsAhead link (Err (Fault why)) expected = expected ≡ Err why
SealsAhead link (Err OutOfMemory) expected = Unit {0}

-- with these entries before those of the frame
abbrev pub logged_behind : List SealEntry → Result SealedFrame BytesFault → Result SealedFrame BytesFault
logged_behind before (Ok s) = Ok (record s { seals = before ++ s.seals })
logged_behind before (Err why) = Err why

-- an acceptor's link is finished so
abbrev pub Finishes : List ℕ → Result FinishedLink LinkRefusal → Result Finished BytesFault → Type 0
Finishes ahead (Ok f) expected =
    (expected ≡ Ok (record { bytes = f.bytes; seals = f.seals; secured = secured_of f.signing })) × (f.signing.link.ahead ≡ ahead)
Finishes ahead (Err (Fault why)) expected = expected ≡ Err why
Finishes ahead (Err OutOfMemory) expected = Unit {0}

-- what a connector's link holds behind its AUTH_SIGNATURE: the session key, what it sent before, and the bytes that it had
pub record Awaits (session sent bytes : List ℕ) (s : Signing) : Type 0 where
  pub key : s.session ≡ session
  pub before : s.covered ≡ sent
  pub ahead : s.link.ahead ≡ bytes

abbrev pub Signs : List ℕ → List ℕ → List ℕ → Result FinishedLink LinkRefusal → Result SealedFrame BytesFault → Type 0
Signs session sent bytes (Ok f) expected =
    (expected ≡ Ok (record { bytes = f.bytes; seals = f.seals; keys = f.signing.link.keys })) × Awaits session sent bytes f.signing
Signs session sent bytes (Err (Fault why)) expected = expected ≡ Err why
Signs session sent bytes (Err OutOfMemory) expected = Unit {0}
