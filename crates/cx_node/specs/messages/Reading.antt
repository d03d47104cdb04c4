-- A message by its parts, as they are read.
use Rattle.std.specs.Prelude.{ℕ, List, [], ◌∷◌, Result, Ok, Err}
use Rattle.cx_frame.specs.declared.frame.Frame.{Frame}
use Rattle.cx_frame.specs.declared.frame.Segment.{Segment}
use Rattle.cx_journal.specs.declared.faults.BytesFault.{BytesFault}
use Rattle.cx_node.specs.cx_rules.specs.Messages.{Message}
use Rattle.cx_node.specs.cx_rules.specs.declared.messages.Body.{Body}
use Rattle.cx_node.specs.cx_rules.specs.declared.messages.Body.TheVariants.{Spelled, OtherCode, Misspelled}
use Rattle.cx_wire.specs.declared.headers.Header.{Header}

-- the second segment, or nothing
abbrev pub body_of : List Segment → List ℕ
body_of (first ∷ second ∷ more) = second.bytes
body_of _ = []

abbrev pub body_in : Frame → List ℕ
body_in f = body_of f.segments

-- the message of a header that was read, with its body
abbrev pub with_body : List ℕ → Result Header BytesFault → Result Message BytesFault
with_body body (Ok header) = Ok (record { header = header; body = body })
with_body body (Err why) = Err why

-- of a value that a body says
abbrev pub IfSpelled : {X : Type 0} → (X → Type 0) → Body X → Type 0
IfSpelled P (Spelled x) = P x
IfSpelled P OtherCode = Unit {0}
IfSpelled P (Misspelled why) = Unit {0}
