-- Payloads of control frames and of the method: read to their end or refused at a place, and written.
use Rattle.std.specs.Prelude.{ℕ, ◌==◌, List, [], ◌∷◌, Result, Ok, Err, if◌then◌else◌}
use Rattle.cx_login.specs.cx_enc.specs.Forms.{Spot, Form}
use Rattle.cx_login.specs.cx_enc.specs.Faults.{fault_place}
use Rattle.cx_login.specs.cx_enc.specs.Whole.{start}
use Rattle.cx_login.specs.cx_enc.specs.declared.faults.ReadFault.{ReadFault}
use Rattle.cx_stream.specs.cx_frame.specs.declared.frame.Frame.{Frame}
use Rattle.cx_stream.specs.cx_frame.specs.declared.frame.Segment.{Segment}
use Rattle.cx_login.specs.cx_journal.specs.declared.faults.BytesFault.{BytesFault}
use Rattle.cx_login.specs.cx_journal.specs.declared.faults.BytesFault.TheVariants.{Malformed, Unexpected}

-- ---- read

abbrev pub unless_left : {X : Type 0} → X → ℕ → List ℕ → Result X BytesFault
unless_left x place [] = Ok x
unless_left x place (_ ∷ _) = Err (Malformed place)

abbrev pub to_end : {X : Type 0} → Result (X × Spot) ReadFault → Result X BytesFault
to_end (Ok (x, behind)) = unless_left x behind.place behind.left
to_end (Err fault) = Err (Malformed (fault_place fault))

-- all of some bytes as one value; else the place of the first field that can't be read, or where bytes are left over
abbrev pub whole : {X : Type 0} → Form X → List ℕ → Result X BytesFault
whole form bytes = to_end (form.at (start bytes))

-- the payload of a control frame, which has one segment
abbrev pub in_segments : {X : Type 0} → ℕ → Form X → List Segment → Result X BytesFault
in_segments tag form (segment ∷ []) = whole form segment.bytes
in_segments tag form _ = Err (Unexpected tag)

abbrev pub payload : {X : Type 0} → Form X → Frame → Result X BytesFault
payload form frame = in_segments frame.tag form frame.segments

-- the payload of the one control frame that is due
abbrev pub due : {X : Type 0} → ℕ → Form X → Frame → Result X BytesFault
due tag form frame = if frame.tag == tag then payload form frame else Err (Unexpected frame.tag)

-- ---- written

-- a control frame: its one segment, aligned to 8
abbrev pub control : {X : Type 0} → ℕ → Form X → X → Frame
control tag form x = record { tag = tag; segments = record { align = 8; bytes = form.text x } ∷ [] }
