-- Messages and acknowledgements ("msgr2 protocol": message frames, ACK), at either end of an open link: how they are written, how they are
-- read, and several frames in one piece.
use Rattle.std.specs.Prelude.{ℕ, ◌==◌, Bool, List, [], ◌∷◌, ◌++◌, length, Option, Some, None, Result, Ok, Err, if◌then◌else◌}
use Rattle.std.specs.List.{list_all}
use Rattle.cx_login.specs.cx_control.specs.Upkeep.{ack_layout, keepalive2_layout, keepalive2_ack_layout}
use Rattle.cx_login.specs.cx_enc.specs.Forms.{Form}
use Rattle.cx_stream.specs.cx_frame.specs.declared.frame.Frame.{Frame}
use Rattle.cx_stream.specs.cx_frame.specs.declared.frame.Segment.{Segment}
use Rattle.cx_login.specs.cx_journal.specs.declared.faults.BytesFault.{BytesFault}
use Rattle.cx_login.specs.cx_journal.specs.declared.faults.BytesFault.TheVariants.{Malformed, Unexpected}
use Rattle.cx_login.specs.cx_wire.specs.Codes.{other_code}
use Rattle.cx_login.specs.cx_wire.specs.Headers.{Fields, header_layout, kept_header, written_header}
use Rattle.cx_login.specs.cx_wire.specs.declared.headers.Header.{Header}
use Rattle.cx_rules.specs.Payloads.{control, payload, whole}
use Rattle.cx_rules.specs.Rows.{Arrival, Row}
use Rattle.cx_rules.specs.Secured.{Keys, SealedFrame, Secured, secure_frame}
use Rattle.cx_rules.specs.Upkeep.{on_keepalive, on_keepalive_ack}
use Rattle.cx_rules.specs.declared.messages.Body.{Body}
use Rattle.cx_rules.specs.declared.messages.Body.TheVariants.{Spelled, OtherCode, Misspelled}

-- a message: its header, and its body
pub record Message : Type 0 where
  pub header : Header
  pub body : List ℕ

-- ---- written

-- bytes as a segment, aligned to 8
abbrev pub segment : List ℕ → Segment
segment bytes = record { align = 8; bytes = bytes }

-- MESSAGE: the header, and the body behind it
abbrev pub message : Header → List ℕ → Frame
message header body = record { tag = 17; segments = segment (header_layout.form.text (written_header header)) ∷ segment body ∷ [] }

-- ACK: the seq of the last message that was taken
abbrev pub acknowledgement : ℕ → Frame
acknowledgement seq = control 20 ack_layout.form (record { seq = seq })

-- ---- read

-- a third and a fourth segment may stand, and have to be empty: what stands in them is left over behind the 41 bytes of the header
abbrev pub is_empty : Segment → Bool
is_empty s = length s.bytes == 0

abbrev pub message_by : List ℕ → List Segment → Result Fields BytesFault → Result Message BytesFault
message_by body more (Err why) = Err why
message_by body more (Ok fields) = if list_all is_empty more then Ok (record { header = kept_header fields; body = body }) else Err (Malformed 41)

-- the first segment is the header, read to its end, and the second one the body; a message has both
abbrev pub message_of : List Segment → Result Message BytesFault
message_of (first ∷ second ∷ more) = message_by second.bytes more (whole header_layout.form first.bytes)
message_of _ = Err (Unexpected 17)

-- the message of a frame; no other frame is due
abbrev pub message_in : Frame → Result Message BytesFault
message_in f = if f.tag == 17 then message_of f.segments else Err (Unexpected f.tag)

-- what a body of message 17 or 18 says: a value; or it has another code than these have, whatever else is wrong with it; or it can't be read
abbrev pub body_by : {X : Type 0} → Option ℕ → Result X BytesFault → Body X
body_by code (Ok x) = Spelled x
body_by (Some code) (Err why) = OtherCode
body_by None (Err why) = Misspelled why

abbrev pub body_as : {X : Type 0} → Form X → List ℕ → Body X
body_as form bytes = body_by (other_code bytes) (whole form bytes)

-- ---- on an open link

-- a frame on an open link: a keepalive, as ever, or one for the row of all others
abbrev pub on_upkeep_or : {Own Stage : Type 0} → (Frame → Row Own Stage) → Arrival Own Stage → Secured → (Secured → Stage) → Frame → Row Own Stage
on_upkeep_or other a s open_under f =
    if f.tag == 18 then on_keepalive a s open_under (payload keepalive2_layout.form f)
    else if f.tag == 19 then on_keepalive_ack a s open_under (payload keepalive2_ack_layout.form f)
    else other f

-- ---- several frames in one piece

-- a frame is sealed, and then what follows it; where it can't be, nothing is
abbrev pub sealed_then : Result SealedFrame BytesFault → (SealedFrame → Result SealedFrame BytesFault) → Result SealedFrame BytesFault
sealed_then (Ok one) next = next one
sealed_then (Err why) next = Err why

-- sealed frames behind earlier ones: their bytes and their entries of the log follow, and the keys are those behind the last
abbrev pub sealed_behind : SealedFrame → Result SealedFrame BytesFault → Result SealedFrame BytesFault
sealed_behind before (Ok s) = Ok (record { bytes = before.bytes ++ s.bytes; seals = before.seals ++ s.seals; keys = s.keys })
sealed_behind before (Err why) = Err why

-- all of these frames in their order, or none
abbrev pub secure_frames : Keys → List Frame → Result SealedFrame BytesFault
secure_frames keys [] = Ok (record { bytes = []; seals = []; keys = keys })
secure_frames keys (f ∷ fs) = sealed_then (secure_frame keys f) (λ one. sealed_behind one (secure_frames one.keys fs))
