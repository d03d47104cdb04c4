-- A frame is sealed where counters are left for its parts and it isn't too long; and how long frames are.
use Rattle.std.proofs.Common.{◌≡◌, ℕ, ◌+◌, ◌^◌, ◌≤◌, ◌<◌, List, [], ◌∷◌, ◌++◌, length, Result, Ok, refl, ap, ◌∙◌, append-nil, arith, length-append}
use Rattle.std.specs.Int.{w16, w32, w64}
use Rattle.std.proofs.lemmas.List.Sums.{sum_by-cons}
use Rattle.cx_session.specs.cx_base.specs.declared.operations.Operation.{Operation}
use Rattle.cx_authorize.specs.cx_control.specs.Reconnects.{session_reconnect_ok_layout}
use Rattle.cx_authorize.specs.cx_control.specs.Upkeep.{ack_layout}
use Rattle.cx_desk.specs.Handlers.{answer_of}
use Rattle.cx_authorize.specs.cx_enc.specs.Forms.{Form, little}
use Rattle.cx_rules.specs.cx_frame.specs.Frames.{total}
use Rattle.cx_rules.specs.cx_frame.specs.Preambles.{length_of}
use Rattle.cx_rules.specs.cx_frame.specs.declared.frame.Frame.{Frame}
use Rattle.cx_rules.specs.cx_frame.specs.declared.frame.Segment.{Segment}
use Rattle.cx_authorize.specs.cx_journal.specs.declared.faults.BytesFault.{BytesFault}
use Rattle.cx_authorize.specs.cx_journal.specs.declared.outcomes.Outcome.TheVariants.{Done}
use Rattle.cx_authorize.specs.cx_wire.specs.Bodies.{request_layout}
use Rattle.cx_authorize.specs.cx_wire.specs.Headers.{header_layout, written_header}
use Rattle.cx_authorize.specs.cx_wire.specs.Operations.{answer_layout, operation_layout}
use Rattle.cx_authorize.specs.cx_wire.specs.declared.bodies.Request.TheVariants as asked
use Rattle.cx_authorize.specs.cx_wire.specs.declared.headers.Header.{Header}
use Rattle.cx_rules.specs.Messages.{acknowledgement, message, sealed_behind, sealed_then, secure_frames}
use Rattle.cx_rules.specs.Payloads.{control}
use Rattle.cx_rules.specs.Requests.{request_message}
use Rattle.cx_rules.specs.Secured.{Keys, SealedFrame, sealed_under, secure_frame}
use Rattle.cx_rules.proofs.Carrying.{total-control, total-message}
use Rattle.cx_rules.proofs.Sizes.{few-parts, secure-sent}
use Rattle.cx_rules_session.specs.Complete.{HasCounters, IsSizedOperation, both_sealed}
use Rattle.cx_rules_session.specs.Sessions.{operation_message}
use Rattle.cx_rules_session.specs.Hosting.{Instruction, answer_message, reconnect_ok}

pub frame-sealed : (keys : Keys) (f : Frame) → keys.out.counter + 3 < 2 ^ 64 → total f ≤ 1048576 → secure_frame keys f ≡ Ok (sealed_under keys f)
frame-sealed keys f room short = secure-sent keys f (omega (arith, few-parts f, room)) short

-- two frames in one piece
pub both-sealed : (keys : Keys) (f g : Frame) → HasCounters keys 2 → total f ≤ 1048576 → total g ≤ 1048576
    → (sealed : SealedFrame) × (secure_frames keys (f ∷ g ∷ []) ≡ Ok sealed) × (sealed.bytes ≡ both_sealed keys f g)
both-sealed keys f g room first second =
    let one : SealedFrame = sealed_under keys f in
    let two : SealedFrame = sealed_under one.keys g in
    let after : Result SealedFrame BytesFault → Result SealedFrame BytesFault = λ r. sealed_then r (λ s. sealed_behind s (secure_frames s.keys (g ∷ []))) in
    let last : Result SealedFrame BytesFault → Result SealedFrame BytesFault = λ r. sealed_behind one (sealed_then r (λ s. sealed_behind s (Ok (record { bytes = []; seals = []; keys = s.keys })))) in
    let room_1 : keys.out.counter + 3 < 2 ^ 64 = omega (arith, room) in
    let room_2 : one.keys.out.counter + 3 < 2 ^ 64 = omega (arith, room, few-parts f) in (
      record { bytes = one.bytes ++ (two.bytes ++ []); seals = one.seals ++ (two.seals ++ []); keys = two.keys },
      ap after (frame-sealed keys f room_1 first) ∙ ap last (frame-sealed one.keys g room_2 second),
      ap (λ bytes. one.bytes ++ bytes) (append-nil two.bytes),
    )

-- ---- how long frames are

pub short-ack : (seq : ℕ) → total (acknowledgement seq) ≤ 1048576
unfolding little
short-ack seq =
    let size : length (ack_layout.form.text (record { seq = seq })) ≡ 8 = refl in
    omega (arith, total-control 20 ack_layout.form (record { seq = seq }), size)

pub short-reconnect_ok : (seq : ℕ) → total (reconnect_ok seq) ≤ 1048576
unfolding little
short-reconnect_ok seq =
    let size : length (session_reconnect_ok_layout.form.text (record { seq = seq })) ≡ 8 = refl in
    omega (arith, total-control 15 session_reconnect_ok_layout.form (record { seq = seq }), size)

pub short-answer : (i : Instruction) → length (answer_of i.operation.access i.operation) ≤ 65536 → total (answer_message i Done) ≤ 1048576
unfolding little
short-answer i short =
    let bytes : List ℕ = answer_of i.operation.access i.operation in
    let body : List ℕ = answer_layout.form.text (record { outcome = 0; bytes = bytes }) in
    let size : length body ≡ 5 + length bytes = omega arith in
    omega (arith, total-message (record { seq = 0; tid = i.tid; type_ = 43 }) body, size)

pub short-request : (number : ℕ) → total (request_message number asked.Rotating) ≤ 1048576
unfolding little
short-request number =
    let body : List ℕ = request_layout.form.text asked.Rotating in
    let size : length body ≡ 7 = refl in
    omega (arith, total-message (record { seq = number; tid = number; type_ = 17 }) body, size)

pub short-operation : (seq : ℕ) (operation : Operation) → IsSizedOperation operation → total (operation_message (seq, operation)) ≤ 1048576
unfolding little
short-operation seq operation short =
    let body : List ℕ = operation_layout.form.text operation in
    let bytes : List ℕ = little w32 (length operation.bytes) ++ operation.bytes in
    let object : List ℕ = little w32 (length operation.object) ++ (operation.object ++ bytes) in
    let namespace : List ℕ = little w32 (length operation.namespace) ++ (operation.namespace ++ object) in
    let size : length body ≡ 17 + (length operation.pool + (length operation.namespace + (length operation.object + length operation.bytes))) =
    omega (arith, length-append operation.pool namespace, length-append operation.namespace object, length-append operation.object bytes)
    in
    omega (arith, total-message (record { seq = seq; tid = seq; type_ = 42 }) body, size, short.pool, short.namespace, short.object, short.bytes)
