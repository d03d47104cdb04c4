-- What comes of a frame on an open link, whatever the stages of its end are called.
use Rattle.std.specs.Prelude.{◌==◌, ◌||◌, Bool, [], Result, Ok, Err, if◌then◌else◌}
use Rattle.cx_control.specs.Upkeep.{keepalive2_layout, keepalive2_ack_layout}
use Rattle.cx_control.specs.declared.upkeep.Keepalive2.{Keepalive2}
use Rattle.cx_control.specs.declared.upkeep.Keepalive2Ack.{Keepalive2Ack}
use Rattle.cx_frame.specs.declared.frame.Frame.{Frame}
use Rattle.cx_journal.specs.declared.faults.BytesFault.{BytesFault}
use Rattle.cx_journal.specs.declared.faults.BytesFault.TheVariants.{Unexpected}
use Rattle.cx_node.specs.cx_rules.specs.Payloads.{control, payload}
use Rattle.cx_node.specs.cx_rules.specs.Secured.{Keys, SealedFrame, secure_frame}

-- KEEPALIVE2: the same time is sent back
abbrev pub answered : Keys → Result Keepalive2 BytesFault → Result SealedFrame BytesFault
answered keys (Err why) = Err why
answered keys (Ok keepalive) = secure_frame keys (control 19 keepalive2_ack_layout.form (record { time = keepalive.time }))

-- KEEPALIVE2_ACK: nothing
abbrev pub acknowledged : Keys → Result Keepalive2Ack BytesFault → Result SealedFrame BytesFault
acknowledged keys (Err why) = Err why
acknowledged keys (Ok ack) = Ok (record { bytes = []; seals = []; keys = keys })

-- what is sent behind a frame on a link with these keys, which then goes on; or why it is shut
abbrev pub upkept : Keys → Frame → Result SealedFrame BytesFault
upkept keys f =
    if f.tag == 18 then answered keys (payload keepalive2_layout.form f)
    else if f.tag == 19 then acknowledged keys (payload keepalive2_ack_layout.form f)
    else Err (Unexpected f.tag)

-- KEEPALIVE2 or KEEPALIVE2_ACK
abbrev pub is_keepalive : Frame → Bool
is_keepalive f = f.tag == 18 || f.tag == 19
