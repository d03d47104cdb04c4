-- A daemon's sessions on its links ("msgr2 protocol": CLIENT_IDENT, SESSION_RECONNECT, messages), in the order of a connection. Each row says
-- which call of the book it waits for and how it goes on by the reply; the book itself stands with the one who goes by the rule. A reply that no
-- book gives to that call leads to nothing.
use Rattle.std.specs.Prelude.{ℕ, ◌==◌, not, Bool, List, [], ◌∷◌, Option, Some, None, Result, Ok, Err, if◌then◌else◌}
use Rattle.cx_authorize.specs.Daemon.{Authority}
use Rattle.cx_session.specs.cx_base.specs.declared.operations.Operation.{Operation}
use Rattle.cx_desk.specs.cx_caps.specs.Reading.{cap_allows}
use Rattle.cx_authorize.specs.cx_control.specs.Auth.{auth_request_layout, auth_request_more_layout, auth_signature_layout}
use Rattle.cx_authorize.specs.cx_control.specs.Hello.{hello_layout}
use Rattle.cx_authorize.specs.cx_control.specs.Idents.{client_ident_layout}
use Rattle.cx_authorize.specs.cx_control.specs.Reconnects.{session_reconnect_layout, session_reconnect_ok_layout, session_retry_layout, session_retry_global_layout}
use Rattle.cx_authorize.specs.cx_control.specs.Upkeep.{keepalive2_layout, keepalive2_ack_layout}
use Rattle.cx_authorize.specs.cx_control.specs.declared.idents.ClientIdent.{ClientIdent}
use Rattle.cx_authorize.specs.cx_control.specs.declared.reconnects.SessionReconnect.{SessionReconnect}
use Rattle.cx_desk.specs.Handlers.{Handlers, answer_of, has_handler}
use Rattle.cx_rules.specs.cx_dice.specs.Draws.{cookie_of}
use Rattle.cx_rules.specs.cx_frame.specs.declared.frame.Frame.{Frame}
use Rattle.cx_authorize.specs.cx_journal.specs.declared.entries.Admitted.{Admitted}
use Rattle.cx_authorize.specs.cx_journal.specs.declared.entries.Entry.{Entry}
use Rattle.cx_authorize.specs.cx_journal.specs.declared.entries.Entry.TheVariants as entry
use Rattle.cx_authorize.specs.cx_journal.specs.declared.faults.BytesFault.{BytesFault}
use Rattle.cx_authorize.specs.cx_journal.specs.declared.faults.BytesFault.TheVariants.{Unexpected}
use Rattle.cx_authorize.specs.cx_journal.specs.declared.faults.SessionFault.TheVariants as session
use Rattle.cx_authorize.specs.cx_journal.specs.declared.outcomes.Outcome.{Outcome}
use Rattle.cx_authorize.specs.cx_journal.specs.declared.outcomes.Outcome.TheVariants.{Done, Denied, NoHandler}
use Rattle.cx_authorize.specs.cx_journal.specs.declared.outcomes.Reason.{Reason}
use Rattle.cx_authorize.specs.cx_journal.specs.declared.outcomes.Reason.TheVariants as reason
use Rattle.cx_session.specs.declared.call.BookCall.{BookCall}
use Rattle.cx_session.specs.declared.call.BookCall.TheVariants.{Admit, Resume, Check, Take}
use Rattle.cx_session.specs.declared.call.BookFault.TheVariants as fault
use Rattle.cx_session.specs.declared.call.BookReply.{BookReply}
use Rattle.cx_session.specs.declared.call.BookReply.TheVariants as reply
use Rattle.cx_rules.specs.cx_steps.specs.declared.seals.DrawMark.TheVariants as draw
use Rattle.cx_rules.specs.cx_steps.specs.declared.seals.SealEntry.{SealEntry}
use Rattle.cx_rules.specs.cx_steps.specs.declared.seals.SealEntry.TheVariants.{Drawn}
use Rattle.cx_authorize.specs.cx_wire.specs.Operations.{answer_layout, operation_layout}
use Rattle.cx_rules.specs.Acceptor.{AwaitsBanner, AwaitsHello, AwaitsRequest, AwaitsProof, AwaitsSignature, AwaitsIdent, Open, misses, on_auth_request, on_banner, on_hello, on_signature, server_ident}
use Rattle.cx_rules.specs.Fronts.{Front, NotYet, Broken, Next, banner_next, plain_next, secure_next}
use Rattle.cx_rules.specs.Holdings.{MonClient}
use Rattle.cx_rules.specs.Messages.{Message, acknowledgement, message, message_in, secure_frames}
use Rattle.cx_rules.specs.MonitorRule.{session_reset}
use Rattle.cx_rules.specs.Payloads.{control, due, payload, whole}
use Rattle.cx_rules.specs.Rows.{Turned, Waits, Refuses, Handles, at, refused_entry, refuses, refuses_bytes, secure_sent, sends_secure, turned_by, with_opened}
use Rattle.cx_rules.specs.Secured.{Secured, under}
use Rattle.cx_rules.specs.Upkeep.{on_keepalive, on_keepalive_ack}
use Rattle.cx_rules_session.specs.Asks.{Asks, Finished, Asking, asks_map}
use Rattle.cx_rules_session.specs.IncomingLinks.{IncomingArrival, IncomingRow, IncomingStage, Served, on_auth_request_more, on_first}
use Rattle.cx_rules_session.specs.Kinds.{entered_before}
use Rattle.cx_rules_session.specs.Lossy.{is_lossy, lossy_flags}

-- what a daemon comes to by the replies of a book of its sessions
abbrev pub Deciding : Type 0 → Type 0
Deciding X = Asks (BookCall Authority) BookReply X

-- what a turn of an incoming link comes to, and the session that moved to this link, whose other links are shut
pub record Hosted : Type 0 where
  pub turned : Turned MonClient IncomingStage
  pub moved : Option ℕ

-- no session moved
abbrev pub no_session_moves : Turned MonClient IncomingStage → Deciding Hosted
no_session_moves turned = Finished (record { turned = turned; moved = None })

abbrev pub comes_to : IncomingRow → Deciding Hosted
comes_to row = no_session_moves (Handles row)

-- nothing comes of a reply that no book gives to the call
abbrev pub passes_over : Deciding Hosted
passes_over = no_session_moves Waits

-- what was read is gone on with, and the book may be asked
abbrev pub unless_unread : {X : Type 0} → IncomingArrival → Result X BytesFault → (X → Deciding Hosted) → Deciding Hosted
unless_unread a (Ok x) next = next x
unless_unread a (Err why) next = comes_to (refuses_bytes a why [])

-- ---- CLIENT_IDENT

-- what a session's ticket gives from now on
abbrev pub admission_of : IncomingArrival → Authority → ℕ → ℕ → ℕ → Admitted
admission_of a owner number epoch cookie = record {
  daemon = a.own.name;
  session = number;
  epoch = epoch;
  cookie = cookie;
  entity = owner.ticket.name;
  gid = owner.ticket.gid;
  at = owner.at;
  caps = owner.ticket.caps;
}

-- what is kept of it on its link
abbrev pub served_as : Authority → ℕ → ℕ → ℕ → Bool → Served
served_as owner number epoch cookie lossy =
    record { number = number; epoch = epoch; cookie = cookie; lossy = lossy; caps = owner.ticket.caps }

-- the cookie that is drawn for a session
abbrev pub cookie_drawn : IncomingArrival → SealEntry
cookie_drawn a = Drawn (draw.Cookie (cookie_of a.draw))

-- a session that was admitted is entered, SERVER_IDENT is sent with the drawn cookie, and the link is open
abbrev pub admits : IncomingArrival → Secured → Authority → ClientIdent → ℕ → ℕ → IncomingRow
admits a s owner ident number epoch =
    entered_before (entry.Admitted (admission_of a owner number epoch ident.cookie))
    (sends_secure a s (λ behind. Open behind (served_as owner number epoch ident.cookie (is_lossy ident.flags)))
    (cookie_drawn a ∷ []) (server_ident a.own.address (lossy_flags (is_lossy ident.flags)) (cookie_of a.draw)))

abbrev pub refuses_admission : IncomingArrival → Reason → Deciding Hosted
refuses_admission a why = comes_to (refuses a why (cookie_drawn a ∷ []))

abbrev pub on_admission : IncomingArrival → Secured → Authority → ClientIdent → BookReply → Deciding Hosted
on_admission a s owner ident (reply.Admitted number epoch) = comes_to (admits a s owner ident number epoch)
on_admission a s owner ident (reply.Refused (fault.CookieInUse number)) = refuses_admission a (reason.Session (session.CookieInUse number))
on_admission a s owner ident (reply.Refused (fault.BookFull limit)) = refuses_admission a (reason.Session session.BookFull)
on_admission a s owner ident (reply.Refused fault.Spent) = refuses_admission a reason.Spent
on_admission a s owner ident _ = passes_over

-- a cookie is drawn, and the book is asked to admit a session, lossy where the client says so
abbrev pub asks_admission : IncomingArrival → Secured → Authority → ClientIdent → Deciding Hosted
asks_admission a s owner ident =
    Asking (Admit owner ident.cookie (cookie_of a.draw) ident.global_seq (is_lossy ident.flags)) (on_admission a s owner ident)

abbrev pub on_client_ident : IncomingArrival → Secured → Authority → Result ClientIdent BytesFault → Deciding Hosted
on_client_ident a s owner read = unless_unread a read (λ ident.
    if ident.required == 0 then asks_admission a s owner ident else comes_to (misses a s ident.required))

-- ---- SESSION_RECONNECT

-- SESSION_RECONNECT_OK: the seq of the last message that was taken
abbrev pub reconnect_ok : ℕ → Frame
reconnect_ok last = control 15 session_reconnect_ok_layout.form (record { seq = last })

-- SESSION_RETRY and SESSION_RETRY_GLOBAL: the number that the book keeps
abbrev pub session_retry : ℕ → Frame
session_retry kept = control 13 session_retry_layout.form (record { connect_seq = kept })

abbrev pub session_retry_global : ℕ → Frame
session_retry_global kept = control 14 session_retry_global_layout.form (record { global_seq = kept })

-- a session that was resumed is entered, SESSION_RECONNECT_OK is sent, and the link is open
abbrev pub resumes : IncomingArrival → Secured → Authority → SessionReconnect → ℕ → ℕ → ℕ → Bool → IncomingRow
resumes a s owner reconnect number epoch last lossy =
    entered_before (entry.Resumed (admission_of a owner number epoch reconnect.client_cookie))
    (sends_secure a s (λ behind. Open behind (served_as owner number epoch reconnect.client_cookie lossy)) [] (reconnect_ok last))

-- why it wasn't is entered and told by a frame, and the link waits on
abbrev pub tells_why : IncomingArrival → Secured → Authority → Reason → Frame → Deciding Hosted
tells_why a s owner why f =
    comes_to (entered_before (refused_entry a.me a.link.number why) (sends_secure a s (λ behind. AwaitsIdent behind owner) [] f))

-- a session that moved to this link has the older ones shut
abbrev pub on_resumption : IncomingArrival → Secured → Authority → SessionReconnect → BookReply → Deciding Hosted
on_resumption a s owner reconnect (reply.Resumed number epoch last lossy) =
    Finished (record { turned = Handles (resumes a s owner reconnect number epoch last lossy); moved = Some number })
on_resumption a s owner reconnect (reply.Refused fault.Unknown) = tells_why a s owner (reason.Session session.UnknownSession) session_reset
on_resumption a s owner reconnect (reply.Refused (fault.OwnerDiffers entity gid)) =
    tells_why a s owner (reason.Session (session.OwnerDiffers entity gid)) session_reset
on_resumption a s owner reconnect (reply.Refused fault.Spent) = tells_why a s owner reason.Spent session_reset
on_resumption a s owner reconnect (reply.Refused (fault.StaleConnect kept)) =
    tells_why a s owner (reason.Session (session.StaleConnect kept)) (session_retry kept)
on_resumption a s owner reconnect (reply.Refused (fault.StaleGlobal kept)) =
    tells_why a s owner (reason.Session (session.StaleGlobal kept)) (session_retry_global kept)
on_resumption a s owner reconnect _ = passes_over

-- the book is asked to resume the session of both cookies
abbrev pub on_reconnect : IncomingArrival → Secured → Authority → Result SessionReconnect BytesFault → Deciding Hosted
on_reconnect a s owner read = unless_unread a read (λ reconnect.
    Asking (Resume owner reconnect.client_cookie reconnect.server_cookie reconnect.global_seq reconnect.connect_seq)
    (on_resumption a s owner reconnect))

-- a frame behind the peer's signature
abbrev pub on_ident : IncomingArrival → Secured → Authority → Frame → Deciding Hosted
on_ident a s owner f =
    if f.tag == 8 then on_client_ident a s owner (payload client_ident_layout.form f)
    else if f.tag == 11 then on_reconnect a s owner (payload session_reconnect_layout.form f)
    else comes_to (refuses_bytes a (Unexpected f.tag) [])

-- ---- message 42

-- an operation as a message brings it: the message's seq and tid, and the operation
pub record Instruction : Type 0 where
  pub seq : ℕ
  pub tid : ℕ
  pub operation : Operation

abbrev pub instruction_by : Message → Result Operation BytesFault → Result Instruction BytesFault
instruction_by m (Ok operation) = Ok (record { seq = m.header.seq; tid = m.header.tid; operation = operation })
instruction_by m (Err why) = Err why

-- no message is due but 42, whose body is an operation
abbrev pub instruction_of : Result Message BytesFault → Result Instruction BytesFault
instruction_of (Err why) = Err why
instruction_of (Ok m) = if m.header.type_ == 42 then instruction_by m (whole operation_layout.form m.body) else Err (Unexpected 17)

-- how an operation ends: it is denied where the capabilities don't allow it; else it is done where its kind has a handler
abbrev pub outcome_of : Handlers → List ℕ → Operation → Outcome
outcome_of handlers caps operation =
    if not (cap_allows caps operation) then Denied
    else if has_handler operation.access handlers then Done
    else NoHandler

-- an outcome's number in message 43, and the data that go with it
abbrev pub outcome_number : Outcome → ℕ
outcome_number Done = 0
outcome_number Denied = 1
outcome_number NoHandler = 2

abbrev pub answer_data : Operation → Outcome → List ℕ
answer_data operation Done = answer_of operation.access operation
answer_data operation Denied = []
answer_data operation NoHandler = []

-- message 43: the seq 0, the tid of the operation, its outcome, and the handler's answer where it is done
abbrev pub answer_message : Instruction → Outcome → Frame
answer_message i outcome = message (record { seq = 0; tid = i.tid; type_ = 43 })
    (answer_layout.form.text (record { outcome = outcome_number outcome; bytes = answer_data i.operation outcome }))

abbrev pub handled_entry : IncomingArrival → Served → Instruction → Outcome → Entry
handled_entry a served i outcome = entry.Handled (record {
  daemon = a.own.name;
  session = served.number;
  epoch = served.epoch;
  cookie = served.cookie;
  seq = i.seq;
  operation = i.operation;
  outcome = outcome;
})

-- an operation that was taken is entered; the answer and ACK are sent in one piece
abbrev pub handles : IncomingArrival → Secured → Served → Instruction → Outcome → IncomingRow
handles a s served i outcome =
    entered_before (handled_entry a served i outcome)
    (secure_sent a s (λ behind. Open behind served) [] (secure_frames s.keys (answer_message i outcome ∷ acknowledgement i.seq ∷ [])))

-- a message that isn't the next one: one that was taken before is acknowledged again, and nothing is entered; any other is refused
abbrev pub on_untaken : IncomingArrival → Secured → Served → BookReply → Deciding Hosted
on_untaken a s served (reply.Refused (fault.Repeat last)) = comes_to (sends_secure a s (λ behind. Open behind served) [] (acknowledgement last))
on_untaken a s served (reply.Refused (fault.Gap expected)) = comes_to (refuses a (reason.Session (session.Gap expected)) [])
on_untaken a s served (reply.Refused (fault.Stale epoch)) = comes_to (refuses a (reason.Session (session.Stale epoch)) [])
on_untaken a s served _ = passes_over

abbrev pub on_taken : Handlers → IncomingArrival → Secured → Served → Instruction → BookReply → Deciding Hosted
on_taken handlers a s served i reply.Fine = comes_to (handles a s served i (outcome_of handlers served.caps i.operation))
on_taken handlers a s served i other = on_untaken a s served other

-- the next message is taken
abbrev pub on_checked : Handlers → IncomingArrival → Secured → Served → Instruction → BookReply → Deciding Hosted
on_checked handlers a s served i reply.Fine = Asking (Take served.number served.epoch i.seq) (on_taken handlers a s served i)
on_checked handlers a s served i other = on_untaken a s served other

-- the book is asked whether it is the next one; a body that can't be read goes before that
abbrev pub on_message : Handlers → IncomingArrival → Secured → Served → Result Instruction BytesFault → Deciding Hosted
on_message handlers a s served read = unless_unread a read (λ i.
    Asking (Check served.number served.epoch i.seq) (on_checked handlers a s served i))

-- a frame on an open link: a keepalive, as ever, or a message
abbrev pub on_open : Handlers → IncomingArrival → Secured → Served → Frame → Deciding Hosted
on_open handlers a s served f =
    if f.tag == 18 then comes_to (on_keepalive a s (λ behind. Open behind served) (payload keepalive2_layout.form f))
    else if f.tag == 19 then comes_to (on_keepalive_ack a s (λ behind. Open behind served) (payload keepalive2_ack_layout.form f))
    else on_message handlers a s served (instruction_of (message_in f))

-- ---- a turn

abbrev pub turned_behind : List SealEntry → Turned MonClient IncomingStage → Turned MonClient IncomingStage
turned_behind opened Waits = Waits
turned_behind opened (Refuses why broken) = Refuses why broken
turned_behind opened (Handles row) = Handles (with_opened opened row)

abbrev pub hosted_behind : List SealEntry → Hosted → Hosted
hosted_behind opened hosted = record hosted { turned = turned_behind opened hosted.turned }

-- what stands next on the link is handled by what may ask the book, behind what opened of it
abbrev pub decided_by : {X : Type 0} → (X → Deciding Hosted) → Front X → Deciding Hosted
decided_by decide NotYet = no_session_moves Waits
decided_by decide (Broken why opened) = no_session_moves (Refuses why opened)
decided_by decide (Next x opened) = asks_map (hosted_behind opened) (decide x)

-- by the stage of the link
abbrev pub incoming_turned : Handlers → IncomingArrival → IncomingStage → Deciding Hosted
incoming_turned handlers a AwaitsBanner = no_session_moves (turned_by (λ link _. on_banner a.own.name.kind (at a link)) (banner_next a.link))
incoming_turned handlers a AwaitsHello = no_session_moves (turned_by (λ (link, f) _. on_hello (at a link) (due 1 hello_layout.form f)) (plain_next a.link))
incoming_turned handlers a AwaitsRequest =
    no_session_moves (turned_by (λ (link, f) _. on_auth_request on_first (at a link) (due 2 auth_request_layout.form f)) (plain_next a.link))
incoming_turned handlers a (AwaitsProof awaited) =
    no_session_moves (turned_by (λ (link, f) _. on_auth_request_more (at a link) awaited (due 5 auth_request_more_layout.form f)) (plain_next a.link))
incoming_turned handlers a (AwaitsSignature s owner) =
    no_session_moves (turned_by (λ (link, f, keys) opened. with_opened opened (on_signature (at a link) (under s keys) owner (due 7 auth_signature_layout.form f))) (secure_next s.keys a.link))
incoming_turned handlers a (AwaitsIdent s owner) = decided_by (λ (link, f, keys). on_ident (at a link) (under s keys) owner f) (secure_next s.keys a.link)
incoming_turned handlers a (Open s served) = decided_by (λ (link, f, keys). on_open handlers (at a link) (under s keys) served f) (secure_next s.keys a.link)
