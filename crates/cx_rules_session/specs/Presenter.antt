-- A client's link to a daemon ("detailed cephx protocol": authorizers; "msgr2 protocol": authentication, session, messages): its rows in the
-- order of a connection. They read and change what the client has as one that asks the monitor, and its session with that daemon.
use Rattle.std.specs.Prelude.{ℕ, ◌==◌, ◌+◌, ◌-◌, ◌^◌, not, Bool, true, false, List, [], ◌∷◌, ◌++◌, take, Option, Some, None, Result, Ok, Err, if◌then◌else◌}
use Rattle.cx_authorize.specs.Answers.{authorizer_of}
use Rattle.cx_authorize.specs.Client.{Answered, Presented, challenge_in, reply_in}
use Rattle.cx_authorize.specs.Verdict.{raised}
use Rattle.cx_authorize.specs.cx_cbc.specs.Envelope.{sealed}
use Rattle.cx_authorize.specs.cx_control.specs.Auth.{auth_done_layout, auth_reply_more_layout, auth_request_layout, auth_request_more_layout, auth_signature_layout}
use Rattle.cx_authorize.specs.cx_control.specs.BadMethod.{bad_method_layout, kept_method}
use Rattle.cx_authorize.specs.cx_control.specs.Hello.{hello_layout}
use Rattle.cx_authorize.specs.cx_control.specs.Idents.{ident_missing_features_layout, server_ident_layout}
use Rattle.cx_authorize.specs.cx_control.specs.Reconnects.{session_reconnect_ok_layout, session_reset_layout, session_retry_layout, session_retry_global_layout}
use Rattle.cx_authorize.specs.cx_control.specs.Upkeep.{ack_layout}
use Rattle.cx_authorize.specs.cx_control.specs.declared.auth.AuthDone.{AuthDone}
use Rattle.cx_authorize.specs.cx_control.specs.declared.auth.AuthReplyMore.{AuthReplyMore}
use Rattle.cx_authorize.specs.cx_control.specs.declared.auth.AuthSignature.{AuthSignature}
use Rattle.cx_authorize.specs.cx_control.specs.declared.hello.Hello.{Hello}
use Rattle.cx_authorize.specs.cx_control.specs.declared.idents.IdentMissingFeatures.{IdentMissingFeatures}
use Rattle.cx_authorize.specs.cx_control.specs.declared.idents.ServerIdent.{ServerIdent}
use Rattle.cx_authorize.specs.cx_control.specs.declared.reconnects.SessionReconnectOk.{SessionReconnectOk}
use Rattle.cx_authorize.specs.cx_control.specs.declared.reconnects.SessionReset.{SessionReset}
use Rattle.cx_authorize.specs.cx_control.specs.declared.reconnects.SessionRetry.{SessionRetry}
use Rattle.cx_authorize.specs.cx_control.specs.declared.reconnects.SessionRetryGlobal.{SessionRetryGlobal}
use Rattle.cx_authorize.specs.cx_control.specs.declared.upkeep.Ack.{Ack}
use Rattle.cx_rules.specs.cx_dice.specs.Draws.{challenge_of, cookie_of}
use Rattle.cx_rules.specs.cx_frame.specs.declared.frame.Frame.{Frame}
use Rattle.cx_authorize.specs.cx_journal.specs.declared.entries.Entry.{Entry}
use Rattle.cx_authorize.specs.cx_journal.specs.declared.entries.Entry.TheVariants as entry
use Rattle.cx_authorize.specs.cx_journal.specs.declared.faults.BytesFault.{BytesFault}
use Rattle.cx_authorize.specs.cx_journal.specs.declared.faults.BytesFault.TheVariants.{Features, Unexpected}
use Rattle.cx_authorize.specs.cx_journal.specs.declared.faults.LoginFault.TheVariants.{Mode, NonceWrong, Unopened}
use Rattle.cx_authorize.specs.cx_journal.specs.declared.outcomes.Outcome.{Outcome}
use Rattle.cx_authorize.specs.cx_journal.specs.declared.outcomes.Outcome.TheVariants.{Done, Denied, NoHandler}
use Rattle.cx_authorize.specs.cx_journal.specs.declared.outcomes.Reason.TheVariants as reason
use Rattle.cx_rules.specs.cx_login.specs.Held.{Held}
use Rattle.cx_authorize.specs.cx_sealed.specs.declared.authorize_challenge.AuthorizeChallenge.{AuthorizeChallenge}
use Rattle.cx_authorize.specs.cx_sealed.specs.declared.authorize_reply.AuthorizeReply.{AuthorizeReply}
use Rattle.cx_rules.specs.cx_steps.specs.declared.seals.DrawMark.TheVariants as draw
use Rattle.cx_rules.specs.cx_steps.specs.declared.seals.SealEntry.{SealEntry}
use Rattle.cx_rules.specs.cx_steps.specs.declared.seals.SealEntry.TheVariants.{Drawn}
use Rattle.cx_authorize.specs.cx_wire.specs.Logins.{authorize_challenge_layout, authorize_reply_layout, authorizer_layout}
use Rattle.cx_authorize.specs.cx_wire.specs.Operations.{answer_layout}
use Rattle.cx_authorize.specs.cx_wire.specs.declared.answers.Answer.{Answer}
use Rattle.cx_authorize.specs.cx_wire.specs.declared.authorizers.AuthorizeChallenge as shown_challenge
use Rattle.cx_authorize.specs.cx_wire.specs.declared.authorizers.AuthorizeReply as shown_reply
use Rattle.cx_rules.specs.Connector.{client_ident}
use Rattle.cx_rules.specs.Fronts.{banner_next, plain_next, secure_next}
use Rattle.cx_rules.specs.Greetings.{own_hello}
use Rattle.cx_rules.specs.Holdings.{MonClient}
use Rattle.cx_rules.specs.Messages.{Message, message_in, on_upkeep_or, secure_frames}
use Rattle.cx_rules.specs.Payloads.{control, due, payload, whole}
use Rattle.cx_rules.specs.Rows.{Arrival, Row, Turned, at, goes_on, refused_entry, refuses, refuses_bytes, secure_sent, sends_plain, sends_secure, turned_by, unless_refused, with_opened}
use Rattle.cx_rules.specs.Secured.{SealedFrame, Secured, connector_keys, signature_found, signed_frame, under}
use Rattle.cx_rules.specs.Signatures.{unless_unsigned}
use Rattle.cx_rules_session.specs.Envelopes.{authorize_content, sends_holding, session_sealed}
use Rattle.cx_rules_session.specs.Kinds.{entered_before}
use Rattle.cx_rules_session.specs.Lossy.{lossy_flags}
use Rattle.cx_rules_session.specs.Sessions.{Called, Callee, HeldSession, acknowledged_up_to, held_gid, new_session, session_reconnect, ticket_for, waiting_messages}

-- ---- a caller

-- what a client is to its link to one daemon: itself as one that asks the monitor, and its session with that daemon
pub record Caller : Type 0 where
  pub mon_client : MonClient
  pub session : Option HeldSession

-- how far a link to a daemon has come: what it waits for. A number is the client's cookie of the session that the link is for
pub data CallStage : Type 0 where
  AwaitsBanner : Called → CallStage
  AwaitsHello : Called → CallStage
  AwaitsChallenge : Callee → Presented → CallStage
  AwaitsDone : Callee → Answered → CallStage
  AwaitsSignature : Secured → Callee → CallStage
  AwaitsIdent : Secured → Callee → ℕ → CallStage
  AwaitsReconnect : Secured → Callee → ℕ → CallStage
  Open : Secured → Callee → ℕ → CallStage

abbrev pub CallArrival : Type 0
CallArrival = Arrival Caller CallStage

abbrev pub CallRow : Type 0
CallRow = Row Caller CallStage

-- whom a link calls
abbrev pub callee_of : CallStage → Callee
callee_of (AwaitsBanner called) = called.callee
callee_of (AwaitsHello called) = called.callee
callee_of (AwaitsChallenge callee presented) = callee
callee_of (AwaitsDone callee answered) = callee
callee_of (AwaitsSignature s callee) = callee
callee_of (AwaitsIdent s callee cookie) = callee
callee_of (AwaitsReconnect s callee cookie) = callee
callee_of (Open s callee cookie) = callee

-- with its session as it is from now on
abbrev pub holding_session : CallArrival → Option HeldSession → CallArrival
holding_session a session = record a { own = record a.own { session = session } }

-- ---- banner, HELLO

-- the peer's banner: HELLO is sent
abbrev pub on_banner : CallArrival → Called → CallRow
on_banner a called = sends_plain a (AwaitsHello called) [] (own_hello a.own.mon_client.name.kind)

-- what is shown with a nonce: the ticket of the daemon's service and the global id that are held now; where no such ticket is held any more,
-- those with which the link was asked for
abbrev pub presented_by : Called → MonClient → Option Held → ℕ → Presented
presented_by called mon_client (Some held) nonce = record { held = held; gid = held_gid mon_client.holdings; nonce = nonce }
presented_by called mon_client None nonce = record { held = called.held; gid = called.gid; nonce = nonce }

abbrev pub presented : Called → MonClient → ℕ → Presented
presented called mon_client nonce = presented_by called mon_client (ticket_for called.callee.daemon.kind mon_client.holdings) nonce

-- an authorizer: it shows the ticket, and under its session key the nonce, and the daemon's challenge plus one where that is answered
abbrev pub authorizer_bytes : Presented → Option ℕ → List ℕ
authorizer_bytes p challenge =
    authorizer_layout.form.text (authorizer_of p.held p.gid (sealed p.held.session (authorize_content p.nonce challenge)))

-- AUTH_REQUEST with the first authorizer: method 2, cephx, and the modes
abbrev pub first_frame : MonClient → Presented → Frame
first_frame mon_client p = control 2 auth_request_layout.form (record { method = 2; modes = mon_client.modes; payload = authorizer_bytes p None })

-- a nonce is drawn, and the ticket shown
abbrev pub presents : CallArrival → Callee → Presented → CallRow
presents a callee p =
    sends_holding a (AwaitsChallenge callee p) (Drawn (draw.Nonce p.nonce) ∷ [])
    (session_sealed p.held.session (authorize_content p.nonce None) ∷ []) (first_frame a.own.mon_client p)

abbrev pub on_hello : CallArrival → Called → Result Hello BytesFault → CallRow
on_hello a called read = unless_refused a [] read (λ hello. presents a called.callee (presented called a.own.mon_client (challenge_of a.draw)))

-- ---- AUTH_REPLY_MORE

-- AUTH_REQUEST_MORE with the second authorizer
abbrev pub second_frame : Presented → ℕ → Frame
second_frame p challenge = control 5 auth_request_more_layout.form (record { payload = authorizer_bytes p (Some challenge) })

-- the challenge is answered, where it opened to its record
abbrev pub answers_challenge : CallArrival → Callee → Presented → List SealEntry → Option AuthorizeChallenge → CallRow
answers_challenge a callee p opened None = refuses a (reason.Login Unopened) opened
answers_challenge a callee p opened (Some asked) =
    sends_holding a (AwaitsDone callee (record { session = p.held.session; nonce = p.nonce })) opened
    (session_sealed p.held.session (authorize_content p.nonce (Some asked.challenge)) ∷ []) (second_frame p asked.challenge)

abbrev pub on_challenge : CallArrival → Callee → Presented → Result shown_challenge.AuthorizeChallenge BytesFault → CallRow
on_challenge a callee p read = unless_refused a [] read (λ shown.
    let unlocked = challenge_in p.held.session shown.sealed in answers_challenge a callee p unlocked.seals unlocked.value)

abbrev pub on_reply_more : CallArrival → Callee → Presented → Result AuthReplyMore BytesFault → CallRow
on_reply_more a callee p read = unless_refused a [] read (λ more. on_challenge a callee p (whole authorize_challenge_layout.form more.payload))

-- ---- AUTH_BAD_METHOD

-- nothing is forgotten, whatever the code
abbrev pub on_bad_method : CallArrival → Result (ℕ × (ℕ × (List ℕ × List ℕ))) BytesFault → CallRow
on_bad_method a read = unless_refused a [] read (λ fields. refuses a (reason.Denied (kept_method fields).result) [])

-- ---- AUTH_DONE

-- AUTH_SIGNATURE is sent; the peer's has to cover all that was sent before
abbrev pub signs : CallArrival → Callee → Answered → List SealEntry → Result SealedFrame BytesFault → CallRow
signs a callee answered opened made = unless_refused a opened made (λ sealed.
    goes_on a (AwaitsSignature (record { keys = sealed.keys; session = answered.session; covered = a.link.sent }) callee)
    sealed.bytes (opened ++ sealed.seals))

-- a reply to another nonce is refused
abbrev pub agrees : CallArrival → Callee → Answered → List SealEntry → AuthorizeReply → CallRow
agrees a callee answered opened reply =
    if reply.nonce_plus_one == raised answered.nonce
    then signs a callee answered opened (signed_frame (connector_keys reply.secret) answered.session (take a.link.taken a.link.received))
    else refuses a (reason.Login (NonceWrong (raised answered.nonce) reply.nonce_plus_one)) opened

abbrev pub on_unlocked : CallArrival → Callee → Answered → List SealEntry → Option AuthorizeReply → CallRow
on_unlocked a callee answered opened None = refuses a (reason.Login Unopened) opened
on_unlocked a callee answered opened (Some reply) = agrees a callee answered opened reply

abbrev pub on_authorize_reply : CallArrival → Callee → Answered → Result shown_reply.AuthorizeReply BytesFault → CallRow
on_authorize_reply a callee answered read = unless_refused a [] read (λ shown.
    let unlocked = reply_in answered.session shown.sealed in on_unlocked a callee answered unlocked.seals unlocked.value)

abbrev pub on_done : CallArrival → Callee → Answered → Result AuthDone BytesFault → CallRow
on_done a callee answered read = unless_refused a [] read (λ done.
    if not (done.mode == 2) then refuses a (reason.Login Mode) []
    else on_authorize_reply a callee answered (whole authorize_reply_layout.form done.payload))

-- ---- a session is opened, or taken up again

-- CLIENT_IDENT is sent with a drawn cookie
abbrev pub identifies : CallArrival → Secured → Callee → List SealEntry → CallRow
identifies a s callee before =
    let cookie = cookie_of a.draw in
    sends_secure a s (λ behind. AwaitsIdent behind callee cookie) (before ++ Drawn (draw.Cookie cookie) ∷ [])
    (client_ident a.own.mon_client (held_gid a.own.mon_client.holdings) (lossy_flags callee.lossy) cookie)

-- the session and what waits in it are forgotten, which is entered, and another one is asked for
abbrev pub resets : CallArrival → Secured → Callee → List SealEntry → CallRow
resets a s callee before =
    entered_before (refused_entry a.me a.link.number reason.Reset) (identifies (holding_session a None) s callee before)

-- SESSION_RECONNECT is sent for a session as it is from now on
abbrev pub reconnects : CallArrival → Secured → Callee → List SealEntry → HeldSession → CallRow
reconnects a s callee before session =
    sends_secure (holding_session a (Some session)) s (λ behind. AwaitsReconnect behind callee session.client_cookie) before
    (session_reconnect a.own.mon_client session)

-- a session that is held is taken up again, once more than before; behind the last time it is as if it was reset
abbrev pub takes_up : CallArrival → Secured → Callee → List SealEntry → HeldSession → CallRow
takes_up a s callee before session =
    if session.connect_seq == 2 ^ 64 - 1 then resets a s callee before
    else reconnects a s callee before (record session { connect_seq = session.connect_seq + 1 })

-- ---- AUTH_SIGNATURE

abbrev pub on_signed : CallArrival → Secured → Callee → Option HeldSession → CallRow
on_signed a s callee None = identifies a s callee (signature_found s ∷ [])
on_signed a s callee (Some session) = takes_up a s callee (signature_found s ∷ []) session

abbrev pub on_signature : CallArrival → Secured → Callee → Result AuthSignature BytesFault → CallRow
on_signature a s callee read = unless_unsigned a s read (on_signed a s callee a.own.session)

-- ---- SERVER_IDENT, IDENT_MISSING_FEATURES

-- the session is held with both cookies, and the link is open; nothing waits in it yet
abbrev pub on_server_ident : CallArrival → Secured → Callee → ℕ → Result ServerIdent BytesFault → CallRow
on_server_ident a s callee cookie read = unless_refused a [] read (λ ident.
    goes_on (holding_session a (Some (new_session callee cookie ident.cookie))) (Open s callee cookie) [] [])

abbrev pub on_missing_features : CallArrival → Result IdentMissingFeatures BytesFault → CallRow
on_missing_features a read = unless_refused a [] read (λ missing. refuses_bytes a (Features missing.features) [])

-- ---- SESSION_RECONNECT_OK, SESSION_RESET, SESSION_RETRY, SESSION_RETRY_GLOBAL

-- what the daemon took doesn't wait any more, the rest is sent again in order, in one piece, and the link is open
abbrev pub goes_on_in : CallArrival → Secured → Callee → ℕ → HeldSession → CallRow
goes_on_in a s callee cookie session =
    secure_sent (holding_session a (Some session)) s (λ behind. Open behind callee cookie) [] (secure_frames s.keys (waiting_messages session))

abbrev pub taken_up : CallArrival → Secured → Callee → ℕ → ℕ → Option HeldSession → CallRow
taken_up a s callee cookie last (Some session) = goes_on_in a s callee cookie (acknowledged_up_to last session)
taken_up a s callee cookie last None = goes_on a (Open s callee cookie) [] []

abbrev pub on_reconnect_ok : CallArrival → Secured → Callee → ℕ → Result SessionReconnectOk BytesFault → CallRow
on_reconnect_ok a s callee cookie read = unless_refused a [] read (λ ok. taken_up a s callee cookie ok.seq a.own.session)

abbrev pub on_reset : CallArrival → Secured → Callee → Result SessionReset BytesFault → CallRow
on_reset a s callee read = unless_refused a [] read (λ reset. resets a s callee [])

-- the session is taken up as if it had been so often as the daemon says, and once more
abbrev pub retries : CallArrival → Secured → Callee → ℕ → Option HeldSession → CallRow
retries a s callee kept (Some session) =
    if kept == 2 ^ 64 - 1 then resets a s callee [] else reconnects a s callee [] (record session { connect_seq = kept + 1 })
retries a s callee kept None = resets a s callee []

abbrev pub on_retry : CallArrival → Secured → Callee → Result SessionRetry BytesFault → CallRow
on_retry a s callee read = unless_refused a [] read (λ retry. retries a s callee retry.connect_seq a.own.session)

-- with another count of connections
abbrev pub counting : CallArrival → ℕ → CallArrival
counting a global = record a { own = record a.own { mon_client = record a.own.mon_client { global_seq = global } } }

-- the same with the client's count of connections
abbrev pub retries_global : CallArrival → Secured → Callee → ℕ → Option HeldSession → CallRow
retries_global a s callee kept (Some session) =
    if kept == 2 ^ 64 - 1 then resets a s callee [] else reconnects (counting a (kept + 1)) s callee [] session
retries_global a s callee kept None = resets a s callee []

abbrev pub on_retry_global : CallArrival → Secured → Callee → Result SessionRetryGlobal BytesFault → CallRow
on_retry_global a s callee read = unless_refused a [] read (λ retry. retries_global a s callee retry.global_seq a.own.session)

-- ---- message 43, ACK

-- an outcome by its number in message 43, which is at most 2
abbrev pub outcome_by : ℕ → Outcome
outcome_by number = if number == 0 then Done else if number == 1 then Denied else NoHandler

-- how the operation of this tid ended
pub record OperationEnd : Type 0 where
  pub tid : ℕ
  pub outcome : Outcome

abbrev pub end_by : Message → Result Answer BytesFault → Result OperationEnd BytesFault
end_by m (Ok answer) = Ok (record { tid = m.header.tid; outcome = outcome_by answer.outcome })
end_by m (Err why) = Err why

-- no message is due but 43
abbrev pub end_in : Result Message BytesFault → Result OperationEnd BytesFault
end_in (Err why) = Err why
end_in (Ok m) = if m.header.type_ == 43 then end_by m (whole answer_layout.form m.body) else Err (Unexpected 17)

abbrev pub answered_entry : MonClient → Callee → ℕ → OperationEnd → Entry
answered_entry mon_client callee cookie end =
    entry.Answered (record { client = mon_client.name; daemon = callee.daemon; cookie = cookie; tid = end.tid; outcome = end.outcome })

-- the answer is entered
abbrev pub on_answer : CallArrival → Secured → Callee → ℕ → Result OperationEnd BytesFault → CallRow
on_answer a s callee cookie read = unless_refused a [] read (λ end.
    entered_before (answered_entry a.own.mon_client callee cookie end) (goes_on a (Open s callee cookie) [] []))

-- what was acknowledged doesn't wait any more
abbrev pub acknowledges : CallArrival → Secured → Callee → ℕ → ℕ → Option HeldSession → CallRow
acknowledges a s callee cookie seq (Some session) =
    goes_on (holding_session a (Some (acknowledged_up_to seq session))) (Open s callee cookie) [] []
acknowledges a s callee cookie seq None = goes_on a (Open s callee cookie) [] []

abbrev pub on_ack : CallArrival → Secured → Callee → ℕ → Result Ack BytesFault → CallRow
on_ack a s callee cookie read = unless_refused a [] read (λ ack. acknowledges a s callee cookie ack.seq a.own.session)

abbrev pub on_answer_or_ack : CallArrival → Secured → Callee → ℕ → Frame → CallRow
on_answer_or_ack a s callee cookie f =
    if f.tag == 20 then on_ack a s callee cookie (payload ack_layout.form f)
    else on_answer a s callee cookie (end_in (message_in f))

-- ---- a turn

abbrev pub while_challenged : CallArrival → Callee → Presented → Frame → CallRow
while_challenged a callee p f =
    if f.tag == 3 then on_bad_method a (payload bad_method_layout.form f)
    else on_reply_more a callee p (due 4 auth_reply_more_layout.form f)

abbrev pub while_answered : CallArrival → Callee → Answered → Frame → CallRow
while_answered a callee answered f =
    if f.tag == 3 then on_bad_method a (payload bad_method_layout.form f)
    else on_done a callee answered (due 6 auth_done_layout.form f)

abbrev pub while_identified : CallArrival → Secured → Callee → ℕ → Frame → CallRow
while_identified a s callee cookie f =
    if f.tag == 10 then on_missing_features a (payload ident_missing_features_layout.form f)
    else on_server_ident a s callee cookie (due 9 server_ident_layout.form f)

abbrev pub while_reconnecting : CallArrival → Secured → Callee → ℕ → Frame → CallRow
while_reconnecting a s callee cookie f =
    if f.tag == 15 then on_reconnect_ok a s callee cookie (payload session_reconnect_ok_layout.form f)
    else if f.tag == 12 then on_reset a s callee (payload session_reset_layout.form f)
    else if f.tag == 13 then on_retry a s callee (payload session_retry_layout.form f)
    else if f.tag == 14 then on_retry_global a s callee (payload session_retry_global_layout.form f)
    else refuses_bytes a (Unexpected f.tag) []

-- by the stage of the link
abbrev pub turned_at : CallArrival → CallStage → Turned Caller CallStage
turned_at a (AwaitsBanner called) = turned_by (λ link _. on_banner (at a link) called) (banner_next a.link)
turned_at a (AwaitsHello called) = turned_by (λ (link, f) _. on_hello (at a link) called (due 1 hello_layout.form f)) (plain_next a.link)
turned_at a (AwaitsChallenge callee p) = turned_by (λ (link, f) _. while_challenged (at a link) callee p f) (plain_next a.link)
turned_at a (AwaitsDone callee answered) = turned_by (λ (link, f) _. while_answered (at a link) callee answered f) (plain_next a.link)
turned_at a (AwaitsSignature s callee) =
    turned_by (λ (link, f, keys) opened. with_opened opened (on_signature (at a link) (under s keys) callee (due 7 auth_signature_layout.form f))) (secure_next s.keys a.link)
turned_at a (AwaitsIdent s callee cookie) =
    turned_by (λ (link, f, keys) opened. with_opened opened (while_identified (at a link) (under s keys) callee cookie f)) (secure_next s.keys a.link)
turned_at a (AwaitsReconnect s callee cookie) =
    turned_by (λ (link, f, keys) opened. with_opened opened (while_reconnecting (at a link) (under s keys) callee cookie f)) (secure_next s.keys a.link)
turned_at a (Open s callee cookie) =
    turned_by (λ (link, f, keys) opened. with_opened opened
    (on_upkeep_or (on_answer_or_ack (at a link) (under s keys) callee cookie) (at a link) (under s keys) (λ behind. Open behind callee cookie) f)) (secure_next s.keys a.link)

-- whether a link is open
abbrev pub is_open : CallStage → Bool
is_open (Open s callee cookie) = true
is_open _ = false
