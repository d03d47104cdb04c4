-- What a row says of a secured link hangs on the bytes that are left on it alone, and not on those that were taken, and on its keys alone once
-- the daemon's signature was found right.
use Rattle.std.proofs.Common.{◌≡◌, ℕ, ◌+◌, ◌-◌, ◌^◌, ◌==◌, Bool, true, false, List, [], ◌∷◌, ◌++◌, Option, Some, None, Result, Ok, Err, refl, ap}
use Rattle.std.specs.Prelude.{if◌then◌else◌}
use Rattle.cx_control.specs.Idents.{ident_missing_features_layout, server_ident_layout}
use Rattle.cx_control.specs.Reconnects.{session_reconnect_ok_layout, session_reset_layout, session_retry_layout, session_retry_global_layout}
use Rattle.cx_control.specs.declared.auth.AuthSignature.{AuthSignature}
use Rattle.cx_control.specs.declared.idents.IdentMissingFeatures.{IdentMissingFeatures}
use Rattle.cx_control.specs.declared.idents.ServerIdent.{ServerIdent}
use Rattle.cx_dice.specs.Draws.{cookie_of}
use Rattle.cx_frame.specs.declared.frame.Frame.{Frame}
use Rattle.cx_journal.specs.declared.entries.Entry.{Entry}
use Rattle.cx_journal.specs.declared.faults.BytesFault.{BytesFault}
use Rattle.cx_journal.specs.declared.faults.BytesFault.TheVariants.{Unexpected}
use Rattle.cx_journal.specs.declared.faults.LoginFault.TheVariants.{SignatureWrong}
use Rattle.cx_journal.specs.declared.outcomes.Reason.TheVariants as reason
use Rattle.cx_node.specs.cx_rules.specs.Connector.{client_ident}
use Rattle.cx_node.specs.cx_rules.specs.Messages.{secure_frames}
use Rattle.cx_node.specs.cx_rules.specs.Payloads.{due, payload}
use Rattle.cx_node.specs.cx_rules.specs.Rows.{refused_entry, refuses, refuses_bytes, secure_sent, unless_refused}
use Rattle.cx_node.specs.cx_rules.specs.Secured.{SealedFrame, Secured, is_signed, secure_frame, signature_found}
use Rattle.cx_client_connect.specs.cx_rules_session.specs.Forgets.{abridged_call_link}
use Rattle.cx_client_connect.specs.cx_rules_session.specs.Kinds.{entered_before}
use Rattle.cx_client_connect.specs.cx_rules_session.specs.Lossy.{lossy_flags}
use Rattle.cx_client_connect.specs.cx_rules_session.specs.Presenter.{CallArrival, CallRow, CallStage, Caller, counting, holding_session, identifies, on_missing_features, on_reconnect_ok, on_reset, on_retry, on_retry_global, on_server_ident, on_signature, on_signed, reconnects, resets, retries, retries_global, taken_up, takes_up, while_identified, while_reconnecting}
use Rattle.cx_client_connect.specs.cx_rules_session.specs.Sessions.{Callee, HeldSession, acknowledged_up_to, held_gid, session_reconnect, waiting_messages}
use Rattle.cx_steps.specs.declared.seals.DrawMark.TheVariants as draw
use Rattle.cx_steps.specs.declared.seals.SealEntry.{SealEntry}
use Rattle.cx_steps.specs.declared.seals.SealEntry.TheVariants.{Drawn}
use Rattle.cx_node.proofs.steps.Handling.{Coming, Same}
use Rattle.cx_node.specs.steps.Making.{row_due}
use Rattle.cx_node.specs.steps.Stages.{keys_alone}
use Rattle.cx_client_session.specs.calling.Sent.{signed_on, stage_ahead}
use Rattle.cx_client_session.specs.declared.frames.Ahead.{Ahead}
use Rattle.cx_client_session.specs.declared.frames.Ahead.TheVariants.{Ident, Reconnect, Open}

abbrev pub CallComing : Type 0
CallComing = Coming Caller CallStage

abbrev pub SameRow : CallComing → (CallArrival → CallRow) → Type 0
SameRow h row = Same abridged_call_link h row

abbrev due_row : CallRow → CallRow
due_row row = row_due abridged_call_link row

-- an arrival with this of the client's own
abbrev pub owning : Caller → CallArrival → CallArrival
owning own a = record a { own = own }

-- ---- whichever row it is

pub if_same : (h : CallComing) (b : Bool) (x y : CallArrival → CallRow) → SameRow h x → SameRow h y → SameRow h (λ a. if b then x a else y a)
if_same h true x y first second = first
if_same h false x y first second = second

pub unless_same : {X : Type 0} (h : CallComing) (read : Result X BytesFault) (next : X → CallArrival → CallRow) → ((x : X) → SameRow h (next x))
    → SameRow h (λ a. unless_refused a [] read (λ x. next x a))
unless_same h (Ok x) next each = each x
unless_same h (Err why) next each = refl

-- ---- a frame that is sent

pub sent_same : (h : CallComing) (own : Caller) (s : Secured) (ahead : Ahead) (callee : Callee) (cookie : ℕ) (seals : List SealEntry) (r : Result SealedFrame BytesFault)
    → SameRow h (λ a. secure_sent (owning own a) s (stage_ahead ahead callee cookie) seals r)
sent_same h own s Ident callee cookie seals (Ok sealed) = refl
sent_same h own s Reconnect callee cookie seals (Ok sealed) = refl
sent_same h own s Open callee cookie seals (Ok sealed) = refl
sent_same h own s ahead callee cookie seals (Err why) = refl

identifies_same : (h : CallComing) (own : Caller) (s : Secured) (callee : Callee) (before : List SealEntry) → SameRow h (λ a. identifies (owning own a) s callee before)
identifies_same h own s callee before =
    sent_same h own s Ident callee (cookie_of h.a.draw) (before ++ Drawn (draw.Cookie (cookie_of h.a.draw)) ∷ [])
    (secure_frame s.keys (client_ident own.mon_client (held_gid own.mon_client.holdings) (lossy_flags callee.lossy) (cookie_of h.a.draw)))

without : Caller → Caller
without own = record own { session = None }

resets_same : (h : CallComing) (s : Secured) (callee : Callee) (before : List SealEntry) → SameRow h (λ a. resets a s callee before)
unfolding without
resets_same h s callee before =
    let first : Entry = refused_entry h.a.me h.number reason.Reset in
    ap (λ (row : CallRow). entered_before first row) (identifies_same h (without h.a.own) s callee before)

reconnects_same : (h : CallComing) (own : Caller) (s : Secured) (callee : Callee) (before : List SealEntry) (session : HeldSession)
    → SameRow h (λ a. reconnects (owning own a) s callee before session)
reconnects_same h own s callee before session =
    let held : Caller = record own { session = Some session } in
    sent_same h held s Reconnect callee session.client_cookie before (secure_frame s.keys (session_reconnect own.mon_client session))

takes_up_same : (h : CallComing) (s : Secured) (callee : Callee) (before : List SealEntry) (session : HeldSession) → SameRow h (λ a. takes_up a s callee before session)
takes_up_same h s callee before session =
    if_same h (session.connect_seq == 2 ^ 64 - 1) (λ a. resets a s callee before)
    (λ a. reconnects a s callee before (record session { connect_seq = session.connect_seq + 1 })) (resets_same h s callee before)
    (reconnects_same h h.a.own s callee before (record session { connect_seq = session.connect_seq + 1 }))

-- ---- AUTH_SIGNATURE

signed_same : (h : CallComing) (s : Secured) (callee : Callee) (session : Option HeldSession) → SameRow h (λ a. on_signed a s callee session)
signed_same h s callee None = identifies_same h h.a.own s callee (signature_found s ∷ [])
signed_same h s callee (Some session) = takes_up_same h s callee (signature_found s ∷ []) session

pub signature-same : (h : CallComing) (s : Secured) (callee : Callee) (read : Result AuthSignature BytesFault) → SameRow h (λ a. on_signature a s callee read)
signature-same h s callee read =
    unless_same h read (λ found a. if is_signed s found.signature then on_signed a s callee h.a.own.session else refuses a (reason.Login SignatureWrong) [])
    (λ found. if_same h (is_signed s found.signature) (λ a. on_signed a s callee h.a.own.session) (λ a. refuses a (reason.Login SignatureWrong) [])
    (signed_same h s callee h.a.own.session) refl)

-- ---- SERVER_IDENT, IDENT_MISSING_FEATURES

pub ident-same : (h : CallComing) (s : Secured) (callee : Callee) (cookie : ℕ) (f : Frame) → SameRow h (λ a. while_identified a s callee cookie f)
ident-same h s callee cookie f =
    if_same h (f.tag == 10) (λ a. on_missing_features a (payload ident_missing_features_layout.form f))
    (λ a. on_server_ident a s callee cookie (due 9 server_ident_layout.form f))
    (missing (payload ident_missing_features_layout.form f)) (server (due 9 server_ident_layout.form f))
  where
    missing : (read : Result IdentMissingFeatures BytesFault) → SameRow h (λ a. on_missing_features a read)
    missing (Ok found) = refl
    missing (Err why) = refl

    server : (read : Result ServerIdent BytesFault) → SameRow h (λ a. on_server_ident a s callee cookie read)
    server (Ok ident) = refl
    server (Err why) = refl

-- ---- SESSION_RECONNECT_OK, SESSION_RESET, SESSION_RETRY, SESSION_RETRY_GLOBAL

taken_same : (h : CallComing) (s : Secured) (callee : Callee) (cookie last : ℕ) (session : Option HeldSession) → SameRow h (λ a. taken_up a s callee cookie last session)
taken_same h s callee cookie last None = refl
taken_same h s callee cookie last (Some session) =
    let held : Caller = record h.a.own { session = Some (acknowledged_up_to last session) } in
    sent_same h held s Open callee cookie [] (secure_frames s.keys (waiting_messages (acknowledged_up_to last session)))

retries_same : (h : CallComing) (s : Secured) (callee : Callee) (kept : ℕ) (session : Option HeldSession) → SameRow h (λ a. retries a s callee kept session)
retries_same h s callee kept None = resets_same h s callee []
retries_same h s callee kept (Some session) =
    if_same h (kept == 2 ^ 64 - 1) (λ a. resets a s callee []) (λ a. reconnects a s callee [] (record session { connect_seq = kept + 1 })) (resets_same h s callee [])
    (reconnects_same h h.a.own s callee [] (record session { connect_seq = kept + 1 }))

global_same : (h : CallComing) (s : Secured) (callee : Callee) (kept : ℕ) (session : Option HeldSession) → SameRow h (λ a. retries_global a s callee kept session)
global_same h s callee kept None = resets_same h s callee []
global_same h s callee kept (Some session) =
    let counted : Caller = record h.a.own { mon_client = record h.a.own.mon_client { global_seq = kept + 1 } } in
    if_same h (kept == 2 ^ 64 - 1) (λ a. resets a s callee []) (λ a. reconnects (counting a (kept + 1)) s callee [] session) (resets_same h s callee [])
    (reconnects_same h counted s callee [] session)

pub reconnect-same : (h : CallComing) (s : Secured) (callee : Callee) (cookie : ℕ) (f : Frame) → SameRow h (λ a. while_reconnecting a s callee cookie f)
reconnect-same h s callee cookie f =
    let otherwise : CallArrival → CallRow = λ a. refuses_bytes a (Unexpected f.tag) [] in
    let global : CallArrival → CallRow = λ a. on_retry_global a s callee (payload session_retry_global_layout.form f) in
    let retry : CallArrival → CallRow = λ a. on_retry a s callee (payload session_retry_layout.form f) in
    let reset : CallArrival → CallRow = λ a. on_reset a s callee (payload session_reset_layout.form f) in
    let ok : CallArrival → CallRow = λ a. on_reconnect_ok a s callee cookie (payload session_reconnect_ok_layout.form f) in
    if_same h (f.tag == 15) ok (λ a. if f.tag == 12 then reset a else if f.tag == 13 then retry a else if f.tag == 14 then global a else otherwise a)
    (unless_same h (payload session_reconnect_ok_layout.form f) (λ ok a. taken_up a s callee cookie ok.seq h.a.own.session) (λ ok. taken_same h s callee cookie ok.seq h.a.own.session))
    (if_same h (f.tag == 12) reset (λ a. if f.tag == 13 then retry a else if f.tag == 14 then global a else otherwise a)
    (unless_same h (payload session_reset_layout.form f) (λ reset a. resets a s callee []) (λ reset. resets_same h s callee []))
    (if_same h (f.tag == 13) retry (λ a. if f.tag == 14 then global a else otherwise a)
    (unless_same h (payload session_retry_layout.form f) (λ retry a. retries a s callee retry.connect_seq h.a.own.session)
    (λ retry. retries_same h s callee retry.connect_seq h.a.own.session))
    (if_same h (f.tag == 14) global otherwise
    (unless_same h (payload session_retry_global_layout.form f) (λ retry a. retries_global a s callee retry.global_seq h.a.own.session)
    (λ retry. global_same h s callee retry.global_seq h.a.own.session)) refl)))

-- ---- only the keys of a link matter behind the daemon's signature

keys_sent : (a : CallArrival) (s : Secured) (ahead : Ahead) (callee : Callee) (cookie : ℕ) (seals : List SealEntry) (r : Result SealedFrame BytesFault)
    → due_row (secure_sent a s (stage_ahead ahead callee cookie) seals r) ≡ due_row (secure_sent a (keys_alone s.keys) (stage_ahead ahead callee cookie) seals r)
keys_sent a s Ident callee cookie seals (Ok sealed) = refl
keys_sent a s Reconnect callee cookie seals (Ok sealed) = refl
keys_sent a s Open callee cookie seals (Ok sealed) = refl
keys_sent a s ahead callee cookie seals (Err why) = refl

keys_identify : (a : CallArrival) (s : Secured) (callee : Callee) (before : List SealEntry)
    → due_row (identifies a s callee before) ≡ due_row (identifies a (keys_alone s.keys) callee before)
keys_identify a s callee before =
    keys_sent a s Ident callee (cookie_of a.draw) (before ++ Drawn (draw.Cookie (cookie_of a.draw)) ∷ [])
    (secure_frame s.keys (client_ident a.own.mon_client (held_gid a.own.mon_client.holdings) (lossy_flags callee.lossy) (cookie_of a.draw)))

keys_reset : (a : CallArrival) (s : Secured) (callee : Callee) (before : List SealEntry)
    → due_row (resets a s callee before) ≡ due_row (resets a (keys_alone s.keys) callee before)
keys_reset a s callee before =
    let first : Entry = refused_entry a.me a.link.number reason.Reset in
    ap (λ (row : CallRow). entered_before first row) (keys_identify (holding_session a None) s callee before)

keys_reconnect : (a : CallArrival) (s : Secured) (callee : Callee) (before : List SealEntry) (session : HeldSession)
    → due_row (reconnects a s callee before session) ≡ due_row (reconnects a (keys_alone s.keys) callee before session)
keys_reconnect a s callee before session =
    keys_sent (holding_session a (Some session)) s Reconnect callee session.client_cookie before (secure_frame s.keys (session_reconnect a.own.mon_client session))

keys_either : (b : Bool) (x y z w : CallRow) → due_row x ≡ due_row z → due_row y ≡ due_row w → due_row (if b then x else y) ≡ due_row (if b then z else w)
keys_either true x y z w first second = first
keys_either false x y z w first second = second

pub signed-is : (a : CallArrival) (s : Secured) (callee : Callee) (session : Option HeldSession)
    → due_row (on_signed a s callee session) ≡ due_row (signed_on a s.keys callee (signature_found s) session)
signed-is a s callee None = keys_identify a s callee (signature_found s ∷ [])
signed-is a s callee (Some session) =
    let before : List SealEntry = signature_found s ∷ [] in
    let more : HeldSession = record session { connect_seq = session.connect_seq + 1 } in
    keys_either (session.connect_seq == 2 ^ 64 - 1) (resets a s callee before) (reconnects a s callee before more)
    (resets a (keys_alone s.keys) callee before) (reconnects a (keys_alone s.keys) callee before more)
    (keys_reset a s callee before) (keys_reconnect a s callee before more)
