-- Rows of frames that are sent.
use Rattle.std.proofs.Common.{◌≡◌, ◌≢◌, ◌∙◌, ℕ, ◌+◌, ◌-◌, ◌^◌, ◌==◌, List, [], ◌∷◌, ◌++◌, Option, Some, None, Result, Ok, Err, IfOk, refl, sym, ap}
use Rattle.std.proofs.lemmas.Bool.{ne_eqb}
use Rattle.std.specs.Prelude.{if◌then◌else◌}
use Rattle.cx_base.specs.declared.nodes.NodeName.TheVariants as node
use Rattle.cx_dice.specs.Draws.{cookie_of}
use Rattle.cx_frame.specs.declared.frame.Frame.{Frame}
use Rattle.cx_journal.specs.declared.faults.BytesFault.{BytesFault}
use Rattle.cx_journal.specs.declared.outcomes.Reason.TheVariants as reason
use Rattle.cx_link.specs.Wires.{SecureWire, secured_link}
use Rattle.cx_link.specs.declared.links.SentFrame.{SentFrame}
use Rattle.cx_node.specs.declared.rows.Row.{Row as Made}
use Rattle.cx_node.specs.cx_rules.specs.Connector.{client_ident}
use Rattle.cx_node.specs.cx_rules.specs.Holdings.{MonClient}
use Rattle.cx_node.specs.cx_rules.specs.Messages.{secure_frames}
use Rattle.cx_node.specs.cx_rules.specs.Rows.{refused_entry, secure_sent}
use Rattle.cx_node.specs.cx_rules.specs.Secured.{SealedFrame, Secured, secure_frame}
use Rattle.cx_client_connect.specs.cx_rules_session.specs.Forgets.{abridged_call_link}
use Rattle.cx_client_connect.specs.cx_rules_session.specs.Lossy.{lossy_flags}
use Rattle.cx_client_connect.specs.cx_rules_session.specs.Presenter.{CallArrival, CallRow, CallStage, Caller, counting, goes_on_in, holding_session, identifies, reconnects, resets, retries, retries_global, takes_up}
use Rattle.cx_client_connect.specs.cx_rules_session.specs.Sessions.{Callee, HeldSession, acknowledged_up_to, held_gid, session_reconnect, waiting_messages}
use Rattle.cx_client_connect.specs.session.Table.{taken_up}
use Rattle.cx_client_connect.specs.declared.table.SessionChange.TheVariants as sessions
use Rattle.cx_steps.specs.declared.seals.DrawMark.TheVariants as draw
use Rattle.cx_steps.specs.declared.seals.SealEntry.{SealEntry}
use Rattle.cx_steps.specs.declared.seals.SealEntry.TheVariants.{Drawn}
use Rattle.cx_node.proofs.steps.MadeRows.{entered_as, makes_as}
use Rattle.cx_node.specs.steps.Making as making
use Rattle.cx_node.specs.steps.Making.{entering, row_due}
use Rattle.cx_node.specs.steps.Sending.{SendsSecure}
use Rattle.cx_node.specs.steps.Stages.{keys_alone}
use Rattle.cx_node.specs.declared.moments.Moment.{Moment}
use Rattle.cx_node.specs.declared.steps_rows.NoRow.{NoRow}
use Rattle.cx_node.specs.declared.steps_rows.NodeRow.{NodeRow}
use Rattle.cx_client_connect.proofs.presenting.Behind.{first_of, same_number, second_of}
use Rattle.cx_client_connect.specs.presenting.Rows.{MakesFor, arrived, caller, changed}
use Rattle.cx_client_connect.specs.presenting.Stages.{CallLink}
use Rattle.cx_client_connect.specs.declared.rows.Change.{Change}
use Rattle.cx_client_connect.specs.declared.rows.Change.TheVariants.{Session, Counts}
use Rattle.cx_client_session.specs.calling.Sent.{IsRowAt, sent_row, stage_ahead}
use Rattle.cx_client_session.specs.declared.frames.Ahead.{Ahead}
use Rattle.cx_client_session.specs.declared.frames.Ahead.TheVariants.{Ident, Reconnect, Open}

abbrev pub MadeRow : Type 0
MadeRow = Result (NodeRow CallLink Change) NoRow

-- ---- whichever row is due

-- a row that was made is the one that is due, where both are to be made alike
pub makes_ok : {E : Type 0} (a : CallArrival) (R S : CallRow) (r : Result (NodeRow CallLink Change) E) → S ≡ R
    → IfOk r (λ row. making.Makes abridged_call_link changed a R (let made : MadeRow = Ok row in made))
    → IfOk r (λ row. making.Makes abridged_call_link changed a S (let made : MadeRow = Ok row in made))
makes_ok a R S (Ok row) e m = makes_as abridged_call_link changed a R S (Ok row) (ap (λ (x : CallRow). row_due abridged_call_link x) e) m
makes_ok a R S (Err error) e m = tt

-- ---- a frame that was sent

pub sent_is : (c : Caller) (at : Moment) (link : SecureWire) (stage : CallStage) (ahead : Ahead) (callee : Callee) (cookie : ℕ) (before : List SealEntry)
    (expected : Result SealedFrame BytesFault) (made : Result SentFrame BytesFault) → SendsSecure link expected made
    → IsRowAt c at (secured_link at.number link.ahead stage) (λ a. secure_sent a (keys_alone link.keys) (stage_ahead ahead callee cookie) before expected)
    (sent_row (node.Entity c.mon_client.name) at.number ahead callee cookie before made)
sent_is c at link stage Ident callee cookie before expected (Ok sent) (e, same) = rw (e, same) (record { row = refl; number_is = refl })
sent_is c at link stage Reconnect callee cookie before expected (Ok sent) (e, same) = rw (e, same) (record { row = refl; number_is = refl })
sent_is c at link stage Open callee cookie before expected (Ok sent) (e, same) = rw (e, same) (record { row = refl; number_is = refl })
sent_is c at link stage ahead callee cookie before expected (Err why) e = rw e (record { row = refl; number_is = tt })

-- ---- CLIENT_IDENT

pub identified : (mon_client : MonClient) (session : Option HeldSession) (at : Moment) (link : SecureWire) (stage : CallStage) (callee : Callee) (before drawn : List SealEntry)
    (f : Frame) (made : Result SentFrame BytesFault) (row : Made CallLink) → drawn ≡ before ++ Drawn (draw.Cookie (cookie_of at.draw.now.bytes)) ∷ []
    → f ≡ client_ident mon_client (held_gid mon_client.holdings) (lossy_flags callee.lossy) (cookie_of at.draw.now.bytes) → SendsSecure link (secure_frame link.keys f) made
    → row ≡ sent_row (node.Entity mon_client.name) at.number Ident callee (cookie_of at.draw.now.bytes) drawn made
    → IsRowAt (caller mon_client session) at (secured_link at.number link.ahead stage) (λ a. identifies a (keys_alone link.keys) callee before) row
identified mon_client session at link stage callee before drawn f made row logged frame sends is =
    let s = rw frame at sends in
    rw (is, logged) (sent_is (caller mon_client session) at link stage Ident callee (cookie_of at.draw.now.bytes)
    (before ++ Drawn (draw.Cookie (cookie_of at.draw.now.bytes)) ∷ [])
    (secure_frame link.keys (client_ident mon_client (held_gid mon_client.holdings) (lossy_flags callee.lossy) (cookie_of at.draw.now.bytes))) made s)

-- the session is forgotten before that
pub reset : (mon_client : MonClient) (session : Option HeldSession) (at : Moment) (link : SecureWire) (stage : CallStage) (callee : Callee) (before : List SealEntry)
    (row : Made CallLink) → IsRowAt (caller mon_client None) at (secured_link at.number link.ahead stage) (λ a. identifies a (keys_alone link.keys) callee before) row
    → MakesFor (caller mon_client session) at (secured_link at.number link.ahead stage) (λ a. resets a (keys_alone link.keys) callee before)
    (let made : MadeRow = Ok (entering (refused_entry (node.Entity mon_client.name) at.number reason.Reset) (record { row = row; change = Some (Session sessions.Forgets) })) in made)
reset mon_client session at link stage callee before row is =
    let a : CallArrival = arrived (caller mon_client session) at (secured_link at.number link.ahead stage) in
    entered_as abridged_call_link changed a (refused_entry (node.Entity mon_client.name) at.number reason.Reset) (identifies (holding_session a None) (keys_alone link.keys) callee before)
    (record { row = row; change = Some (Session sessions.Forgets) }) is

-- ---- SESSION_RECONNECT

pub reconnected : (mon_client : MonClient) (at : Moment) (link : SecureWire) (stage : CallStage) (callee : Callee) (before : List SealEntry) (session : HeldSession) (f : Frame)
    (made : Result SentFrame BytesFault) (row : Made CallLink) → f ≡ session_reconnect mon_client session → SendsSecure link (secure_frame link.keys f) made
    → row ≡ sent_row (node.Entity mon_client.name) at.number Reconnect callee session.client_cookie before made
    → IsRowAt (caller mon_client (Some session)) at (secured_link at.number link.ahead stage) (λ a. reconnects a (keys_alone link.keys) callee before session) row
reconnected mon_client at link stage callee before session f made row frame sends is =
    let s = rw frame at sends in
    rw is (sent_is (caller mon_client (Some session)) at link stage Reconnect callee session.client_cookie before (secure_frame link.keys (session_reconnect mon_client session)) made s)

-- a session that was taken up so often
pub took_up : (mon_client : MonClient) (at : Moment) (link : SecureWire) (stage : CallStage) (callee : Callee) (before : List SealEntry) (session : HeldSession) (count : ℕ)
    (row : Made CallLink)
    → IsRowAt (caller mon_client (Some (taken_up count session))) at (secured_link at.number link.ahead stage) (λ a. reconnects a (keys_alone link.keys) callee before (taken_up count session)) row
    → MakesFor (caller mon_client (Some session)) at (secured_link at.number link.ahead stage) (λ a. reconnects a (keys_alone link.keys) callee before (taken_up count session))
    (let made : MadeRow = Ok (record { row = row; change = Some (Session (sessions.TakesUp count)) }) in made)
took_up mon_client at link stage callee before session count row is = record { row = is.row; number_is = is.number_is }

-- ---- what waits is sent again

pub waiting_sent : (mon_client : MonClient) (at : Moment) (link : SecureWire) (stage : CallStage) (callee : Callee) (cookie last : ℕ) (session : HeldSession)
    (made : Result SentFrame BytesFault) (row : Made CallLink) → SendsSecure link (secure_frames link.keys (waiting_messages (acknowledged_up_to last session))) made
    → row ≡ sent_row (node.Entity mon_client.name) at.number Open callee cookie [] made
    → MakesFor (caller mon_client (Some session)) at (secured_link at.number link.ahead stage) (λ a. goes_on_in a (keys_alone link.keys) callee cookie (acknowledged_up_to last session))
    (let new : MadeRow = Ok (record { row = row; change = Some (Session (sessions.Acknowledges last)) }) in new)
waiting_sent mon_client at link stage callee cookie last session made row sends is =
    let held : Caller = caller mon_client (Some (acknowledged_up_to last session)) in
    let m = sent_is held at link stage Open callee cookie [] (secure_frames link.keys (waiting_messages (acknowledged_up_to last session))) made sends in
    rw is (record { row = m.row; number_is = m.number_is })

-- ---- behind the last number

pub last_taken : (a : CallArrival) (s : Secured) (callee : Callee) (before : List SealEntry) (session : HeldSession) (count : ℕ) → count ≡ session.connect_seq
    → count ≡ 2 ^ 64 - 1 → takes_up a s callee before session ≡ resets a s callee before
last_taken a s callee before session count is last =
    first_of (session.connect_seq == 2 ^ 64 - 1) (resets a s callee before) (reconnects a s callee before (record session { connect_seq = session.connect_seq + 1 }))
    (same_number session.connect_seq (2 ^ 64 - 1) (sym is ∙ last))

pub more_taken : (a : CallArrival) (s : Secured) (callee : Callee) (before : List SealEntry) (session : HeldSession) (count : ℕ) → count ≡ session.connect_seq
    → count ≢ 2 ^ 64 - 1 → takes_up a s callee before session ≡ reconnects a s callee before (taken_up (count + 1) session)
more_taken a s callee before session count is more =
    second_of (session.connect_seq == 2 ^ 64 - 1) (resets a s callee before) (reconnects a s callee before (record session { connect_seq = session.connect_seq + 1 }))
    (ne_eqb session.connect_seq (2 ^ 64 - 1) (λ same. more (is ∙ same)))
    ∙ ap (λ (n : ℕ). reconnects a s callee before (taken_up (n + 1) session)) (sym is)

pub last_retried : (a : CallArrival) (s : Secured) (callee : Callee) (kept : ℕ) (session : HeldSession) → kept ≡ 2 ^ 64 - 1
    → retries a s callee kept (Some session) ≡ resets a s callee []
last_retried a s callee kept session last =
    first_of (kept == 2 ^ 64 - 1) (resets a s callee []) (reconnects a s callee [] (record session { connect_seq = kept + 1 })) (same_number kept (2 ^ 64 - 1) last)

pub more_retried : (a : CallArrival) (s : Secured) (callee : Callee) (kept : ℕ) (session : HeldSession) → kept ≢ 2 ^ 64 - 1
    → retries a s callee kept (Some session) ≡ reconnects a s callee [] (taken_up (kept + 1) session)
more_retried a s callee kept session more =
    second_of (kept == 2 ^ 64 - 1) (resets a s callee []) (reconnects a s callee [] (record session { connect_seq = kept + 1 })) (ne_eqb kept (2 ^ 64 - 1) more)

pub last_counted : (a : CallArrival) (s : Secured) (callee : Callee) (kept : ℕ) (session : HeldSession) → kept ≡ 2 ^ 64 - 1
    → retries_global a s callee kept (Some session) ≡ resets a s callee []
last_counted a s callee kept session last =
    first_of (kept == 2 ^ 64 - 1) (resets a s callee []) (reconnects (counting a (kept + 1)) s callee [] session) (same_number kept (2 ^ 64 - 1) last)

pub more_counted : (a : CallArrival) (s : Secured) (callee : Callee) (kept : ℕ) (session : HeldSession) → kept ≢ 2 ^ 64 - 1
    → retries_global a s callee kept (Some session) ≡ reconnects (counting a (kept + 1)) s callee [] session
more_counted a s callee kept session more =
    second_of (kept == 2 ^ 64 - 1) (resets a s callee []) (reconnects (counting a (kept + 1)) s callee [] session) (ne_eqb kept (2 ^ 64 - 1) more)

-- the client's count of connections is another one
pub counted : (mon_client : MonClient) (at : Moment) (link : SecureWire) (stage : CallStage) (callee : Callee) (before : List SealEntry) (session : HeldSession) (count : ℕ)
    (row : Made CallLink)
    → IsRowAt (caller (record mon_client { global_seq = count }) (Some session)) at (secured_link at.number link.ahead stage) (λ a. reconnects a (keys_alone link.keys) callee before session) row
    → MakesFor (caller mon_client (Some session)) at (secured_link at.number link.ahead stage) (λ a. reconnects (counting a count) (keys_alone link.keys) callee before session)
    (let made : MadeRow = Ok (record { row = row; change = Some (Counts count) }) in made)
counted mon_client at link stage callee before session count row is = record { row = is.row; number_is = is.number_is }

-- ---- by the tag of a frame behind SESSION_RECONNECT

abbrev pub by_tag : ℕ → CallRow → CallRow → CallRow → CallRow → CallRow → CallRow
by_tag tag ok reset retry global other =
    if tag == 15 then ok else if tag == 12 then reset else if tag == 13 then retry else if tag == 14 then global else other

pub tag_ok : (tag : ℕ) (ok reset retry global other : CallRow) → tag ≡ 15 → by_tag tag ok reset retry global other ≡ ok
tag_ok tag ok reset retry global other e = rw e refl

pub tag_reset : (tag : ℕ) (ok reset retry global other : CallRow) → tag ≡ 12 → by_tag tag ok reset retry global other ≡ reset
tag_reset tag ok reset retry global other e = rw e refl

pub tag_retry : (tag : ℕ) (ok reset retry global other : CallRow) → tag ≡ 13 → by_tag tag ok reset retry global other ≡ retry
tag_retry tag ok reset retry global other e = rw e refl

pub tag_global : (tag : ℕ) (ok reset retry global other : CallRow) → tag ≡ 14 → by_tag tag ok reset retry global other ≡ global
tag_global tag ok reset retry global other e = rw e refl

pub tag_other : (tag : ℕ) (ok reset retry global other : CallRow) → tag ≢ 15 → tag ≢ 12 → tag ≢ 13 → tag ≢ 14 → by_tag tag ok reset retry global other ≡ other
tag_other tag ok reset retry global other a b c d = rw (ne_eqb tag 15 a, ne_eqb tag 12 b, ne_eqb tag 13 c, ne_eqb tag 14 d) refl
