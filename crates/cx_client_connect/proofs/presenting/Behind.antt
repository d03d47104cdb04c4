-- Rows behind what was drawn or what opened, and those by what a daemon answered.
use Rattle.std.proofs.Common.{◌≡◌, ◌≢◌, ◌∙◌, ℕ, ◌==◌, Bool, true, false, List, [], ◌∷◌, ◌++◌, Some, Result, Ok, Err, refl, sym, ap, append-nil, arith}
use Rattle.std.proofs.lemmas.Bool.{ne_eqb}
use Rattle.std.proofs.lemmas.Bool.Decides.{nat_tests}
use Rattle.std.specs.Prelude.{take, if◌then◌else◌}
use Rattle.cx_authorize.specs.Client.{Answered, IsAgreed, IsAsked, IsUnasked, Presented, challenge_in, reply_in}
use Rattle.cx_authorize.specs.Verdict.{raised}
use Rattle.cx_authorize.specs.declared.client.Agreed.{Agreed}
use Rattle.cx_authorize.specs.declared.refusals.PresentRefusal.{PresentRefusal}
use Rattle.cx_authorize.specs.declared.refusals.PresentRefusal.TheVariants as refusal
use Rattle.cx_control.specs.BadMethod.{bad_method_layout, kept_method}
use Rattle.cx_control.specs.declared.bad_method.AuthBadMethod.{AuthBadMethod}
use Rattle.cx_control.specs.cx_enc.specs.Forms.{IsBytes}
use Rattle.cx_frame.specs.declared.frame.Frame.{Frame}
use Rattle.cx_journal.specs.declared.faults.BytesFault.{BytesFault}
use Rattle.cx_journal.specs.declared.faults.BytesFault.TheVariants.{Malformed}
use Rattle.cx_journal.specs.declared.faults.LoginFault.TheVariants.{NonceWrong, Unopened}
use Rattle.cx_journal.specs.declared.outcomes.Reason.{Reason}
use Rattle.cx_journal.specs.declared.outcomes.Reason.TheVariants as reason
use Rattle.cx_node.specs.Parts.{part_of}
use Rattle.cx_node.specs.cx_rules.proofs.Payloads.{refused_is, spelled_is}
use Rattle.cx_node.specs.cx_rules.specs.Payloads as payload
use Rattle.cx_node.specs.cx_rules.specs.Payloads.{whole}
use Rattle.cx_node.specs.cx_rules.specs.Rows.{goes_on, refuses, refuses_bytes, unless_refused, with_opened}
use Rattle.cx_node.specs.cx_rules.specs.Secured.{SealedFrame, connector_keys, plain_frame, signed_frame}
use Rattle.cx_client_connect.specs.cx_rules_session.specs.Envelopes.{authorize_content, sends_holding, session_sealed}
use Rattle.cx_client_connect.specs.cx_rules_session.specs.Forgets.{abridged_call_link}
use Rattle.cx_client_connect.specs.cx_rules_session.specs.Presenter.{AwaitsDone, AwaitsSignature, CallArrival, CallRow, CallStage, agrees, answers_challenge, on_authorize_reply, on_bad_method, on_challenge, on_unlocked, second_frame, signs}
use Rattle.cx_client_connect.specs.cx_rules_session.specs.Sessions.{Callee}
use Rattle.cx_steps.specs.declared.seals.SealEntry.{SealEntry}
use Rattle.cx_node.proofs.steps.MadeRows.{behind_as, unless_behind}
use Rattle.cx_node.specs.steps.Making as making
use Rattle.cx_node.specs.steps.Making.{IsRowOf}
use Rattle.cx_node.specs.declared.steps_rows.NoRow.{NoRow}
use Rattle.cx_node.specs.declared.steps_rows.NoRow.TheVariants.{Refused}
use Rattle.cx_node.specs.declared.steps_rows.NodeRow.{NodeRow}
use Rattle.cx_login.specs.cx_wire.specs.Logins.{authorize_challenge_layout, authorize_reply_layout}
use Rattle.cx_client_connect.specs.presenting.Rows.{changed, denied, no_row}
use Rattle.cx_client_connect.specs.presenting.Stages.{CallLink}
use Rattle.cx_client_connect.specs.declared.rows.Change.{Change}

abbrev Made : Type 0
Made = Result (NodeRow CallLink Change) NoRow

-- what is sealed for a frame stands behind what was logged before
pub holding_behind : (a : CallArrival) (stage : CallStage) (opened held : List SealEntry) (made : Result (List ℕ) BytesFault)
    → with_opened opened (unless_refused a [] made (λ bytes. goes_on a stage bytes held)) ≡ unless_refused a opened made (λ bytes. goes_on a stage bytes (opened ++ held))
holding_behind a stage opened held made = unless_behind a opened made (λ (bytes : List ℕ). goes_on a stage bytes held)

-- ---- AUTH_BAD_METHOD, or the frame that is due

denied_is : (a : CallArrival) (r : Result (ℕ × (ℕ × (List ℕ × List ℕ))) BytesFault) → on_bad_method a r ≡ denied a (part_of kept_method r)
denied_is a (Ok fields) = refl
denied_is a (Err why) = refl

pub first_of : (b : Bool) (x y : CallRow) → b ≡ true → (if b then x else y) ≡ x
first_of b x y holds = rw holds refl

pub second_of : (b : Bool) (x y : CallRow) → b ≡ false → (if b then x else y) ≡ y
second_of b x y fails = rw fails refl

pub same_number : (n m : ℕ) → n ≡ m → (n == m) ≡ true
same_number n m e = grind (arith, nat_tests)

pub read_denied : (a : CallArrival) (f : Frame) (other : CallRow) (read : Result AuthBadMethod BytesFault) → f.tag ≡ 3
    → read ≡ part_of kept_method (payload.payload bad_method_layout.form f)
    → (if f.tag == 3 then on_bad_method a (payload.payload bad_method_layout.form f) else other) ≡ denied a read
read_denied a f other read t r =
    first_of (f.tag == 3) (on_bad_method a (payload.payload bad_method_layout.form f)) other (same_number f.tag 3 t)
    ∙ denied_is a (payload.payload bad_method_layout.form f) ∙ ap (denied a) (sym r)

pub read_due : (a : CallArrival) (f : Frame) (other : CallRow) → f.tag ≢ 3
    → (if f.tag == 3 then on_bad_method a (payload.payload bad_method_layout.form f) else other) ≡ other
read_due a f other t = second_of (f.tag == 3) (on_bad_method a (payload.payload bad_method_layout.form f)) other (ne_eqb f.tag 3 t)

-- ---- the daemon's challenge

abbrev pub answered_row : CallArrival → Callee → Presented → List SealEntry → ℕ → CallRow
answered_row a callee p opened challenge =
    sends_holding a (AwaitsDone callee (record { session = p.held.session; nonce = p.nonce })) opened
    (session_sealed p.held.session (authorize_content p.nonce (Some challenge)) ∷ []) (second_frame p challenge)

pub challenge_taken : (a : CallArrival) (callee : Callee) (p : Presented) (bytes : List ℕ) (new : List SealEntry) (challenge : ℕ) → IsAsked p bytes [] new (Ok challenge)
    → with_opened new (answered_row a callee p [] challenge) ≡ on_challenge a callee p (whole authorize_challenge_layout.form bytes)
challenge_taken a callee p bytes new challenge (sent, spells, asked, made, is) =
    let u = challenge_in p.held.session sent.sealed in
    holding_behind a (AwaitsDone callee (record { session = p.held.session; nonce = p.nonce })) new
    (session_sealed p.held.session (authorize_content p.nonce (Some challenge)) ∷ []) (plain_frame (second_frame p challenge))
    ∙ ap (answered_row a callee p new) is
    ∙ ap (λ (opened : List SealEntry). answers_challenge a callee p opened (Some asked)) made.1
    ∙ ap (answers_challenge a callee p u.seals) made.0
    ∙ sym (ap (on_challenge a callee p) (spelled_is authorize_challenge_layout bytes sent spells))

-- a row of a refusal, behind what opened
refused_behind : (a : CallArrival) (why : Reason) (opened : List SealEntry) (row : NodeRow CallLink Change) (due : CallRow) → refuses a why opened ≡ due
    → IsRowOf a.me a.link.number opened (Err (Refused why)) row → making.Makes abridged_call_link changed a due (let made : Made = Ok row in made)
refused_behind a why opened row due e is =
    behind_as abridged_call_link changed a opened (refuses a why []) due (Err (Refused why)) row (ap (λ (seals : List SealEntry). refuses a why seals) (append-nil opened) ∙ e) refl is

pub challenge_refused : (a : CallArrival) (callee : Callee) (p : Presented) (bytes : List ℕ) (new : List SealEntry) (why : PresentRefusal) (row : NodeRow CallLink Change)
    → IsBytes bytes → IsUnasked p bytes [] new why → IsRowOf a.me a.link.number new (let none : Made = Err (no_row why) in none) row
    → making.Makes abridged_call_link changed a (on_challenge a callee p (whole authorize_challenge_layout.form bytes)) (let made : Made = Ok row in made)
challenge_refused a callee p bytes new refusal.Unopened row octets (sent, spells, made) is =
    let u = challenge_in p.held.session sent.sealed in
    refused_behind a (reason.Login Unopened) new row (on_challenge a callee p (whole authorize_challenge_layout.form bytes))
    (ap (λ (seals : List SealEntry). refuses a (reason.Login Unopened) seals) made.1
    ∙ ap (answers_challenge a callee p u.seals) made.0
    ∙ sym (ap (on_challenge a callee p) (spelled_is authorize_challenge_layout bytes sent spells))) is
challenge_refused a callee p bytes new (refusal.Malformed place) row octets (refused, same) is =
    refused_behind a (reason.Bytes (Malformed place)) new row (on_challenge a callee p (whole authorize_challenge_layout.form bytes))
    (ap (λ (seals : List SealEntry). refuses_bytes a (Malformed place) seals) same
    ∙ sym (ap (on_challenge a callee p) (refused_is authorize_challenge_layout bytes place octets refused))) is
challenge_refused a callee p bytes new (refusal.NonceWrong expected got) row octets none is = absurd none
challenge_refused a callee p bytes new refusal.OutOfMemory row octets none is = absurd is

-- ---- the daemon's reply

-- AUTH_SIGNATURE is sent by what was agreed on
abbrev pub signed_row : CallArrival → Callee → ℕ → List SealEntry → Agreed → CallRow
signed_row a callee nonce opened agreed =
    signs a callee (record { session = agreed.session; nonce = nonce }) opened (signed_frame (connector_keys agreed.secret) agreed.session (take a.link.taken a.link.received))

signed_behind : (a : CallArrival) (callee : Callee) (answered : Answered) (opened : List SealEntry) (made : Result SealedFrame BytesFault)
    → with_opened opened (signs a callee answered [] made) ≡ signs a callee answered opened made
signed_behind a callee answered opened made =
    unless_behind a opened made (λ (sealed : SealedFrame).
    goes_on a (AwaitsSignature (record { keys = sealed.keys; session = answered.session; covered = a.link.sent }) callee) sealed.bytes sealed.seals)

pub reply_taken : (a : CallArrival) (callee : Callee) (answered : Answered) (bytes : List ℕ) (new : List SealEntry) (agreed : Agreed) → IsAgreed answered bytes [] new (Ok agreed)
    → with_opened new (signed_row a callee answered.nonce [] agreed) ≡ on_authorize_reply a callee answered (whole authorize_reply_layout.form bytes)
reply_taken a callee answered bytes new agreed (reply, (sent, spells, made), nonce, is) =
    let u = reply_in answered.session sent.sealed in
    signed_behind a callee (record { session = agreed.session; nonce = answered.nonce }) new
    (signed_frame (connector_keys agreed.secret) agreed.session (take a.link.taken a.link.received))
    ∙ ap (signed_row a callee answered.nonce new) is
    ∙ sym (first_of (reply.nonce_plus_one == raised answered.nonce)
    (signs a callee answered new (signed_frame (connector_keys reply.secret) answered.session (take a.link.taken a.link.received)))
    (refuses a (reason.Login (NonceWrong (raised answered.nonce) reply.nonce_plus_one)) new) (same_number reply.nonce_plus_one (raised answered.nonce) nonce))
    ∙ ap (λ (opened : List SealEntry). agrees a callee answered opened reply) made.1
    ∙ ap (on_unlocked a callee answered u.seals) made.0
    ∙ sym (ap (on_authorize_reply a callee answered) (spelled_is authorize_reply_layout bytes sent spells))

pub reply_refused : (a : CallArrival) (callee : Callee) (answered : Answered) (bytes : List ℕ) (new : List SealEntry) (why : PresentRefusal) (row : NodeRow CallLink Change)
    → IsBytes bytes → IsAgreed answered bytes [] new (Err why) → IsRowOf a.me a.link.number new (let none : Made = Err (no_row why) in none) row
    → making.Makes abridged_call_link changed a (on_authorize_reply a callee answered (whole authorize_reply_layout.form bytes)) (let made : Made = Ok row in made)
reply_refused a callee answered bytes new refusal.Unopened row octets (sent, spells, made) is =
    let u = reply_in answered.session sent.sealed in
    refused_behind a (reason.Login Unopened) new row (on_authorize_reply a callee answered (whole authorize_reply_layout.form bytes))
    (ap (λ (seals : List SealEntry). refuses a (reason.Login Unopened) seals) made.1
    ∙ ap (on_unlocked a callee answered u.seals) made.0
    ∙ sym (ap (on_authorize_reply a callee answered) (spelled_is authorize_reply_layout bytes sent spells))) is
reply_refused a callee answered bytes new (refusal.NonceWrong expected got) row octets (reply, (sent, spells, made), one, two, other) is =
    let u = reply_in answered.session sent.sealed in
    let fails : (reply.nonce_plus_one == raised answered.nonce) ≡ false = ne_eqb reply.nonce_plus_one (raised answered.nonce) (λ same. other (two ∙ same ∙ sym one)) in
    refused_behind a (reason.Login (NonceWrong expected got)) new row (on_authorize_reply a callee answered (whole authorize_reply_layout.form bytes))
    (ap (λ (n : ℕ). refuses a (reason.Login (NonceWrong n got)) new) one
    ∙ ap (λ (n : ℕ). refuses a (reason.Login (NonceWrong (raised answered.nonce) n)) new) two
    ∙ sym (second_of (reply.nonce_plus_one == raised answered.nonce)
    (signs a callee answered new (signed_frame (connector_keys reply.secret) answered.session (take a.link.taken a.link.received)))
    (refuses a (reason.Login (NonceWrong (raised answered.nonce) reply.nonce_plus_one)) new) fails)
    ∙ ap (λ (opened : List SealEntry). agrees a callee answered opened reply) made.1
    ∙ ap (on_unlocked a callee answered u.seals) made.0
    ∙ sym (ap (on_authorize_reply a callee answered) (spelled_is authorize_reply_layout bytes sent spells))) is
reply_refused a callee answered bytes new (refusal.Malformed place) row octets (refused, same) is =
    refused_behind a (reason.Bytes (Malformed place)) new row (on_authorize_reply a callee answered (whole authorize_reply_layout.form bytes))
    (ap (λ (seals : List SealEntry). refuses_bytes a (Malformed place) seals) same
    ∙ sym (ap (on_authorize_reply a callee answered) (refused_is authorize_reply_layout bytes place octets refused))) is
reply_refused a callee answered bytes new refusal.OutOfMemory row octets none is = absurd is
