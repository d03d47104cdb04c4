-- What each row of a client's link to a daemon makes of the session with that daemon, by what the row's frame says of it; and the link that goes on is for that
-- session.
use Rattle.std.proofs.Common.{◌≡◌, ℕ, ◌==◌, ◌+◌, ◌-◌, ◌^◌, Bool, true, false, List, [], ◌∷◌, Option, Some, None, Result, Ok, Err, eqb-true, refl, sym, ap, ◌∙◌, subst}
use Rattle.std.specs.Prelude.{if◌then◌else◌}
use Rattle.cx_control.specs.Idents.{ident_missing_features_layout, server_ident_layout}
use Rattle.cx_control.specs.Reconnects.{session_reconnect_ok_layout, session_reset_layout, session_retry_layout, session_retry_global_layout}
use Rattle.cx_control.specs.Upkeep.{ack_layout, keepalive2_layout, keepalive2_ack_layout}
use Rattle.cx_control.specs.declared.auth.AuthSignature.{AuthSignature}
use Rattle.cx_control.specs.declared.idents.ServerIdent.{ServerIdent}
use Rattle.cx_control.specs.declared.reconnects.SessionReconnectOk.{SessionReconnectOk}
use Rattle.cx_control.specs.declared.reconnects.SessionReset.{SessionReset}
use Rattle.cx_control.specs.declared.reconnects.SessionRetry.{SessionRetry}
use Rattle.cx_control.specs.declared.reconnects.SessionRetryGlobal.{SessionRetryGlobal}
use Rattle.cx_control.specs.declared.upkeep.Ack.{Ack}
use Rattle.cx_frame.specs.declared.frame.Frame.{Frame}
use Rattle.cx_journal.specs.declared.faults.BytesFault.{BytesFault}
use Rattle.cx_journal.specs.declared.faults.BytesFault.TheVariants.{Unexpected}
use Rattle.cx_journal.specs.declared.faults.LoginFault.TheVariants.{SignatureWrong}
use Rattle.cx_journal.specs.declared.outcomes.Reason.TheVariants as reason
use Rattle.cx_laws_sessions.proofs.queues.Sessions.{HeldIs}
use Rattle.cx_laws_sessions.specs.cx_rules.specs.Messages.{message_in, on_upkeep_or, secure_frames}
use Rattle.cx_laws_sessions.specs.cx_rules.specs.Payloads.{due, payload}
use Rattle.cx_laws_sessions.specs.cx_rules.specs.Rows.{refuses, refuses_bytes}
use Rattle.cx_laws_sessions.specs.cx_rules.specs.Secured.{Secured, is_signed, secure_frame, signature_found}
use Rattle.cx_laws_sessions.specs.cx_rules.specs.Upkeep.{on_keepalive, on_keepalive_ack}
use Rattle.cx_laws_sessions.specs.cx_rules_session.specs.Presenter.{CallArrival, CallRow, Caller, AwaitsReconnect, Open, acknowledges, counting, end_in, holding_session, identifies, on_ack, on_answer, on_answer_or_ack, on_missing_features, on_reconnect_ok, on_reset, on_retry, on_retry_global, on_server_ident, on_signature, on_signed, reconnects, resets, retries, retries_global, taken_up, takes_up, while_identified, while_reconnecting}
use Rattle.cx_laws_sessions.specs.cx_rules_session.specs.Sessions.{Callee, HeldSession, acknowledged_up_to, session_reconnect, waiting_messages}
use Rattle.cx_laws_sessions.proofs.waiting.Quiet.{GoesFor, LeavesAll, answer-leaves, identifies-leaves, keepalive-leaves, keepalive_ack-leaves, missing-leaves, secure-leaves}
use Rattle.cx_laws_sessions.specs.waiting.Heard.{Word, Silent, Took, Begins, Ends, ends_behind, said, said_open, said_reconnecting, said_signed}
use Rattle.cx_laws_sessions.specs.waiting.Keeping.{Becomes, GoesOn}
use Rattle.cx_laws_sessions.specs.waiting.Linked.{IsUnder}
use Rattle.cx_steps.specs.declared.seals.SealEntry.{SealEntry}
use Rattle.cx_laws_sessions.proofs.waiting.Going.{IsInOrder, RowIs, acknowledged-becomes, again-goes, leaves-is, refused-is}

-- ---- a session is asked for, or taken up again

-- a row that puts a session in place of the one that was held
puts-is : (a : CallArrival) (callee : Callee) (word : Word) (was now : Option HeldSession) (row : CallRow) → was ≡ a.own.session → Becomes word [] was now → LeavesAll (holding_session a now) callee row → RowIs a callee word row
puts-is a callee word was now row held becomes h =
    let session : row.own.session ≡ now = ap (λ (own : Caller). own.session) h.0 in
    record {
      becomes = subst (λ (w : Option HeldSession). Becomes word [] w row.own.session) held (subst (Becomes word [] was) (sym session) becomes);
      for = subst (λ (o : Option HeldSession). GoesFor callee o row.link) (sym session) h.1;
    }

-- a reset leaves none
resets-is : (a : CallArrival) (s : Secured) (callee : Callee) (before : List SealEntry) → RowIs a callee Ends (resets a s callee before)
resets-is a s callee before = puts-is a callee Ends a.own.session None (resets a s callee before) refl (refl, refl) (identifies-leaves (holding_session a None) refl s callee before)

-- the one that is held is taken up so often
reconnects-is : (a : CallArrival) (s : Secured) (callee : Callee) (before : List SealEntry) (session now : HeldSession) → Some session ≡ a.own.session → GoesOn Silent [] session now
    → RowIs a callee Silent (reconnects a s callee before now)
reconnects-is a s callee before session now held goes =
    puts-is a callee Silent (Some session) (Some now) (reconnects a s callee before now) held goes
    (secure-leaves (holding_session a (Some now)) callee s (λ behind. AwaitsReconnect behind callee now.client_cookie) (λ behind. (refl, refl)) before (secure_frame s.keys (session_reconnect a.own.mon_client now)))

takes_up-is : (a : CallArrival) (s : Secured) (callee : Callee) (before : List SealEntry) (session : HeldSession) → Some session ≡ a.own.session
    → RowIs a callee (ends_behind session.connect_seq) (takes_up a s callee before session)
takes_up-is a s callee before session held = by_test (session.connect_seq == 2 ^ 64 - 1)
  where
    by_test : (last : Bool) → RowIs a callee (if last then Ends else Silent)
        (if last then resets a s callee before else reconnects a s callee before (record session { connect_seq = session.connect_seq + 1 }))
    by_test true = resets-is a s callee before
    by_test false = reconnects-is a s callee before session (record session { connect_seq = session.connect_seq + 1 }) held (again-goes session (session.connect_seq + 1))

-- ---- AUTH_SIGNATURE

signed-is : (a : CallArrival) (s : Secured) (callee : Callee) (found : AuthSignature) (session : Option HeldSession) → session ≡ a.own.session
    → RowIs a callee (said_signed s session found) (if is_signed s found.signature then on_signed a s callee session else refuses a (reason.Login SignatureWrong) [])
signed-is a s callee found None held = by_test (is_signed s found.signature)
  where
    by_test : (right : Bool) → RowIs a callee Silent (if right then on_signed a s callee None else refuses a (reason.Login SignatureWrong) [])
    by_test true = leaves-is a callee (identifies a s callee (signature_found s ∷ [])) (identifies-leaves a (sym held) s callee (signature_found s ∷ []))
    by_test false = refused-is a callee (refuses a (reason.Login SignatureWrong) []) refl refl
signed-is a s callee found (Some session) held = by_test (is_signed s found.signature)
  where
    by_test : (right : Bool) → RowIs a callee (if right then ends_behind session.connect_seq else Silent)
        (if right then on_signed a s callee (Some session) else refuses a (reason.Login SignatureWrong) [])
    by_test true = takes_up-is a s callee (signature_found s ∷ []) session held
    by_test false = refused-is a callee (refuses a (reason.Login SignatureWrong) []) refl refl

pub signature-is : (a : CallArrival) (s : Secured) (callee : Callee) (read : Result AuthSignature BytesFault) → RowIs a callee (said (said_signed s a.own.session) read) (on_signature a s callee read)
signature-is a s callee (Err why) = refused-is a callee (refuses_bytes a why []) refl refl
signature-is a s callee (Ok found) = signed-is a s callee found a.own.session refl

-- ---- SERVER_IDENT, IDENT_MISSING_FEATURES

module _ (a : CallArrival) (none : a.own.session ≡ None) (s : Secured) (callee : Callee) (cookie : ℕ) where
  server_ident-is : (read : Result ServerIdent BytesFault) → RowIs a callee (said (λ ident. Begins) read) (on_server_ident a s callee cookie read)
  server_ident-is (Err why) = refused-is a callee (refuses_bytes a why []) refl refl
  server_ident-is (Ok ident) = record { becomes = (none, (refl, refl), refl); for = (refl, refl) }

  pub identified-is : (f : Frame) → RowIs a callee (said (λ ident. Begins) (due 9 server_ident_layout.form f)) (while_identified a s callee cookie f)
  identified-is f = by_test (f.tag == 10) refl
    where
      other : (f.tag == 10) ≡ true → (f.tag == 9) ≡ false
      other is = ap (λ (n : ℕ). n == 9) (eqb-true f.tag 10 is)

      by_test : (lacks : Bool) → (f.tag == 10) ≡ lacks → RowIs a callee (said (λ ident. Begins) (due 9 server_ident_layout.form f))
          (if lacks then on_missing_features a (payload ident_missing_features_layout.form f) else on_server_ident a s callee cookie (due 9 server_ident_layout.form f))
      by_test true is =
          let row : CallRow = on_missing_features a (payload ident_missing_features_layout.form f) in
          subst (λ (t : Bool). RowIs a callee (said (λ (ident : ServerIdent). Begins) (if t then payload server_ident_layout.form f else Err (Unexpected f.tag))) row) (sym (other is))
          (leaves-is a callee row (missing-leaves a callee (payload ident_missing_features_layout.form f)))
      by_test false is = server_ident-is (due 9 server_ident_layout.form f)

-- ---- SESSION_RECONNECT_OK, SESSION_RESET, SESSION_RETRY, SESSION_RETRY_GLOBAL, ACK

module _ (a : CallArrival) (ok : HeldIs IsInOrder a.own.session) (s : Secured) (callee : Callee) (cookie : ℕ) (under : IsUnder cookie a.own.session) where
  -- it is held
  no_session : {X : Type 0} → None ≡ a.own.session → X
  no_session held = absurd (subst (IsUnder cookie) (sym held) under)

  -- what the daemon took doesn't wait any more
  taken_up-is : (last : ℕ) (session : Option HeldSession) → session ≡ a.own.session → RowIs a callee (Took last) (taken_up a s callee cookie last session)
  taken_up-is last None held = no_session held
  taken_up-is last (Some session) held =
      let now : HeldSession = acknowledged_up_to last session in
      let its : session.client_cookie ≡ cookie = subst (IsUnder cookie) (sym held) under in
      puts-is a callee (Took last) (Some session) (Some now) (taken_up a s callee cookie last (Some session)) held (acknowledged-becomes last session (subst (HeldIs IsInOrder) (sym held) ok))
      (secure-leaves (holding_session a (Some now)) callee s (λ behind. Open behind callee cookie) (λ behind. (refl, its)) [] (secure_frames s.keys (waiting_messages now)))

  acknowledges-is : (seq : ℕ) (session : Option HeldSession) → session ≡ a.own.session → RowIs a callee (Took seq) (acknowledges a s callee cookie seq session)
  acknowledges-is seq None held = no_session held
  acknowledges-is seq (Some session) held =
      let its : session.client_cookie ≡ cookie = subst (IsUnder cookie) (sym held) under in
      puts-is a callee (Took seq) (Some session) (Some (acknowledged_up_to seq session)) (acknowledges a s callee cookie seq (Some session)) held
      (acknowledged-becomes seq session (subst (HeldIs IsInOrder) (sym held) ok)) (refl, (refl, its))

  reconnect_ok-is : (read : Result SessionReconnectOk BytesFault) → RowIs a callee (said (λ told. Took told.seq) read) (on_reconnect_ok a s callee cookie read)
  reconnect_ok-is (Err why) = refused-is a callee (refuses_bytes a why []) refl refl
  reconnect_ok-is (Ok told) = taken_up-is told.seq a.own.session refl

  ack-is : (read : Result Ack BytesFault) → RowIs a callee (said (λ ack. Took ack.seq) read) (on_ack a s callee cookie read)
  ack-is (Err why) = refused-is a callee (refuses_bytes a why []) refl refl
  ack-is (Ok ack) = acknowledges-is ack.seq a.own.session refl

  reset-is : (read : Result SessionReset BytesFault) → RowIs a callee (said (λ reset. Ends) read) (on_reset a s callee read)
  reset-is (Err why) = refused-is a callee (refuses_bytes a why []) refl refl
  reset-is (Ok reset) = resets-is a s callee []

  retries-is : (kept : ℕ) (session : Option HeldSession) → session ≡ a.own.session → RowIs a callee (ends_behind kept) (retries a s callee kept session)
  retries-is kept None held = no_session held
  retries-is kept (Some session) held = by_test (kept == 2 ^ 64 - 1)
    where
      by_test : (last : Bool) → RowIs a callee (if last then Ends else Silent) (if last then resets a s callee [] else reconnects a s callee [] (record session { connect_seq = kept + 1 }))
      by_test true = resets-is a s callee []
      by_test false = reconnects-is a s callee [] session (record session { connect_seq = kept + 1 }) held (again-goes session (kept + 1))

  retry-is : (read : Result SessionRetry BytesFault) → RowIs a callee (said (λ retry. ends_behind retry.connect_seq) read) (on_retry a s callee read)
  retry-is (Err why) = refused-is a callee (refuses_bytes a why []) refl refl
  retry-is (Ok retry) = retries-is retry.connect_seq a.own.session refl

  counted-is : (global : ℕ) (word : Word) (row : CallRow) → RowIs (counting a global) callee word row → RowIs a callee word row
  counted-is global word row h = record { becomes = h.becomes; for = h.for }

  retries_global-is : (kept : ℕ) (session : Option HeldSession) → session ≡ a.own.session → RowIs a callee (ends_behind kept) (retries_global a s callee kept session)
  retries_global-is kept None held = no_session held
  retries_global-is kept (Some session) held = by_test (kept == 2 ^ 64 - 1)
    where
      by_test : (last : Bool) → RowIs a callee (if last then Ends else Silent) (if last then resets a s callee [] else reconnects (counting a (kept + 1)) s callee [] session)
      by_test true = resets-is a s callee []
      by_test false =
          counted-is (kept + 1) Silent (reconnects (counting a (kept + 1)) s callee [] session)
          (reconnects-is (counting a (kept + 1)) s callee [] session session held (again-goes session session.connect_seq))

  retry_global-is : (read : Result SessionRetryGlobal BytesFault) → RowIs a callee (said (λ retry. ends_behind retry.global_seq) read) (on_retry_global a s callee read)
  retry_global-is (Err why) = refused-is a callee (refuses_bytes a why []) refl refl
  retry_global-is (Ok retry) = retries_global-is retry.global_seq a.own.session refl

  pub reconnecting-is : (f : Frame) → RowIs a callee (said_reconnecting f) (while_reconnecting a s callee cookie f)
  reconnecting-is f = by_tests (f.tag == 15) (f.tag == 12) (f.tag == 13) (f.tag == 14)
    where
      by_tests : (told reset retry global : Bool) → RowIs a callee
          (if told then said (λ ok. Took ok.seq) (payload session_reconnect_ok_layout.form f)
          else if reset then said (λ reset. Ends) (payload session_reset_layout.form f)
          else if retry then said (λ retry. ends_behind retry.connect_seq) (payload session_retry_layout.form f)
          else if global then said (λ retry. ends_behind retry.global_seq) (payload session_retry_global_layout.form f)
          else Silent)
          (if told then on_reconnect_ok a s callee cookie (payload session_reconnect_ok_layout.form f)
          else if reset then on_reset a s callee (payload session_reset_layout.form f)
          else if retry then on_retry a s callee (payload session_retry_layout.form f)
          else if global then on_retry_global a s callee (payload session_retry_global_layout.form f)
          else refuses_bytes a (Unexpected f.tag) [])
      by_tests true reset retry global = reconnect_ok-is (payload session_reconnect_ok_layout.form f)
      by_tests false true retry global = reset-is (payload session_reset_layout.form f)
      by_tests false false true global = retry-is (payload session_retry_layout.form f)
      by_tests false false false true = retry_global-is (payload session_retry_global_layout.form f)
      by_tests false false false false = refused-is a callee (refuses_bytes a (Unexpected f.tag) []) refl refl

  -- ---- an open link

  answer_or_ack-is : (f : Frame) → RowIs a callee (said_open f) (on_answer_or_ack a s callee cookie f)
  answer_or_ack-is f = by_test (f.tag == 20)
    where
      by_test : (ack : Bool) → RowIs a callee (if ack then said (λ ack. Took ack.seq) (payload ack_layout.form f) else Silent)
          (if ack then on_ack a s callee cookie (payload ack_layout.form f) else on_answer a s callee cookie (end_in (message_in f)))
      by_test true = ack-is (payload ack_layout.form f)
      by_test false = leaves-is a callee (on_answer a s callee cookie (end_in (message_in f))) (answer-leaves a s callee cookie under (end_in (message_in f)))

  -- a keepalive says nothing of it
  upkeep-silent : (f : Frame) (other : ℕ) → f.tag ≡ other → (other == 20) ≡ false → said_open f ≡ Silent
  upkeep-silent f other is off =
      ap (λ (t : Bool). if t then said (λ (ack : Ack). Took ack.seq) (payload ack_layout.form f) else Silent) (ap (λ (n : ℕ). n == 20) is ∙ off)

  pub open-is : (f : Frame) → RowIs a callee (said_open f) (on_upkeep_or (on_answer_or_ack a s callee cookie) a s (λ behind. Open behind callee cookie) f)
  open-is f = by_tests (f.tag == 18) (f.tag == 19) refl refl
    where
      by_tests : (ask ack : Bool) → (f.tag == 18) ≡ ask → (f.tag == 19) ≡ ack → RowIs a callee (said_open f)
          (if ask then on_keepalive a s (λ behind. Open behind callee cookie) (payload keepalive2_layout.form f)
          else if ack then on_keepalive_ack a s (λ behind. Open behind callee cookie) (payload keepalive2_ack_layout.form f) else on_answer_or_ack a s callee cookie f)
      by_tests true ack is other =
          let row : CallRow = on_keepalive a s (λ behind. Open behind callee cookie) (payload keepalive2_layout.form f) in
          subst (λ (w : Word). RowIs a callee w row) (sym (upkeep-silent f 18 (eqb-true f.tag 18 is) refl))
          (leaves-is a callee row (keepalive-leaves a s callee cookie under (payload keepalive2_layout.form f)))
      by_tests false true is other =
          let row : CallRow = on_keepalive_ack a s (λ behind. Open behind callee cookie) (payload keepalive2_ack_layout.form f) in
          subst (λ (w : Word). RowIs a callee w row) (sym (upkeep-silent f 19 (eqb-true f.tag 19 other) refl))
          (leaves-is a callee row (keepalive_ack-leaves a s callee cookie under (payload keepalive2_ack_layout.form f)))
      by_tests false false is other = answer_or_ack-is f
