-- A client's link to a daemon behind the daemon's reply: what each of its rows logs stands under the link's key, which it keeps, and nothing is signed.
use Rattle.std.proofs.Common.{◌≡◌, ℕ, ◌==◌, ◌-◌, ◌+◌, ◌^◌, Bool, true, false, List, [], ◌∷◌, ◌++◌, Option, Some, None, Result, Ok, Err, refl, sym, subst}
use Rattle.std.specs.Prelude.{if◌then◌else◌}
use Rattle.cx_control.specs.Idents.{ident_missing_features_layout, server_ident_layout}
use Rattle.cx_control.specs.Reconnects.{session_reconnect_ok_layout, session_reset_layout, session_retry_layout, session_retry_global_layout}
use Rattle.cx_control.specs.Upkeep.{ack_layout, keepalive2_layout, keepalive2_ack_layout}
use Rattle.cx_control.specs.declared.auth.AuthSignature.{AuthSignature}
use Rattle.cx_control.specs.declared.idents.IdentMissingFeatures.{IdentMissingFeatures}
use Rattle.cx_control.specs.declared.idents.ServerIdent.{ServerIdent}
use Rattle.cx_control.specs.declared.reconnects.SessionReconnectOk.{SessionReconnectOk}
use Rattle.cx_control.specs.declared.reconnects.SessionReset.{SessionReset}
use Rattle.cx_control.specs.declared.reconnects.SessionRetry.{SessionRetry}
use Rattle.cx_control.specs.declared.reconnects.SessionRetryGlobal.{SessionRetryGlobal}
use Rattle.cx_control.specs.declared.upkeep.Ack.{Ack}
use Rattle.cx_control.specs.declared.upkeep.Keepalive2.{Keepalive2}
use Rattle.cx_control.specs.declared.upkeep.Keepalive2Ack.{Keepalive2Ack}
use Rattle.cx_dice.specs.Draws.{cookie_of}
use Rattle.cx_frame.specs.declared.frame.Frame.{Frame}
use Rattle.cx_journal.specs.declared.faults.BytesFault.{BytesFault}
use Rattle.cx_journal.specs.declared.faults.BytesFault.TheVariants.{Features, Unexpected}
use Rattle.cx_journal.specs.declared.faults.LoginFault.TheVariants.{SignatureWrong}
use Rattle.cx_journal.specs.declared.outcomes.Reason.TheVariants as reason
use Rattle.cx_laws_run.specs.cx_rules.specs.Connector.{client_ident}
use Rattle.cx_laws_run.specs.cx_rules.specs.Messages.{message_in, on_upkeep_or, sealed_behind, sealed_then, secure_frames}
use Rattle.cx_laws_run.specs.cx_rules.specs.Payloads.{due, payload}
use Rattle.cx_laws_run.specs.cx_rules.specs.Rows.{refuses, refuses_bytes, secure_sent, with_opened}
use Rattle.cx_laws_run.specs.cx_rules.specs.Secured.{Keys, SealedFrame, Secured, is_signed, secure_frame, signature_found}
use Rattle.cx_laws_run.specs.cx_rules.specs.Upkeep.{on_keepalive, on_keepalive_ack}
use Rattle.cx_laws_run.specs.cx_rules_session.specs.Lossy.{lossy_flags}
use Rattle.cx_laws_run.specs.cx_rules_session.specs.Presenter.{CallArrival, CallRow, CallStage, AwaitsIdent, AwaitsReconnect, Open, OperationEnd, acknowledges, counting, end_in, holding_session, identifies, on_ack, on_answer, on_answer_or_ack, on_missing_features, on_reconnect_ok, on_reset, on_retry, on_retry_global, on_server_ident, on_signature, on_signed, reconnects, resets, retries, retries_global, taken_up, takes_up, while_identified, while_reconnecting}
use Rattle.cx_laws_run.specs.cx_rules_session.specs.Sessions.{Callee, HeldSession, acknowledged_up_to, held_gid, session_reconnect, waiting_messages}
use Rattle.cx_secure.specs.Plains.{plains}
use Rattle.cx_steps.specs.declared.seals.DrawMark.TheVariants as draw
use Rattle.cx_steps.specs.declared.seals.SealEntry.{SealEntry}
use Rattle.cx_steps.specs.declared.seals.SealEntry.TheVariants as entry
use Rattle.cx_laws_run.proofs.cover.CallKnown.{AreHarmless, CallKnown, IsHarmless, IsOfDaemon}
use Rattle.cx_laws_run.proofs.cover.CallOpening.{RowKnown, parts-harmless}
use Rattle.cx_laws_run.specs.cx_laws_keys.proofs.keys.Lists.{all-append}
use Rattle.cx_laws_run.specs.cx_laws_keys.proofs.keys.Uses.{Uses}
use Rattle.cx_laws_run.specs.cx_laws_keys.proofs.series.Frames.{frame-sealed}

module _ (us : Uses) where
  abbrev R : CallArrival → CallRow → Type 0
  R a row = RowKnown us a.link.number row

  -- ---- frames

  -- frames that are sealed in one piece
  abbrev pub FramesKnown : Result SealedFrame BytesFault → Type 0
  FramesKnown (Ok sealed) = AreHarmless us sealed.seals × IsOfDaemon us sealed.keys.key
  FramesKnown (Err why) = Unit {0}

  frame-one : (keys : Keys) (f : Frame) (sealed : SealedFrame) → IsOfDaemon us keys.key → secure_frame keys f ≡ Ok sealed → FramesKnown (Ok sealed)
  frame-one keys f sealed key made =
      let is = (frame-sealed keys f sealed made).0 in
      subst (λ (x : SealedFrame). FramesKnown (Ok x)) (sym is) (parts-harmless us keys.key keys.out.fixed keys.out.counter (plains f) key, key)

  pub frame-known : (keys : Keys) (f : Frame) → IsOfDaemon us keys.key → FramesKnown (secure_frame keys f)
  frame-known keys f key = by_made (secure_frame keys f) refl
    where
      by_made : (r : Result SealedFrame BytesFault) → secure_frame keys f ≡ r → FramesKnown r
      by_made (Err why) made = tt
      by_made (Ok sealed) made = frame-one keys f sealed key made

  frames-known : (keys : Keys) (fs : List Frame) → IsOfDaemon us keys.key → FramesKnown (secure_frames keys fs)
  frames-known keys [] key = (tt, key)
  frames-known keys (f ∷ fs) key = by_first (secure_frame keys f) (frame-known keys f key) (λ k moved. frames-known k fs moved)
    where
      by_rest : (one : SealedFrame) → AreHarmless us one.seals → (r : Result SealedFrame BytesFault) → FramesKnown r → FramesKnown (sealed_behind one r)
      by_rest one h (Err why) rest = tt
      by_rest one h (Ok more) rest = (all-append (IsHarmless us) one.seals more.seals h rest.0, rest.1)

      by_first : (r : Result SealedFrame BytesFault) → FramesKnown r → ((k : Keys) → IsOfDaemon us k.key → FramesKnown (secure_frames k fs))
          → FramesKnown (sealed_then r (λ one. sealed_behind one (secure_frames one.keys fs)))
      by_first (Err why) h rest = tt
      by_first (Ok one) h rest = by_rest one h.0 (secure_frames one.keys fs) (rest one.keys h.1)

  -- ---- the ways in which a row ends

  module _ (a : CallArrival) where
    shut-known : (why : BytesFault) → R a (refuses_bytes a why [])
    shut-known why = record { link = tt; harmless = tt }

    secure-known : (s : Secured) (stage : Secured → CallStage) (before : List SealEntry) (r : Result SealedFrame BytesFault) → FramesKnown r
        → ((t : Secured) → IsOfDaemon us t.keys.key → CallKnown us a.link.received a.link.taken (stage t)) → AreHarmless us before → R a (secure_sent a s stage before r)
    secure-known s stage before (Err why) h known first = record { link = tt; harmless = first }
    secure-known s stage before (Ok sealed) h known first =
        record { link = (refl, known (record s { keys = sealed.keys }) h.1); harmless = all-append (IsHarmless us) before sealed.seals first h.0 }

  module _ (s : Secured) (callee : Callee) (key : IsOfDaemon us s.keys.key) where
    identifies-known : (a : CallArrival) (before : List SealEntry) → AreHarmless us before → R a (identifies a s callee before)
    identifies-known a before h =
        let cookie : ℕ = cookie_of a.draw in
        secure-known a s (λ behind. AwaitsIdent behind callee cookie) (before ++ entry.Drawn (draw.Cookie cookie) ∷ [])
        (secure_frame s.keys (client_ident a.own.mon_client (held_gid a.own.mon_client.holdings) (lossy_flags callee.lossy) cookie)) (frame-known s.keys _ key) (λ t k. k)
        (all-append (IsHarmless us) before (entry.Drawn (draw.Cookie cookie) ∷ []) h (tt, tt))

    resets-known : (a : CallArrival) (before : List SealEntry) → AreHarmless us before → R a (resets a s callee before)
    resets-known a before h = let row = identifies-known (holding_session a None) before h in record { link = row.link; harmless = row.harmless }

    reconnects-known : (a : CallArrival) (before : List SealEntry) (session : HeldSession) → AreHarmless us before → R a (reconnects a s callee before session)
    reconnects-known a before session h =
        secure-known (holding_session a (Some session)) s (λ behind. AwaitsReconnect behind callee session.client_cookie) before
        (secure_frame s.keys (session_reconnect a.own.mon_client session)) (frame-known s.keys _ key) (λ t k. k) h

    takes_up-known : (a : CallArrival) (before : List SealEntry) (session : HeldSession) → AreHarmless us before → R a (takes_up a s callee before session)
    takes_up-known a before session h = by_test (session.connect_seq == 2 ^ 64 - 1)
      where
        by_test : (last : Bool) → R a (if last then resets a s callee before else reconnects a s callee before (record session { connect_seq = session.connect_seq + 1 }))
        by_test true = resets-known a before h
        by_test false = reconnects-known a before (record session { connect_seq = session.connect_seq + 1 }) h

    -- ---- AUTH_SIGNATURE

    signed-known : (a : CallArrival) (session : Option HeldSession) → R a (on_signed a s callee session)
    signed-known a None = identifies-known a (signature_found s ∷ []) (tt, tt)
    signed-known a (Some session) = takes_up-known a (signature_found s ∷ []) session (tt, tt)

    pub signature-known : (a : CallArrival) (read : Result AuthSignature BytesFault) → R a (on_signature a s callee read)
    signature-known a (Err why) = shut-known a why
    signature-known a (Ok found) = by_test (is_signed s found.signature)
      where
        by_test : (right : Bool) → R a (if right then on_signed a s callee a.own.session else refuses a (reason.Login SignatureWrong) [])
        by_test true = signed-known a a.own.session
        by_test false = record { link = tt; harmless = tt }

    -- ---- SERVER_IDENT, IDENT_MISSING_FEATURES

    server_ident-known : (a : CallArrival) (cookie : ℕ) (read : Result ServerIdent BytesFault) → R a (on_server_ident a s callee cookie read)
    server_ident-known a cookie (Err why) = shut-known a why
    server_ident-known a cookie (Ok ident) = record { link = (refl, key); harmless = tt }

    missing-known : (a : CallArrival) (read : Result IdentMissingFeatures BytesFault) → R a (on_missing_features a read)
    missing-known a (Err why) = shut-known a why
    missing-known a (Ok missing) = shut-known a (Features missing.features)

    pub identified-known : (a : CallArrival) (cookie : ℕ) (f : Frame) → R a (while_identified a s callee cookie f)
    identified-known a cookie f = by_test (f.tag == 10)
      where
        by_test : (lacks : Bool) → R a (if lacks then on_missing_features a (payload ident_missing_features_layout.form f)
            else on_server_ident a s callee cookie (due 9 server_ident_layout.form f))
        by_test true = missing-known a (payload ident_missing_features_layout.form f)
        by_test false = server_ident-known a cookie (due 9 server_ident_layout.form f)

    -- ---- replies to SESSION_RECONNECT

    taken_up-known : (a : CallArrival) (cookie last : ℕ) (session : Option HeldSession) → R a (taken_up a s callee cookie last session)
    taken_up-known a cookie last None = record { link = (refl, key); harmless = tt }
    taken_up-known a cookie last (Some session) =
        let later : HeldSession = acknowledged_up_to last session in
        secure-known (holding_session a (Some later)) s (λ behind. Open behind callee cookie) [] (secure_frames s.keys (waiting_messages later))
        (frames-known s.keys (waiting_messages later) key) (λ t k. k) tt

    reconnect_ok-known : (a : CallArrival) (cookie : ℕ) (read : Result SessionReconnectOk BytesFault) → R a (on_reconnect_ok a s callee cookie read)
    reconnect_ok-known a cookie (Err why) = shut-known a why
    reconnect_ok-known a cookie (Ok ok) = taken_up-known a cookie ok.seq a.own.session

    reset-known : (a : CallArrival) (read : Result SessionReset BytesFault) → R a (on_reset a s callee read)
    reset-known a (Err why) = shut-known a why
    reset-known a (Ok reset) = resets-known a [] tt

    retries-known : (a : CallArrival) (kept : ℕ) (session : Option HeldSession) → R a (retries a s callee kept session)
    retries-known a kept None = resets-known a [] tt
    retries-known a kept (Some session) = by_test (kept == 2 ^ 64 - 1)
      where
        by_test : (last : Bool) → R a (if last then resets a s callee [] else reconnects a s callee [] (record session { connect_seq = kept + 1 }))
        by_test true = resets-known a [] tt
        by_test false = reconnects-known a [] (record session { connect_seq = kept + 1 }) tt

    retry-known : (a : CallArrival) (read : Result SessionRetry BytesFault) → R a (on_retry a s callee read)
    retry-known a (Err why) = shut-known a why
    retry-known a (Ok retry) = retries-known a retry.connect_seq a.own.session

    retries_global-known : (a : CallArrival) (kept : ℕ) (session : Option HeldSession) → R a (retries_global a s callee kept session)
    retries_global-known a kept None = resets-known a [] tt
    retries_global-known a kept (Some session) = by_test (kept == 2 ^ 64 - 1)
      where
        by_test : (last : Bool) → R a (if last then resets a s callee [] else reconnects (counting a (kept + 1)) s callee [] session)
        by_test true = resets-known a [] tt
        by_test false = reconnects-known (counting a (kept + 1)) [] session tt

    retry_global-known : (a : CallArrival) (read : Result SessionRetryGlobal BytesFault) → R a (on_retry_global a s callee read)
    retry_global-known a (Err why) = shut-known a why
    retry_global-known a (Ok retry) = retries_global-known a retry.global_seq a.own.session

    pub reconnecting-known : (a : CallArrival) (cookie : ℕ) (f : Frame) → R a (while_reconnecting a s callee cookie f)
    reconnecting-known a cookie f = by_tests (f.tag == 15) (f.tag == 12) (f.tag == 13) (f.tag == 14)
      where
        by_tests : (ok reset retry global : Bool) → R a
            (if ok then on_reconnect_ok a s callee cookie (payload session_reconnect_ok_layout.form f)
            else if reset then on_reset a s callee (payload session_reset_layout.form f)
            else if retry then on_retry a s callee (payload session_retry_layout.form f)
            else if global then on_retry_global a s callee (payload session_retry_global_layout.form f)
            else refuses_bytes a (Unexpected f.tag) [])
        by_tests true reset retry global = reconnect_ok-known a cookie (payload session_reconnect_ok_layout.form f)
        by_tests false true retry global = reset-known a (payload session_reset_layout.form f)
        by_tests false false true global = retry-known a (payload session_retry_layout.form f)
        by_tests false false false true = retry_global-known a (payload session_retry_global_layout.form f)
        by_tests false false false false = shut-known a (Unexpected f.tag)

    -- ---- an open link

    acknowledges-known : (a : CallArrival) (cookie seq : ℕ) (session : Option HeldSession) → R a (acknowledges a s callee cookie seq session)
    acknowledges-known a cookie seq None = record { link = (refl, key); harmless = tt }
    acknowledges-known a cookie seq (Some session) = record { link = (refl, key); harmless = tt }

    ack-known : (a : CallArrival) (cookie : ℕ) (read : Result Ack BytesFault) → R a (on_ack a s callee cookie read)
    ack-known a cookie (Err why) = shut-known a why
    ack-known a cookie (Ok ack) = acknowledges-known a cookie ack.seq a.own.session

    answer-known : (a : CallArrival) (cookie : ℕ) (read : Result OperationEnd BytesFault) → R a (on_answer a s callee cookie read)
    answer-known a cookie (Err why) = shut-known a why
    answer-known a cookie (Ok end) = record { link = (refl, key); harmless = tt }

    answer_or_ack-known : (a : CallArrival) (cookie : ℕ) (f : Frame) → R a (on_answer_or_ack a s callee cookie f)
    answer_or_ack-known a cookie f = by_test (f.tag == 20)
      where
        by_test : (ack : Bool) → R a (if ack then on_ack a s callee cookie (payload ack_layout.form f) else on_answer a s callee cookie (end_in (message_in f)))
        by_test true = ack-known a cookie (payload ack_layout.form f)
        by_test false = answer-known a cookie (end_in (message_in f))

    keepalive-known : (a : CallArrival) (cookie : ℕ) (read : Result Keepalive2 BytesFault) → R a (on_keepalive a s (λ behind. Open behind callee cookie) read)
    keepalive-known a cookie (Err why) = shut-known a why
    keepalive-known a cookie (Ok keepalive) = secure-known a s (λ behind. Open behind callee cookie) [] _ (frame-known s.keys _ key) (λ t k. k) tt

    keepalive_ack-known : (a : CallArrival) (cookie : ℕ) (read : Result Keepalive2Ack BytesFault) → R a (on_keepalive_ack a s (λ behind. Open behind callee cookie) read)
    keepalive_ack-known a cookie (Err why) = shut-known a why
    keepalive_ack-known a cookie (Ok ack) = record { link = (refl, key); harmless = tt }

    pub open-known : (a : CallArrival) (cookie : ℕ) (f : Frame) → R a (on_upkeep_or (on_answer_or_ack a s callee cookie) a s (λ behind. Open behind callee cookie) f)
    open-known a cookie f = by_tests (f.tag == 18) (f.tag == 19)
      where
        by_tests : (ask ack : Bool) → R a
            (if ask then on_keepalive a s (λ behind. Open behind callee cookie) (payload keepalive2_layout.form f)
            else if ack then on_keepalive_ack a s (λ behind. Open behind callee cookie) (payload keepalive2_ack_layout.form f) else on_answer_or_ack a s callee cookie f)
        by_tests true ack = keepalive-known a cookie (payload keepalive2_layout.form f)
        by_tests false true = keepalive_ack-known a cookie (payload keepalive2_ack_layout.form f)
        by_tests false false = answer_or_ack-known a cookie f

  -- a row behind what opened
  pub opened-known : (number : ℕ) (opened : List SealEntry) (row : CallRow) → AreHarmless us opened → RowKnown us number row → RowKnown us number (with_opened opened row)
  opened-known number opened row h r = record { link = r.link; harmless = all-append (IsHarmless us) opened row.seals h r.harmless }
