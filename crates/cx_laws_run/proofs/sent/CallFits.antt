-- Behind each row of a client's link to a daemon, once a reply may give the link a key: a link that goes on is for a session whose cookie has a spelling, and
-- one that is shut has said nothing.
use Rattle.std.proofs.Common.{ℕ, ◌==◌, ◌+◌, ◌-◌, ◌<◌, ◌^◌, Bool, true, false, List, [], ◌∷◌, ◌++◌, take, Option, Some, None, Result, Ok, Err}
use Rattle.std.specs.Prelude.{not, if◌then◌else◌}
use Rattle.cx_laws_sessions.specs.cx_authorize.specs.Client.{Answered, reply_in}
use Rattle.cx_laws_sessions.specs.cx_authorize.specs.Verdict.{raised}
use Rattle.cx_control.specs.Auth.{auth_done_layout, auth_signature_layout}
use Rattle.cx_control.specs.BadMethod.{bad_method_layout}
use Rattle.cx_control.specs.Idents.{ident_missing_features_layout, server_ident_layout}
use Rattle.cx_control.specs.Reconnects.{session_reconnect_ok_layout, session_reset_layout, session_retry_layout, session_retry_global_layout}
use Rattle.cx_control.specs.Upkeep.{ack_layout, keepalive2_layout, keepalive2_ack_layout}
use Rattle.cx_control.specs.declared.auth.AuthDone.{AuthDone}
use Rattle.cx_control.specs.declared.auth.AuthSignature.{AuthSignature}
use Rattle.cx_control.specs.declared.idents.IdentMissingFeatures.{IdentMissingFeatures}
use Rattle.cx_control.specs.declared.idents.ServerIdent.{ServerIdent}
use Rattle.cx_control.specs.declared.reconnects.SessionReconnectOk.{SessionReconnectOk}
use Rattle.cx_control.specs.declared.reconnects.SessionReset.{SessionReset}
use Rattle.cx_control.specs.declared.reconnects.SessionRetry.{SessionRetry}
use Rattle.cx_control.specs.declared.reconnects.SessionRetryGlobal.{SessionRetryGlobal}
use Rattle.cx_control.specs.declared.upkeep.Ack.{Ack}
use Rattle.cx_control.specs.declared.upkeep.Keepalive2.{Keepalive2}
use Rattle.cx_control.specs.declared.upkeep.Keepalive2Ack.{Keepalive2Ack}
use Rattle.cx_dice.specs.Draws.{cookie_of}
use Rattle.cx_frame.specs.declared.frame.Frame.{Frame}
use Rattle.cx_journal.specs.declared.faults.BytesFault.{BytesFault}
use Rattle.cx_journal.specs.declared.faults.BytesFault.TheVariants.{Unexpected}
use Rattle.cx_journal.specs.declared.faults.LoginFault.TheVariants.{Mode, NonceWrong, SignatureWrong}
use Rattle.cx_journal.specs.declared.outcomes.Reason.TheVariants as reason
use Rattle.cx_journal.specs.declared.premises.KeyKind.TheVariants as kind
use Rattle.cx_laws_sessions.specs.cx_login.specs.Unlocking.{unlocked_as}
use Rattle.cx_laws_sessions.specs.cx_rules.specs.Connector.{client_ident}
use Rattle.cx_laws_sessions.specs.cx_rules.specs.Fronts.{keys_behind, opened_parts, sealed_ahead, taking}
use Rattle.cx_laws_sessions.specs.cx_rules.specs.Links.{Link}
use Rattle.cx_laws_sessions.specs.cx_rules.specs.Messages.{message_in, on_upkeep_or, secure_frames}
use Rattle.cx_laws_sessions.specs.cx_rules.specs.Payloads.{due, payload, whole}
use Rattle.cx_laws_sessions.specs.cx_rules.specs.Rows.{at, refuses, refuses_bytes, secure_sent, with_opened}
use Rattle.cx_laws_sessions.specs.cx_rules.specs.Secured.{SealedFrame, Secured, connector_keys, is_signed, secure_frame, signature_found, signed_frame, under}
use Rattle.cx_laws_sessions.specs.cx_rules.specs.Upkeep.{on_keepalive, on_keepalive_ack}
use Rattle.cx_laws_sessions.specs.cx_rules_session.specs.Lossy.{lossy_flags}
use Rattle.cx_laws_sessions.specs.cx_rules_session.specs.Presenter.{CallArrival, CallRow, CallStage, AwaitsSignature, AwaitsIdent, AwaitsReconnect, Open, OperationEnd, acknowledges, counting, end_in, holding_session, identifies, on_ack, on_answer, on_answer_or_ack, on_authorize_reply, on_bad_method, on_done, on_missing_features, on_reconnect_ok, on_reset, on_retry, on_retry_global, on_server_ident, on_signature, on_signed, on_unlocked, reconnects, resets, retries, retries_global, signs, taken_up, takes_up, turned_at, while_answered, while_identified, while_reconnecting}
use Rattle.cx_laws_sessions.specs.cx_rules_session.specs.Sessions.{Callee, HeldSession, acknowledged_up_to, held_gid, session_reconnect, waiting_messages}
use Rattle.cx_laws_sessions.specs.cx_run.proofs.Taking.{EachRow}
use Rattle.cx_laws_sessions.specs.cx_sealed.specs.Records.{authorize_reply_layout}
use Rattle.cx_laws_sessions.specs.cx_sealed.specs.Unsealing.{unsealed_as}
use Rattle.cx_laws_sessions.specs.cx_sealed.specs.declared.authorize_reply.AuthorizeReply.{AuthorizeReply}
use Rattle.cx_steps.specs.declared.seals.DrawMark.TheVariants as draw
use Rattle.cx_steps.specs.declared.seals.SealEntry.{SealEntry}
use Rattle.cx_steps.specs.declared.seals.SealEntry.TheVariants.{Drawn}
use Rattle.cx_laws_sessions.specs.cx_wire.specs.Logins as shown_layout
use Rattle.cx_laws_sessions.specs.cx_wire.specs.declared.authorizers.AuthorizeReply as shown_reply
use Rattle.cx_laws_sessions.proofs.queues.Sessions.{HeldIs}
use Rattle.cx_laws_links.proofs.links.CallTurn.{quiet-opened, secure-turned}
use Rattle.cx_laws_links.proofs.links.CallWords.{AreQuiet, quiet-append}
use Rattle.cx_laws_run.proofs.sent.State.{CallFits}

abbrev pub FitsIn : List SealEntry → Option (Link CallStage) → Type 0
FitsIn seals None = AreQuiet seals
FitsIn seals (Some link) = CallFits link.stage

abbrev pub RowFits : CallRow → Type 0
RowFits row = FitsIn row.seals row.link

-- the cookie of the session that is held has a spelling
abbrev pub CookieFits : HeldSession → Type 0
CookieFits session = session.client_cookie < 2 ^ 64

opened-in : (opened seals : List SealEntry) (left : Option (Link CallStage)) → AreQuiet opened → FitsIn seals left → FitsIn (opened ++ seals) left
opened-in opened seals None quiet h = quiet-append opened seals quiet h
opened-in opened seals (Some link) quiet h = h

opened-fits : (opened : List SealEntry) (row : CallRow) → AreQuiet opened → RowFits row → RowFits (with_opened opened row)
opened-fits opened row quiet h = opened-in opened row.seals row.link quiet h

-- ---- the ways in which a row ends

secure-fits : (a : CallArrival) (s : Secured) (stage : Secured → CallStage) (seals : List SealEntry) → AreQuiet seals → ((t : Secured) → CallFits (stage t)) → (r : Result SealedFrame BytesFault)
    → RowFits (secure_sent a s stage seals r)
secure-fits a s stage seals quiet fits (Ok sealed) = fits (record s { keys = sealed.keys })
secure-fits a s stage seals quiet fits (Err why) = quiet

-- ---- a reply gives the link its key

bad_method-fits : (a : CallArrival) (read : Result (ℕ × (ℕ × (List ℕ × List ℕ))) BytesFault) → RowFits (on_bad_method a read)
bad_method-fits a (Err why) = tt
bad_method-fits a (Ok fields) = tt

signs-fits : (a : CallArrival) (callee : Callee) (answered : Answered) (opened : List SealEntry) → AreQuiet opened → (made : Result SealedFrame BytesFault) → RowFits (signs a callee answered opened made)
signs-fits a callee answered opened quiet (Err why) = quiet
signs-fits a callee answered opened quiet (Ok sealed) = tt

unlocked-fits : (a : CallArrival) (callee : Callee) (answered : Answered) (opened : List SealEntry) → AreQuiet opened → (value : Option AuthorizeReply) → RowFits (on_unlocked a callee answered opened value)
unlocked-fits a callee answered opened quiet None = quiet
unlocked-fits a callee answered opened quiet (Some reply) = by_test (reply.nonce_plus_one == raised answered.nonce)
  where
    by_test : (same : Bool) → RowFits (if same
        then signs a callee answered opened (signed_frame (connector_keys reply.secret) answered.session (take a.link.taken a.link.received))
        else refuses a (reason.Login (NonceWrong (raised answered.nonce) reply.nonce_plus_one)) opened)
    by_test true = signs-fits a callee answered opened quiet (signed_frame (connector_keys reply.secret) answered.session (take a.link.taken a.link.received))
    by_test false = quiet

reply-quiet : (session bytes : List ℕ) → AreQuiet (reply_in session bytes).seals
reply-quiet session bytes = by_opened _
  where
    by_opened : (o : Option (List ℕ)) → AreQuiet (unlocked_as kind.Session session (unsealed_as authorize_reply_layout.form o)).seals
    by_opened None = tt
    by_opened (Some content) = (tt, tt)

reply-fits : (a : CallArrival) (callee : Callee) (answered : Answered) (read : Result shown_reply.AuthorizeReply BytesFault) → RowFits (on_authorize_reply a callee answered read)
reply-fits a callee answered (Err why) = tt
reply-fits a callee answered (Ok shown) =
    let u = reply_in answered.session shown.sealed in unlocked-fits a callee answered u.seals (reply-quiet answered.session shown.sealed) u.value

done-fits : (a : CallArrival) (callee : Callee) (answered : Answered) (read : Result AuthDone BytesFault) → RowFits (on_done a callee answered read)
done-fits a callee answered (Err why) = tt
done-fits a callee answered (Ok done) = by_test (not (done.mode == 2))
  where
    by_test : (other : Bool) → RowFits (if other then refuses a (reason.Login Mode) [] else on_authorize_reply a callee answered (whole shown_layout.authorize_reply_layout.form done.payload))
    by_test true = tt
    by_test false = reply-fits a callee answered (whole shown_layout.authorize_reply_layout.form done.payload)

pub answered-fits : (a : CallArrival) (callee : Callee) (answered : Answered) (f : Frame) → RowFits (while_answered a callee answered f)
answered-fits a callee answered f = by_test (f.tag == 3)
  where
    by_test : (denied : Bool) → RowFits (if denied then on_bad_method a (payload bad_method_layout.form f) else on_done a callee answered (due 6 auth_done_layout.form f))
    by_test true = bad_method-fits a (payload bad_method_layout.form f)
    by_test false = done-fits a callee answered (due 6 auth_done_layout.form f)

-- ---- a session is asked for, or taken up again

identifies-fits : (a : CallArrival) (s : Secured) (callee : Callee) (before : List SealEntry) → cookie_of a.draw < 2 ^ 64 → AreQuiet before → RowFits (identifies a s callee before)
identifies-fits a s callee before low quiet =
    let cookie : ℕ = cookie_of a.draw in
    secure-fits a s (λ behind. AwaitsIdent behind callee cookie) (before ++ Drawn (draw.Cookie cookie) ∷ []) (quiet-append before (Drawn (draw.Cookie cookie) ∷ []) quiet (tt, tt)) (λ t. low)
    (secure_frame s.keys (client_ident a.own.mon_client (held_gid a.own.mon_client.holdings) (lossy_flags callee.lossy) cookie))

resets-fits : (a : CallArrival) (s : Secured) (callee : Callee) (before : List SealEntry) → cookie_of a.draw < 2 ^ 64 → AreQuiet before → RowFits (resets a s callee before)
resets-fits a s callee before low quiet = identifies-fits (holding_session a None) s callee before low quiet

reconnects-fits : (a : CallArrival) (s : Secured) (callee : Callee) (before : List SealEntry) (session : HeldSession) → AreQuiet before → CookieFits session → RowFits (reconnects a s callee before session)
reconnects-fits a s callee before session quiet fits =
    secure-fits (holding_session a (Some session)) s (λ behind. AwaitsReconnect behind callee session.client_cookie) before quiet (λ t. fits) (secure_frame s.keys (session_reconnect a.own.mon_client session))

takes_up-fits : (a : CallArrival) (s : Secured) (callee : Callee) (before : List SealEntry) (session : HeldSession) → cookie_of a.draw < 2 ^ 64 → AreQuiet before → CookieFits session
    → RowFits (takes_up a s callee before session)
takes_up-fits a s callee before session low quiet fits = by_test (session.connect_seq == 2 ^ 64 - 1)
  where
    by_test : (last : Bool) → RowFits (if last then resets a s callee before else reconnects a s callee before (record session { connect_seq = session.connect_seq + 1 }))
    by_test true = resets-fits a s callee before low quiet
    by_test false = reconnects-fits a s callee before (record session { connect_seq = session.connect_seq + 1 }) quiet fits

signed-fits : (a : CallArrival) (s : Secured) (callee : Callee) (session : Option HeldSession) → cookie_of a.draw < 2 ^ 64 → HeldIs CookieFits session → RowFits (on_signed a s callee session)
signed-fits a s callee None low fits = identifies-fits a s callee (signature_found s ∷ []) low (tt, tt)
signed-fits a s callee (Some session) low fits = takes_up-fits a s callee (signature_found s ∷ []) session low (tt, tt) fits

signature-fits : (a : CallArrival) (s : Secured) (callee : Callee) (read : Result AuthSignature BytesFault) → cookie_of a.draw < 2 ^ 64 → HeldIs CookieFits a.own.session
    → RowFits (on_signature a s callee read)
signature-fits a s callee (Err why) low fits = tt
signature-fits a s callee (Ok found) low fits = by_test (is_signed s found.signature)
  where
    by_test : (right : Bool) → RowFits (if right then on_signed a s callee a.own.session else refuses a (reason.Login SignatureWrong) [])
    by_test true = signed-fits a s callee a.own.session low fits
    by_test false = tt

-- ---- SERVER_IDENT, IDENT_MISSING_FEATURES

missing-fits : (a : CallArrival) (read : Result IdentMissingFeatures BytesFault) → RowFits (on_missing_features a read)
missing-fits a (Err why) = tt
missing-fits a (Ok missing) = tt

server_ident-fits : (a : CallArrival) (s : Secured) (callee : Callee) (cookie : ℕ) → cookie < 2 ^ 64 → (read : Result ServerIdent BytesFault) → RowFits (on_server_ident a s callee cookie read)
server_ident-fits a s callee cookie fits (Err why) = tt
server_ident-fits a s callee cookie fits (Ok ident) = fits

identified-fits : (a : CallArrival) (s : Secured) (callee : Callee) (cookie : ℕ) → cookie < 2 ^ 64 → (f : Frame) → RowFits (while_identified a s callee cookie f)
identified-fits a s callee cookie fits f = by_test (f.tag == 10)
  where
    by_test : (lacks : Bool) → RowFits (if lacks then on_missing_features a (payload ident_missing_features_layout.form f) else on_server_ident a s callee cookie (due 9 server_ident_layout.form f))
    by_test true = missing-fits a (payload ident_missing_features_layout.form f)
    by_test false = server_ident-fits a s callee cookie fits (due 9 server_ident_layout.form f)

-- ---- SESSION_RECONNECT_OK and what else is answered to SESSION_RECONNECT

module _ (a : CallArrival) (s : Secured) (callee : Callee) (cookie : ℕ) (low : cookie_of a.draw < 2 ^ 64) (fits : cookie < 2 ^ 64) (held : HeldIs CookieFits a.own.session) where
  taken_up-fits : (last : ℕ) (session : Option HeldSession) → RowFits (taken_up a s callee cookie last session)
  taken_up-fits last None = fits
  taken_up-fits last (Some session) =
      secure-fits (holding_session a (Some (acknowledged_up_to last session))) s (λ behind. Open behind callee cookie) [] tt (λ t. fits)
      (secure_frames s.keys (waiting_messages (acknowledged_up_to last session)))

  reconnect_ok-fits : (read : Result SessionReconnectOk BytesFault) → RowFits (on_reconnect_ok a s callee cookie read)
  reconnect_ok-fits (Err why) = tt
  reconnect_ok-fits (Ok ok) = taken_up-fits ok.seq a.own.session

  reset-fits : (read : Result SessionReset BytesFault) → RowFits (on_reset a s callee read)
  reset-fits (Err why) = tt
  reset-fits (Ok reset) = resets-fits a s callee [] low tt

  retries-fits : (kept : ℕ) (session : Option HeldSession) → HeldIs CookieFits session → RowFits (retries a s callee kept session)
  retries-fits kept None is = resets-fits a s callee [] low tt
  retries-fits kept (Some session) is = by_test (kept == 2 ^ 64 - 1)
    where
      by_test : (last : Bool) → RowFits (if last then resets a s callee [] else reconnects a s callee [] (record session { connect_seq = kept + 1 }))
      by_test true = resets-fits a s callee [] low tt
      by_test false = reconnects-fits a s callee [] (record session { connect_seq = kept + 1 }) tt is

  retry-fits : (read : Result SessionRetry BytesFault) → RowFits (on_retry a s callee read)
  retry-fits (Err why) = tt
  retry-fits (Ok retry) = retries-fits retry.connect_seq a.own.session held

  retries_global-fits : (kept : ℕ) (session : Option HeldSession) → HeldIs CookieFits session → RowFits (retries_global a s callee kept session)
  retries_global-fits kept None is = resets-fits a s callee [] low tt
  retries_global-fits kept (Some session) is = by_test (kept == 2 ^ 64 - 1)
    where
      by_test : (last : Bool) → RowFits (if last then resets a s callee [] else reconnects (counting a (kept + 1)) s callee [] session)
      by_test true = resets-fits a s callee [] low tt
      by_test false = reconnects-fits (counting a (kept + 1)) s callee [] session tt is

  retry_global-fits : (read : Result SessionRetryGlobal BytesFault) → RowFits (on_retry_global a s callee read)
  retry_global-fits (Err why) = tt
  retry_global-fits (Ok retry) = retries_global-fits retry.global_seq a.own.session held

  reconnecting-fits : (f : Frame) → RowFits (while_reconnecting a s callee cookie f)
  reconnecting-fits f = by_tests (f.tag == 15) (f.tag == 12) (f.tag == 13) (f.tag == 14)
    where
      by_tests : (told reset retry global : Bool) → RowFits
          (if told then on_reconnect_ok a s callee cookie (payload session_reconnect_ok_layout.form f)
          else if reset then on_reset a s callee (payload session_reset_layout.form f)
          else if retry then on_retry a s callee (payload session_retry_layout.form f)
          else if global then on_retry_global a s callee (payload session_retry_global_layout.form f)
          else refuses_bytes a (Unexpected f.tag) [])
      by_tests true reset retry global = reconnect_ok-fits (payload session_reconnect_ok_layout.form f)
      by_tests false true retry global = reset-fits (payload session_reset_layout.form f)
      by_tests false false true global = retry-fits (payload session_retry_layout.form f)
      by_tests false false false true = retry_global-fits (payload session_retry_global_layout.form f)
      by_tests false false false false = tt

-- ---- an open link

module _ (a : CallArrival) (s : Secured) (callee : Callee) (cookie : ℕ) (fits : cookie < 2 ^ 64) where
  acknowledges-fits : (seq : ℕ) (session : Option HeldSession) → RowFits (acknowledges a s callee cookie seq session)
  acknowledges-fits seq None = fits
  acknowledges-fits seq (Some session) = fits

  ack-fits : (read : Result Ack BytesFault) → RowFits (on_ack a s callee cookie read)
  ack-fits (Err why) = tt
  ack-fits (Ok ack) = acknowledges-fits ack.seq a.own.session

  answer-fits : (read : Result OperationEnd BytesFault) → RowFits (on_answer a s callee cookie read)
  answer-fits (Err why) = tt
  answer-fits (Ok end) = fits

  answer_or_ack-fits : (f : Frame) → RowFits (on_answer_or_ack a s callee cookie f)
  answer_or_ack-fits f = by_test (f.tag == 20)
    where
      by_test : (ack : Bool) → RowFits (if ack then on_ack a s callee cookie (payload ack_layout.form f) else on_answer a s callee cookie (end_in (message_in f)))
      by_test true = ack-fits (payload ack_layout.form f)
      by_test false = answer-fits (end_in (message_in f))

  keepalive-fits : (read : Result Keepalive2 BytesFault) → RowFits (on_keepalive a s (λ behind. Open behind callee cookie) read)
  keepalive-fits (Err why) = tt
  keepalive-fits (Ok keepalive) = secure-fits a s (λ behind. Open behind callee cookie) [] tt (λ t. fits) _

  keepalive_ack-fits : (read : Result Keepalive2Ack BytesFault) → RowFits (on_keepalive_ack a s (λ behind. Open behind callee cookie) read)
  keepalive_ack-fits (Err why) = tt
  keepalive_ack-fits (Ok ack) = fits

  open-fits : (f : Frame) → RowFits (on_upkeep_or (on_answer_or_ack a s callee cookie) a s (λ behind. Open behind callee cookie) f)
  open-fits f = by_tests (f.tag == 18) (f.tag == 19)
    where
      by_tests : (ask ack : Bool) → RowFits
          (if ask then on_keepalive a s (λ behind. Open behind callee cookie) (payload keepalive2_layout.form f)
          else if ack then on_keepalive_ack a s (λ behind. Open behind callee cookie) (payload keepalive2_ack_layout.form f) else on_answer_or_ack a s callee cookie f)
      by_tests true ack = keepalive-fits (payload keepalive2_layout.form f)
      by_tests false true = keepalive_ack-fits (payload keepalive2_ack_layout.form f)
      by_tests false false = answer_or_ack-fits f

-- ---- a turn

abbrev pub IsKeyedStage : CallStage → Type 0
IsKeyedStage (AwaitsSignature s callee) = Unit {0}
IsKeyedStage (AwaitsIdent s callee cookie) = Unit {0}
IsKeyedStage (AwaitsReconnect s callee cookie) = Unit {0}
IsKeyedStage (Open s callee cookie) = Unit {0}
IsKeyedStage _ = ⊥

-- a turn of a link that has a key
pub keyed-fits : (a : CallArrival) (stage : CallStage) → cookie_of a.draw < 2 ^ 64 → CallFits stage → HeldIs CookieFits a.own.session → IsKeyedStage stage → EachRow RowFits (turned_at a stage)
keyed-fits a (AwaitsSignature s callee) low fits held is =
    secure-turned RowFits s.keys a.link (λ (link, f, keys) opened. with_opened opened (on_signature (at a link) (under s keys) callee (due 7 auth_signature_layout.form f)))
    (λ f m. opened-fits (opened_parts (sealed_ahead s.keys a.link)) (on_signature (at a (taking a.link m)) (under s (keys_behind s.keys f)) callee (due 7 auth_signature_layout.form f))
    (quiet-opened (sealed_ahead s.keys a.link)) (signature-fits (at a (taking a.link m)) (under s (keys_behind s.keys f)) callee (due 7 auth_signature_layout.form f) low held))
keyed-fits a (AwaitsIdent s callee cookie) low fits held is =
    secure-turned RowFits s.keys a.link (λ (link, f, keys) opened. with_opened opened (while_identified (at a link) (under s keys) callee cookie f))
    (λ f m. opened-fits (opened_parts (sealed_ahead s.keys a.link)) (while_identified (at a (taking a.link m)) (under s (keys_behind s.keys f)) callee cookie f)
    (quiet-opened (sealed_ahead s.keys a.link)) (identified-fits (at a (taking a.link m)) (under s (keys_behind s.keys f)) callee cookie fits f))
keyed-fits a (AwaitsReconnect s callee cookie) low fits held is =
    secure-turned RowFits s.keys a.link (λ (link, f, keys) opened. with_opened opened (while_reconnecting (at a link) (under s keys) callee cookie f))
    (λ f m. opened-fits (opened_parts (sealed_ahead s.keys a.link)) (while_reconnecting (at a (taking a.link m)) (under s (keys_behind s.keys f)) callee cookie f)
    (quiet-opened (sealed_ahead s.keys a.link)) (reconnecting-fits (at a (taking a.link m)) (under s (keys_behind s.keys f)) callee cookie low fits held f))
keyed-fits a (Open s callee cookie) low fits held is =
    secure-turned RowFits s.keys a.link
    (λ (link, f, keys) opened. with_opened opened (on_upkeep_or (on_answer_or_ack (at a link) (under s keys) callee cookie) (at a link) (under s keys) (λ behind. Open behind callee cookie) f))
    (λ f m. opened-fits (opened_parts (sealed_ahead s.keys a.link))
    (on_upkeep_or (on_answer_or_ack (at a (taking a.link m)) (under s (keys_behind s.keys f)) callee cookie) (at a (taking a.link m)) (under s (keys_behind s.keys f)) (λ behind. Open behind callee cookie) f)
    (quiet-opened (sealed_ahead s.keys a.link)) (open-fits (at a (taking a.link m)) (under s (keys_behind s.keys f)) callee cookie fits f))
keyed-fits a _ low fits held is = absurd is
