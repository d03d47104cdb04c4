-- At which frames a client's link to a daemon goes on behind authentication, and which answers it enters.
use Rattle.std.proofs.Common.{◌≡◌, ℕ, ◌==◌, ◌-◌, ◌+◌, ◌≤◌, ◌^◌, Bool, true, false, List, [], ◌∷◌, ◌++◌, Option, Some, None, Result, Ok, Err, refl, arith}
use Rattle.std.proofs.lemmas.Bool.{eqb-true}
use Rattle.std.specs.Prelude.{if◌then◌else◌}
use Rattle.std.specs.List.{AllByRecursion}
use Rattle.cx_control.specs.Auth.{auth_signature_layout}
use Rattle.cx_control.specs.Idents.{ident_missing_features_layout, server_ident_layout}
use Rattle.cx_control.specs.Reconnects.{session_reconnect_ok_layout, session_reset_layout, session_retry_layout, session_retry_global_layout}
use Rattle.cx_control.specs.Upkeep.{ack_layout, keepalive2_layout, keepalive2_ack_layout}
use Rattle.cx_control.specs.declared.auth.AuthSignature.{AuthSignature}
use Rattle.cx_control.specs.declared.idents.IdentMissingFeatures.{IdentMissingFeatures}
use Rattle.cx_control.specs.declared.idents.ServerIdent.{ServerIdent}
use Rattle.cx_control.specs.declared.reconnects.SessionReconnectOk.{SessionReconnectOk}
use Rattle.cx_control.specs.declared.reconnects.SessionReset.{SessionReset}
use Rattle.cx_control.specs.declared.reconnects.SessionRetry.{SessionRetry}
use Rattle.cx_control.specs.declared.reconnects.SessionRetryGlobal.{SessionRetryGlobal}
use Rattle.cx_control.specs.declared.upkeep.Ack.{Ack}
use Rattle.cx_control.specs.declared.upkeep.Keepalive2.{Keepalive2}
use Rattle.cx_control.specs.declared.upkeep.Keepalive2Ack.{Keepalive2Ack}
use Rattle.cx_dice.specs.Draws.{cookie_of}
use Rattle.cx_frame.specs.declared.frame.Frame.{Frame}
use Rattle.cx_journal.specs.declared.entries.Answered.{Answered}
use Rattle.cx_journal.specs.declared.entries.Entry.{Entry}
use Rattle.cx_journal.specs.declared.entries.Entry.TheVariants as journal
use Rattle.cx_journal.specs.declared.faults.BytesFault.{BytesFault}
use Rattle.cx_journal.specs.declared.faults.BytesFault.TheVariants.{Features, Unexpected}
use Rattle.cx_journal.specs.declared.faults.LoginFault.TheVariants.{SignatureWrong}
use Rattle.cx_journal.specs.declared.outcomes.Reason.{Reason}
use Rattle.cx_journal.specs.declared.outcomes.Reason.TheVariants as reason
use Rattle.cx_laws_links.specs.cx_rules.specs.Connector.{client_ident}
use Rattle.cx_laws_links.specs.cx_rules.specs.Holdings.{MonClient}
use Rattle.cx_laws_links.specs.cx_rules.specs.Links.{Link}
use Rattle.cx_laws_links.specs.cx_rules.specs.Messages.{message_in, on_upkeep_or, secure_frames}
use Rattle.cx_laws_links.specs.cx_rules.specs.Payloads.{control, due, payload}
use Rattle.cx_laws_links.specs.cx_rules.specs.Rows.{goes_on, refused_entry, refuses, refuses_bytes, secure_sent}
use Rattle.cx_laws_links.specs.cx_rules.specs.Secured.{SealedFrame, Secured, is_signed, secure_frame, signature_found}
use Rattle.cx_laws_links.specs.cx_rules.specs.Upkeep.{on_keepalive, on_keepalive_ack}
use Rattle.cx_laws_links.specs.cx_rules_session.specs.Kinds.{entered_before}
use Rattle.cx_laws_links.specs.cx_rules_session.specs.Lossy.{lossy_flags}
use Rattle.cx_laws_links.specs.cx_rules_session.specs.Presenter.{CallArrival, CallRow, CallStage, AwaitsSignature, AwaitsIdent, AwaitsReconnect, Open, OperationEnd, acknowledges, answered_entry, counting, end_in, holding_session, identifies, on_ack, on_answer, on_answer_or_ack, on_missing_features, on_reconnect_ok, on_reset, on_retry, on_retry_global, on_server_ident, on_signature, on_signed, reconnects, resets, retries, retries_global, taken_up, takes_up, while_identified, while_reconnecting}
use Rattle.cx_laws_links.specs.cx_rules_session.specs.Sessions.{Callee, HeldSession, acknowledged_up_to, held_gid, new_session, session_reconnect, waiting_messages}
use Rattle.cx_steps.specs.declared.seals.DrawMark.TheVariants as draw
use Rattle.cx_steps.specs.declared.seals.SealEntry.{SealEntry}
use Rattle.cx_steps.specs.declared.seals.SealEntry.TheVariants.{Drawn}
use Rattle.cx_laws_links.proofs.answers.AnswerHears.{end-tag}

-- what an entry of an answer tells
abbrev pub EndsSo : (Answered → Type 0) → Entry → Type 0
EndsSo T (journal.Answered x) = T x
EndsSo T _ = Unit {0}

-- only the first entry may be one of an answer
abbrev pub OneEnd : List Entry → Type 0
OneEnd [] = Unit {0}
OneEnd (e ∷ es) = AllByRecursion (EndsSo (λ (x : Answered). ⊥)) es

-- where the link goes on this is so; and of each answer that the row enters this
pub record RowHears (Goes : Type 0) (T : Answered → Type 0) (row : CallRow) : Type 0 where
  pub goes : (link : Link CallStage) → row.link ≡ Some link → Goes
  pub entries : AllByRecursion (EndsSo T) row.entries
  pub alone : OneEnd row.entries

module _ (Goes : Type 0) (T : Answered → Type 0) where
  abbrev H : CallRow → Type 0
  H row = RowHears Goes T row

  shut-hears : (a : CallArrival) (why : Reason) (seals : List SealEntry) → H (refuses a why seals)
  shut-hears a why seals = record { goes = λ link is. absurd cc; entries = (tt, tt); alone = tt }

  goes-hears : (a : CallArrival) (stage : CallStage) (bytes : List ℕ) (seals : List SealEntry) → Goes → H (goes_on a stage bytes seals)
  goes-hears a stage bytes seals so = record { goes = λ link is. so; entries = tt; alone = tt }

  sent-hears : (a : CallArrival) (s : Secured) (stage : Secured → CallStage) (seals : List SealEntry) (r : Result SealedFrame BytesFault) → Goes → H (secure_sent a s stage seals r)
  sent-hears a s stage seals (Ok sealed) so = record { goes = λ link is. so; entries = tt; alone = tt }
  sent-hears a s stage seals (Err why) so = shut-hears a (reason.Bytes why) seals

  entered-hears : (e : Entry) (row : CallRow) → EndsSo T e → AllByRecursion (EndsSo (λ (x : Answered). ⊥)) row.entries → H row → H (entered_before e row)
  entered-hears e row told none h = record { goes = h.goes; entries = (told, h.entries); alone = none }

  sent-none : (a : CallArrival) (s : Secured) (stage : Secured → CallStage) (seals : List SealEntry) (r : Result SealedFrame BytesFault)
      → AllByRecursion (EndsSo (λ (x : Answered). ⊥)) (secure_sent a s stage seals r).entries
  sent-none a s stage seals (Ok sealed) = tt
  sent-none a s stage seals (Err why) = (tt, tt)

  -- ---- a session is asked for, or taken up again

  identifies-hears : (a : CallArrival) (s : Secured) (callee : Callee) (before : List SealEntry) → Goes → H (identifies a s callee before)
  identifies-hears a s callee before so =
      sent-hears a s (λ behind. AwaitsIdent behind callee (cookie_of a.draw)) (before ++ Drawn (draw.Cookie (cookie_of a.draw)) ∷ [])
      (secure_frame s.keys (client_ident a.own.mon_client (held_gid a.own.mon_client.holdings) (lossy_flags callee.lossy) (cookie_of a.draw))) so

  resets-hears : (a : CallArrival) (s : Secured) (callee : Callee) (before : List SealEntry) → Goes → H (resets a s callee before)
  resets-hears a s callee before so =
      entered-hears (refused_entry a.me a.link.number reason.Reset) (identifies (holding_session a None) s callee before) tt
      (sent-none (holding_session a None) s (λ behind. AwaitsIdent behind callee (cookie_of a.draw)) (before ++ Drawn (draw.Cookie (cookie_of a.draw)) ∷ [])
      (secure_frame s.keys (client_ident a.own.mon_client (held_gid a.own.mon_client.holdings) (lossy_flags callee.lossy) (cookie_of a.draw))))
      (identifies-hears (holding_session a None) s callee before so)

  reconnects-hears : (a : CallArrival) (s : Secured) (callee : Callee) (before : List SealEntry) (session : HeldSession) → Goes → H (reconnects a s callee before session)
  reconnects-hears a s callee before session so =
      sent-hears (holding_session a (Some session)) s (λ behind. AwaitsReconnect behind callee session.client_cookie) before (secure_frame s.keys (session_reconnect a.own.mon_client session)) so

  takes_up-hears : (a : CallArrival) (s : Secured) (callee : Callee) (before : List SealEntry) (session : HeldSession) → Goes → H (takes_up a s callee before session)
  takes_up-hears a s callee before session so = by_test (session.connect_seq == 2 ^ 64 - 1)
    where
      by_test : (last : Bool) → H (if last then resets a s callee before else reconnects a s callee before (record session { connect_seq = session.connect_seq + 1 }))
      by_test true = resets-hears a s callee before so
      by_test false = reconnects-hears a s callee before (record session { connect_seq = session.connect_seq + 1 }) so

  signed-hears : (a : CallArrival) (s : Secured) (callee : Callee) (session : Option HeldSession) → Goes → H (on_signed a s callee session)
  signed-hears a s callee None so = identifies-hears a s callee (signature_found s ∷ []) so
  signed-hears a s callee (Some session) so = takes_up-hears a s callee (signature_found s ∷ []) session so

  read-hears : (a : CallArrival) (s : Secured) (callee : Callee) (read : Result AuthSignature BytesFault) → Goes → H (on_signature a s callee read)
  read-hears a s callee (Err why) so = shut-hears a (reason.Bytes why) []
  read-hears a s callee (Ok found) so = by_test (is_signed s found.signature)
    where
      by_test : (right : Bool) → H (if right then on_signed a s callee a.own.session else refuses a (reason.Login SignatureWrong) [])
      by_test true = signed-hears a s callee a.own.session so
      by_test false = shut-hears a (reason.Login SignatureWrong) []

  -- ---- what replies to an ident

  server_ident-hears : (a : CallArrival) (s : Secured) (callee : Callee) (cookie : ℕ) (read : Result ServerIdent BytesFault) → Goes → H (on_server_ident a s callee cookie read)
  server_ident-hears a s callee cookie (Err why) so = shut-hears a (reason.Bytes why) []
  server_ident-hears a s callee cookie (Ok ident) so = goes-hears (holding_session a (Some (new_session callee cookie ident.cookie))) (Open s callee cookie) [] [] so

  missing-hears : (a : CallArrival) (read : Result IdentMissingFeatures BytesFault) → H (on_missing_features a read)
  missing-hears a (Err why) = shut-hears a (reason.Bytes why) []
  missing-hears a (Ok missing) = shut-hears a (reason.Bytes (Features missing.features)) []

  taken_up-hears : (a : CallArrival) (s : Secured) (callee : Callee) (cookie last : ℕ) (session : Option HeldSession) → Goes → H (taken_up a s callee cookie last session)
  taken_up-hears a s callee cookie last None so = goes-hears a (Open s callee cookie) [] [] so
  taken_up-hears a s callee cookie last (Some session) so =
      sent-hears (holding_session a (Some (acknowledged_up_to last session))) s (λ behind. Open behind callee cookie) []
      (secure_frames s.keys (waiting_messages (acknowledged_up_to last session))) so

  reconnect_ok-hears : (a : CallArrival) (s : Secured) (callee : Callee) (cookie : ℕ) (read : Result SessionReconnectOk BytesFault) → Goes → H (on_reconnect_ok a s callee cookie read)
  reconnect_ok-hears a s callee cookie (Err why) so = shut-hears a (reason.Bytes why) []
  reconnect_ok-hears a s callee cookie (Ok ok) so = taken_up-hears a s callee cookie ok.seq a.own.session so

  reset-hears : (a : CallArrival) (s : Secured) (callee : Callee) (read : Result SessionReset BytesFault) → Goes → H (on_reset a s callee read)
  reset-hears a s callee (Err why) so = shut-hears a (reason.Bytes why) []
  reset-hears a s callee (Ok reset) so = resets-hears a s callee [] so

  retries-hears : (a : CallArrival) (s : Secured) (callee : Callee) (kept : ℕ) (session : Option HeldSession) → Goes → H (retries a s callee kept session)
  retries-hears a s callee kept None so = resets-hears a s callee [] so
  retries-hears a s callee kept (Some session) so = by_test (kept == 2 ^ 64 - 1)
    where
      by_test : (last : Bool) → H (if last then resets a s callee [] else reconnects a s callee [] (record session { connect_seq = kept + 1 }))
      by_test true = resets-hears a s callee [] so
      by_test false = reconnects-hears a s callee [] (record session { connect_seq = kept + 1 }) so

  retry-hears : (a : CallArrival) (s : Secured) (callee : Callee) (read : Result SessionRetry BytesFault) → Goes → H (on_retry a s callee read)
  retry-hears a s callee (Err why) so = shut-hears a (reason.Bytes why) []
  retry-hears a s callee (Ok retry) so = retries-hears a s callee retry.connect_seq a.own.session so

  retries_global-hears : (a : CallArrival) (s : Secured) (callee : Callee) (kept : ℕ) (session : Option HeldSession) → Goes → H (retries_global a s callee kept session)
  retries_global-hears a s callee kept None so = resets-hears a s callee [] so
  retries_global-hears a s callee kept (Some session) so = by_test (kept == 2 ^ 64 - 1)
    where
      by_test : (last : Bool) → H (if last then resets a s callee [] else reconnects (counting a (kept + 1)) s callee [] session)
      by_test true = resets-hears a s callee [] so
      by_test false = reconnects-hears (counting a (kept + 1)) s callee [] session so

  retry_global-hears : (a : CallArrival) (s : Secured) (callee : Callee) (read : Result SessionRetryGlobal BytesFault) → Goes → H (on_retry_global a s callee read)
  retry_global-hears a s callee (Err why) so = shut-hears a (reason.Bytes why) []
  retry_global-hears a s callee (Ok retry) so = retries_global-hears a s callee retry.global_seq a.own.session so

  -- ---- an open link

  ack-hears : (a : CallArrival) (s : Secured) (callee : Callee) (cookie : ℕ) (read : Result Ack BytesFault) → Goes → H (on_ack a s callee cookie read)
  ack-hears a s callee cookie (Err why) so = shut-hears a (reason.Bytes why) []
  ack-hears a s callee cookie (Ok ack) so = by_session a.own.session
    where
      by_session : (session : Option HeldSession) → H (acknowledges a s callee cookie ack.seq session)
      by_session None = goes-hears a (Open s callee cookie) [] [] so
      by_session (Some session) = goes-hears (holding_session a (Some (acknowledged_up_to ack.seq session))) (Open s callee cookie) [] [] so

  keepalive-hears : (a : CallArrival) (s : Secured) (stage : Secured → CallStage) (read : Result Keepalive2 BytesFault) → Goes → H (on_keepalive a s stage read)
  keepalive-hears a s stage (Err why) so = shut-hears a (reason.Bytes why) []
  keepalive-hears a s stage (Ok keepalive) so = sent-hears a s stage [] (secure_frame s.keys (control 19 keepalive2_ack_layout.form (record { time = keepalive.time }))) so

  keepalive_ack-hears : (a : CallArrival) (s : Secured) (stage : Secured → CallStage) (read : Result Keepalive2Ack BytesFault) → Goes → H (on_keepalive_ack a s stage read)
  keepalive_ack-hears a s stage (Err why) so = shut-hears a (reason.Bytes why) []
  keepalive_ack-hears a s stage (Ok ack) so = goes-hears a (stage s) [] [] so

-- ---- by the stage of the link

-- the tags at which a link goes on
abbrev pub GoesAt : CallStage → ℕ → Type 0
GoesAt (AwaitsSignature s callee) tag = tag ≡ 7
GoesAt (AwaitsIdent s callee cookie) tag = tag ≡ 9
GoesAt (AwaitsReconnect s callee cookie) tag = (12 ≤ tag) × (tag ≤ 15)
GoesAt (Open s callee cookie) tag = 17 ≤ tag
GoesAt _ tag = Unit {0}

-- an answer that is entered tells the end that was read, to this client of the monitor, in the session that the link is for; only an open link enters one
abbrev pub TellsEnd : MonClient → Frame → CallStage → Answered → Type 0
TellsEnd mon_client f (Open s callee cookie) x = (end : OperationEnd) × (end_in (message_in f) ≡ Ok end)
    × (x ≡ record { client = mon_client.name; daemon = callee.daemon; cookie = cookie; tid = end.tid; outcome = end.outcome })
TellsEnd mon_client f _ x = ⊥

pub signature-hears : (a : CallArrival) (s r : Secured) (callee : Callee) (f : Frame)
    → RowHears (GoesAt (AwaitsSignature r callee) f.tag) (TellsEnd a.own.mon_client f (AwaitsSignature r callee)) (on_signature a s callee (due 7 auth_signature_layout.form f))
signature-hears a s r callee f = by_tag (f.tag == 7) refl
  where
    by_tag : (due_now : Bool) → (f.tag == 7) ≡ due_now → RowHears (f.tag ≡ 7) (TellsEnd a.own.mon_client f (AwaitsSignature r callee))
        (on_signature a s callee (if due_now then payload auth_signature_layout.form f else Err (Unexpected f.tag)))
    by_tag true e = read-hears (f.tag ≡ 7) (TellsEnd a.own.mon_client f (AwaitsSignature r callee)) a s callee (payload auth_signature_layout.form f) (eqb-true f.tag 7 e)
    by_tag false e = shut-hears (f.tag ≡ 7) (TellsEnd a.own.mon_client f (AwaitsSignature r callee)) a (reason.Bytes (Unexpected f.tag)) []

pub identified-hears : (a : CallArrival) (s r : Secured) (callee : Callee) (cookie : ℕ) (f : Frame)
    → RowHears (GoesAt (AwaitsIdent r callee cookie) f.tag) (TellsEnd a.own.mon_client f (AwaitsIdent r callee cookie)) (while_identified a s callee cookie f)
identified-hears a s r callee cookie f = by_tests (f.tag == 10) (f.tag == 9) refl
  where
    by_tests : (lacks due_now : Bool) → (f.tag == 9) ≡ due_now → RowHears (f.tag ≡ 9) (TellsEnd a.own.mon_client f (AwaitsIdent r callee cookie))
        (if lacks then on_missing_features a (payload ident_missing_features_layout.form f)
        else on_server_ident a s callee cookie (if due_now then payload server_ident_layout.form f else Err (Unexpected f.tag)))
    by_tests true due_now e = missing-hears (f.tag ≡ 9) (TellsEnd a.own.mon_client f (AwaitsIdent r callee cookie)) a (payload ident_missing_features_layout.form f)
    by_tests false true e =
        server_ident-hears (f.tag ≡ 9) (TellsEnd a.own.mon_client f (AwaitsIdent r callee cookie)) a s callee cookie (payload server_ident_layout.form f) (eqb-true f.tag 9 e)
    by_tests false false e = shut-hears (f.tag ≡ 9) (TellsEnd a.own.mon_client f (AwaitsIdent r callee cookie)) a (reason.Bytes (Unexpected f.tag)) []

pub reconnecting-hears : (a : CallArrival) (s r : Secured) (callee : Callee) (cookie : ℕ) (f : Frame)
    → RowHears (GoesAt (AwaitsReconnect r callee cookie) f.tag) (TellsEnd a.own.mon_client f (AwaitsReconnect r callee cookie)) (while_reconnecting a s callee cookie f)
reconnecting-hears a s r callee cookie f = by_tests (f.tag == 15) (f.tag == 12) (f.tag == 13) (f.tag == 14) refl refl refl refl
  where
    by_tests : (told reset retry global : Bool) → (f.tag == 15) ≡ told → (f.tag == 12) ≡ reset → (f.tag == 13) ≡ retry → (f.tag == 14) ≡ global
        → RowHears ((12 ≤ f.tag) × (f.tag ≤ 15)) (TellsEnd a.own.mon_client f (AwaitsReconnect r callee cookie))
        (if told then on_reconnect_ok a s callee cookie (payload session_reconnect_ok_layout.form f)
        else if reset then on_reset a s callee (payload session_reset_layout.form f)
        else if retry then on_retry a s callee (payload session_retry_layout.form f)
        else if global then on_retry_global a s callee (payload session_retry_global_layout.form f)
        else refuses_bytes a (Unexpected f.tag) [])
    by_tests true reset retry global e1 e2 e3 e4 =
        let tag : f.tag ≡ 15 = eqb-true f.tag 15 e1 in
        reconnect_ok-hears ((12 ≤ f.tag) × (f.tag ≤ 15)) (TellsEnd a.own.mon_client f (AwaitsReconnect r callee cookie)) a s callee cookie (payload session_reconnect_ok_layout.form f)
        (omega (arith, tag), omega (arith, tag))
    by_tests false true retry global e1 e2 e3 e4 =
        let tag : f.tag ≡ 12 = eqb-true f.tag 12 e2 in
        reset-hears ((12 ≤ f.tag) × (f.tag ≤ 15)) (TellsEnd a.own.mon_client f (AwaitsReconnect r callee cookie)) a s callee (payload session_reset_layout.form f) (omega (arith, tag), omega (arith, tag))
    by_tests false false true global e1 e2 e3 e4 =
        let tag : f.tag ≡ 13 = eqb-true f.tag 13 e3 in
        retry-hears ((12 ≤ f.tag) × (f.tag ≤ 15)) (TellsEnd a.own.mon_client f (AwaitsReconnect r callee cookie)) a s callee (payload session_retry_layout.form f) (omega (arith, tag), omega (arith, tag))
    by_tests false false false true e1 e2 e3 e4 =
        let tag : f.tag ≡ 14 = eqb-true f.tag 14 e4 in
        retry_global-hears ((12 ≤ f.tag) × (f.tag ≤ 15)) (TellsEnd a.own.mon_client f (AwaitsReconnect r callee cookie)) a s callee (payload session_retry_global_layout.form f)
        (omega (arith, tag), omega (arith, tag))
    by_tests false false false false e1 e2 e3 e4 =
        shut-hears ((12 ≤ f.tag) × (f.tag ≤ 15)) (TellsEnd a.own.mon_client f (AwaitsReconnect r callee cookie)) a (reason.Bytes (Unexpected f.tag)) []

pub open-hears : (a : CallArrival) (s r : Secured) (callee : Callee) (cookie : ℕ) (f : Frame)
    → RowHears (GoesAt (Open r callee cookie) f.tag) (TellsEnd a.own.mon_client f (Open r callee cookie))
    (on_upkeep_or (on_answer_or_ack a s callee cookie) a s (λ behind. Open behind callee cookie) f)
open-hears a s r callee cookie f = by_tests (f.tag == 18) (f.tag == 19) refl refl
  where
    by_end : (read : Result OperationEnd BytesFault) → end_in (message_in f) ≡ read → RowHears (17 ≤ f.tag) (TellsEnd a.own.mon_client f (Open r callee cookie)) (on_answer a s callee cookie read)
    by_end (Err why) e = shut-hears (17 ≤ f.tag) (TellsEnd a.own.mon_client f (Open r callee cookie)) a (reason.Bytes why) []
    by_end (Ok end) e =
        let tag : f.tag ≡ 17 = end-tag f end e in
        entered-hears (17 ≤ f.tag) (TellsEnd a.own.mon_client f (Open r callee cookie)) (answered_entry a.own.mon_client callee cookie end) _ (end, e, refl) tt
        (goes-hears (17 ≤ f.tag) (TellsEnd a.own.mon_client f (Open r callee cookie)) a (Open s callee cookie) [] [] (omega (arith, tag)))

    by_other : (ack : Bool) → (f.tag == 20) ≡ ack → RowHears (17 ≤ f.tag) (TellsEnd a.own.mon_client f (Open r callee cookie))
        (if ack then on_ack a s callee cookie (payload ack_layout.form f) else on_answer a s callee cookie (end_in (message_in f)))
    by_other true e =
        let tag : f.tag ≡ 20 = eqb-true f.tag 20 e in
        ack-hears (17 ≤ f.tag) (TellsEnd a.own.mon_client f (Open r callee cookie)) a s callee cookie (payload ack_layout.form f) (omega (arith, tag))
    by_other false e = by_end (end_in (message_in f)) refl

    by_tests : (ask ack : Bool) → (f.tag == 18) ≡ ask → (f.tag == 19) ≡ ack → RowHears (17 ≤ f.tag) (TellsEnd a.own.mon_client f (Open r callee cookie))
        (if ask then on_keepalive a s (λ behind. Open behind callee cookie) (payload keepalive2_layout.form f)
        else if ack then on_keepalive_ack a s (λ behind. Open behind callee cookie) (payload keepalive2_ack_layout.form f) else on_answer_or_ack a s callee cookie f)
    by_tests true ack e d =
        let tag : f.tag ≡ 18 = eqb-true f.tag 18 e in
        keepalive-hears (17 ≤ f.tag) (TellsEnd a.own.mon_client f (Open r callee cookie)) a s (λ behind. Open behind callee cookie) (payload keepalive2_layout.form f) (omega (arith, tag))
    by_tests false true e d =
        let tag : f.tag ≡ 19 = eqb-true f.tag 19 d in
        keepalive_ack-hears (17 ≤ f.tag) (TellsEnd a.own.mon_client f (Open r callee cookie)) a s (λ behind. Open behind callee cookie) (payload keepalive2_ack_layout.form f) (omega (arith, tag))
    by_tests false false e d = by_other (f.tag == 20) refl
