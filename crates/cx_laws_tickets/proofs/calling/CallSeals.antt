-- What the rows of a client's link to a daemon seal is as the uses of its keys allow: under the session key of its ticket what it shows, and behind the
-- daemon's reply under a key of a connection of its own. No row draws a key.
use Rattle.std.proofs.Common.{◌≡◌, ◌⊎◌, ℕ, ◌==◌, ◌+◌, ◌-◌, ◌^◌, ◌++◌, Bool, true, false, List, [], ◌∷◌, take, Option, Some, None, Result, Ok, Err, inl, inr, refl, sym, ap, ◌∙◌, subst}
use Rattle.std.specs.Prelude.{not, if◌then◌else◌}
use Rattle.cx_run.specs.cx_authorize.specs.Answers.{shown_as}
use Rattle.cx_run.specs.cx_authorize.specs.Client.{Answered, Presented, challenge_in, reply_in}
use Rattle.cx_run.specs.cx_authorize.specs.Verdict.{raised}
use Rattle.cx_base.specs.Names.{Name}
use Rattle.cx_base.specs.declared.kinds.EntityType.{EntityType}
use Rattle.cx_base.specs.declared.nodes.NodeName.{NodeName}
use Rattle.cx_base.specs.declared.nodes.NodeName.TheVariants as node
use Rattle.cx_control.specs.Auth.{auth_done_layout, auth_reply_more_layout, auth_signature_layout}
use Rattle.cx_control.specs.BadMethod.{bad_method_layout}
use Rattle.cx_control.specs.Hello.{hello_layout}
use Rattle.cx_control.specs.Idents.{ident_missing_features_layout, server_ident_layout}
use Rattle.cx_control.specs.Reconnects.{session_reconnect_ok_layout, session_reset_layout, session_retry_layout, session_retry_global_layout}
use Rattle.cx_control.specs.Upkeep.{ack_layout, keepalive2_layout, keepalive2_ack_layout}
use Rattle.cx_control.specs.declared.auth.AuthDone.{AuthDone}
use Rattle.cx_control.specs.declared.auth.AuthReplyMore.{AuthReplyMore}
use Rattle.cx_control.specs.declared.auth.AuthSignature.{AuthSignature}
use Rattle.cx_control.specs.declared.hello.Hello.{Hello}
use Rattle.cx_control.specs.declared.idents.IdentMissingFeatures.{IdentMissingFeatures}
use Rattle.cx_control.specs.declared.idents.ServerIdent.{ServerIdent}
use Rattle.cx_control.specs.declared.reconnects.SessionReconnectOk.{SessionReconnectOk}
use Rattle.cx_control.specs.declared.reconnects.SessionReset.{SessionReset}
use Rattle.cx_control.specs.declared.reconnects.SessionRetry.{SessionRetry}
use Rattle.cx_control.specs.declared.reconnects.SessionRetryGlobal.{SessionRetryGlobal}
use Rattle.cx_control.specs.declared.upkeep.Ack.{Ack}
use Rattle.cx_control.specs.declared.upkeep.Keepalive2.{Keepalive2}
use Rattle.cx_control.specs.declared.upkeep.Keepalive2Ack.{Keepalive2Ack}
use Rattle.cx_dice.specs.Draws.{challenge_of, cookie_of}
use Rattle.cx_frame.specs.Banners.{banner_at}
use Rattle.cx_frame.specs.declared.banner.Banner.{Banner}
use Rattle.cx_frame.specs.declared.frame.Frame.{Frame}
use Rattle.cx_frame.specs.declared.refusals.BannerRefusal.{BannerRefusal}
use Rattle.cx_frame.specs.declared.refusals.FrameRefusal.{FrameRefusal}
use Rattle.cx_laws_keys.specs.cx_journal.specs.declared.entries.Entry.{Entry}
use Rattle.cx_laws_keys.specs.cx_journal.specs.declared.faults.BytesFault.{BytesFault}
use Rattle.cx_laws_keys.specs.cx_journal.specs.declared.faults.BytesFault.TheVariants.{Unexpected}
use Rattle.cx_laws_keys.specs.cx_journal.specs.declared.faults.LoginFault.TheVariants as login
use Rattle.cx_laws_keys.specs.cx_journal.specs.declared.outcomes.Reason.{Reason}
use Rattle.cx_laws_keys.specs.cx_journal.specs.declared.outcomes.Reason.TheVariants as reason
use Rattle.cx_laws_keys.specs.cx_journal.specs.declared.premises.KeyKind.TheVariants as kind
use Rattle.cx_laws_keys.specs.cx_login.specs.Held.{Held}
use Rattle.cx_laws_keys.specs.cx_login.specs.Unlocking.{Unlocked}
use Rattle.cx_laws_keys.specs.cx_rules.specs.Connector.{client_ident}
use Rattle.cx_laws_keys.specs.cx_rules.specs.Fronts.{ahead_of, banner_next, banner_read, opened_parts, plain_next, plain_read, sealed_ahead, secure_next, secure_read}
use Rattle.cx_laws_keys.specs.cx_rules.specs.Greetings.{own_hello}
use Rattle.cx_laws_keys.specs.cx_rules.specs.Links.{Link}
use Rattle.cx_laws_keys.specs.cx_rules.specs.Messages.{message_in, on_upkeep_or, sealed_behind, sealed_then, secure_frames}
use Rattle.cx_laws_keys.specs.cx_rules.specs.Payloads.{due, payload, whole}
use Rattle.cx_laws_keys.specs.cx_rules.specs.Rows.{Turned, Waits, Refuses, Handles, at, goes_on, plain_sent, refuses, refuses_bytes, secure_sent, turned_by, unless_refused, with_opened}
use Rattle.cx_laws_keys.specs.cx_rules.specs.Secured.{Keys, SealedFrame, Secured, connector_keys, is_signed, plain_frame, secure_frame, signature, signature_found, signed_frame, signing, under}
use Rattle.cx_laws_keys.specs.cx_rules.specs.Upkeep.{on_keepalive, on_keepalive_ack}
use Rattle.cx_run.specs.cx_rules_session.specs.Envelopes.{authorize_content, sends_holding, session_sealed}
use Rattle.cx_run.specs.cx_rules_session.specs.Lossy.{lossy_flags}
use Rattle.cx_run.specs.cx_rules_session.specs.Presenter.{CallArrival, CallRow, CallStage, AwaitsBanner, AwaitsHello, AwaitsChallenge, AwaitsDone, AwaitsSignature, AwaitsIdent, AwaitsReconnect, Open, Caller, OperationEnd, acknowledges, answers_challenge, counting, end_in, first_frame, holding_session, identifies, on_ack, on_answer, on_answer_or_ack, on_authorize_reply, on_bad_method, on_banner, on_challenge, on_done, on_hello, on_missing_features, on_reconnect_ok, on_reply_more, on_reset, on_retry, on_retry_global, on_server_ident, on_signature, on_signed, on_unlocked, presented, presented_by, reconnects, resets, retries, retries_global, second_frame, signs, taken_up, takes_up, turned_at, while_answered, while_challenged, while_identified, while_reconnecting}
use Rattle.cx_run.specs.cx_rules_session.specs.Sessions.{Called, Callee, HeldSession, acknowledged_up_to, held_gid, session_reconnect, ticket_for, waiting_messages}
use Rattle.cx_laws_keys.specs.cx_sealed.specs.Records.{authorize_challenge_layout, authorize_reply_layout}
use Rattle.cx_laws_keys.specs.cx_sealed.specs.declared.authorize_challenge.AuthorizeChallenge.{AuthorizeChallenge}
use Rattle.cx_laws_keys.specs.cx_sealed.specs.declared.authorize_reply.AuthorizeReply.{AuthorizeReply}
use Rattle.cx_laws_keys.specs.cx_secure.specs.declared.refusals.SecureRefusal.{SecureRefusal}
use Rattle.cx_laws_keys.specs.cx_steps.specs.declared.seals.DrawMark.TheVariants as draw
use Rattle.cx_laws_keys.specs.cx_steps.specs.declared.seals.Logged.{Logged}
use Rattle.cx_laws_keys.specs.cx_steps.specs.declared.seals.SealEntry.{SealEntry}
use Rattle.cx_laws_keys.specs.cx_steps.specs.declared.seals.SealEntry.TheVariants.{Drawn}
use Rattle.cx_laws_keys.specs.cx_stream.specs.PlainStreams.{plain_frame_at}
use Rattle.cx_laws_keys.specs.cx_stream.specs.SecureStreams.{secure_frame_at}
use Rattle.cx_laws_keys.specs.cx_wire.specs.Logins as shown_layout
use Rattle.cx_laws_keys.specs.cx_wire.specs.declared.authorizers.AuthorizeChallenge as shown_challenge
use Rattle.cx_laws_keys.specs.cx_wire.specs.declared.authorizers.AuthorizeReply as shown_reply
use Rattle.cx_laws_tickets.proofs.calling.Sessions.{CallKeys, HeldOk, HoldingsOk, IsRepliedFor, IsSession, IsShownFor, found-ticket, replied-connection, same-entity}
use Rattle.cx_laws_keys.proofs.keys.Known.{HasReply, Inv, IsAllowed}
use Rattle.cx_laws_keys.proofs.keys.Lists.{all-append}
use Rattle.cx_laws_keys.proofs.keys.Premises.{AreGranted, granted-first}
use Rattle.cx_laws_keys.proofs.keys.Reading.{authorize_no_connection, authorize_no_info, authorize_no_reply}
use Rattle.cx_laws_keys.proofs.keys.Uses.{AtDaemon, Connected, Login, Means, Ticketed, Uses, WholeRun}
use Rattle.cx_laws_keys.proofs.login.MonClientRows.{NeverExcepted}
use Rattle.cx_laws_keys.proofs.login.Facts.{HasConnection, IsSameWay, seals-own}
use Rattle.cx_laws_keys.proofs.login.Opens.{unlocked-allowed, unlocked_says}
use Rattle.cx_laws_keys.proofs.login.Rows.{Allowed, FrameOk, frame-ok, opened-allowed}

abbrev pub LinkCalls : Uses → NodeName → Option (Link CallStage) → Type 0
LinkCalls us n (Some link) = CallKeys us n link.stage
LinkCalls us n None = Unit {0}

-- what a row logs is allowed, and its link goes on under good keys
pub record Seals (us : Uses) (J : List Entry) (n : NodeName) (row : CallRow) : Type 0 where
  pub seals : Allowed us J n row.seals
  pub link : LinkCalls us n row.link

module _ (us : Uses) (J : List Entry) (n : NodeName) where
  abbrev S : CallRow → Type 0
  S row = Seals us J n row

  -- what a client shows, under the session key of its ticket
  shown-allowed : (key : List ℕ) (nonce : ℕ) (challenge : Option ℕ) → IsSession us n key → IsAllowed us J n (session_sealed key (authorize_content nonce challenge))
  shown-allowed key nonce challenge h = by_use h.means
    where
      by_use : Means us key (Login h.name) ⊎ ((service : EntityType) × Means us key (Ticketed h.name service)) → IsAllowed us J n (session_sealed key (authorize_content nonce challenge))
      by_use (inl m) = (
        Login h.name,
        m,
        (
          λ x e. absurd (authorize_no_info (shown_as nonce challenge) x e),
          λ x e. absurd (authorize_no_connection (shown_as nonce challenge) x e),
          λ x e. absurd (authorize_no_reply (shown_as nonce challenge) x e),
        ),
        tt,
      )
      by_use (inr (service, m)) = (Ticketed h.name service, m, λ x e. absurd (authorize_no_reply (shown_as nonce challenge) x e), tt)

  -- a signature under it
  signing-ok : (keys : Keys) (session received : List ℕ) (r : Result SealedFrame BytesFault) → IsSession us n session → FrameOk us J n keys r → FrameOk us J n keys (signing session received r)
  signing-ok keys session received (Err why) h f = tt
  signing-ok keys session received (Ok s) h f = ((by_use h.means, f.0), f.1)
    where
      by_use : Means us session (Login h.name) ⊎ ((service : EntityType) × Means us session (Ticketed h.name service)) → IsAllowed us J n (signature session received)
      by_use (inl m) = (Login h.name, m, tt)
      by_use (inr (service, m)) = (Ticketed h.name service, m, inl h.own)

  keyed : (key other : List ℕ) → other ≡ key → HasConnection us n key → HasConnection us n other
  keyed key other same h = subst (λ (k : List ℕ). HasConnection us n k) (sym same) h

  -- some frames that are sealed on a link
  frames-ok : (keys : Keys) (fs : List Frame) → HasConnection us n keys.key → FrameOk us J n keys (secure_frames keys fs)
  frames-ok keys [] h = (tt, record { key = refl; out = refl; into = refl })
  frames-ok keys (f ∷ fs) h = by_first (secure_frame keys f) (frame-ok us J n keys f (seals-own us n keys h)) (λ k moved. frames-ok k fs moved)
    where
      by_rest : (one : SealedFrame) → Allowed us J n one.seals × IsSameWay one.keys keys → (r : Result SealedFrame BytesFault) → FrameOk us J n one.keys r → FrameOk us J n keys (sealed_behind one r)
      by_rest one ok (Err why) rest = tt
      by_rest one ok (Ok more) rest = (
        all-append (IsAllowed us J n) one.seals more.seals ok.0 rest.0,
        record { key = rest.1.key ∙ ok.1.key; out = rest.1.out ∙ ok.1.out; into = rest.1.into ∙ ok.1.into },
      )

      by_first : (r : Result SealedFrame BytesFault) → FrameOk us J n keys r → ((k : Keys) → HasConnection us n k.key → FrameOk us J n k (secure_frames k fs))
          → FrameOk us J n keys (sealed_then r (λ one. sealed_behind one (secure_frames one.keys fs)))
      by_first (Err why) ok rest = tt
      by_first (Ok one) ok rest = by_rest one ok (secure_frames one.keys fs) (rest one.keys (keyed keys.key one.keys.key ok.1.key h))

  -- ---- the ways in which a row ends

  module _ (a : CallArrival) where
    goes-seals : (stage : CallStage) (bytes : List ℕ) (seals : List SealEntry) → CallKeys us n stage → Allowed us J n seals → S (goes_on a stage bytes seals)
    goes-seals stage bytes seals st al = record { seals = al; link = st }

    refuses-seals : (why : Reason) (seals : List SealEntry) → Allowed us J n seals → S (refuses a why seals)
    refuses-seals why seals al = record { seals = al; link = tt }

    bytes-seals : (why : BytesFault) (seals : List SealEntry) → Allowed us J n seals → S (refuses_bytes a why seals)
    bytes-seals why seals al = record { seals = al; link = tt }

    plain-seals : (stage : CallStage) (seals : List SealEntry) (r : Result (List ℕ) BytesFault) → CallKeys us n stage → Allowed us J n seals → S (plain_sent a stage seals r)
    plain-seals stage seals (Ok bytes) st al = goes-seals stage bytes seals st al
    plain-seals stage seals (Err why) st al = bytes-seals why seals al

    holding-seals : (stage : CallStage) (before held : List SealEntry) (f : Frame) → CallKeys us n stage → Allowed us J n before → Allowed us J n held → S (sends_holding a stage before held f)
    holding-seals stage before held f st al more = by_sent (plain_frame f)
      where
        by_sent : (r : Result (List ℕ) BytesFault) → S (unless_refused a before r (λ bytes. goes_on a stage bytes (before ++ held)))
        by_sent (Ok bytes) = goes-seals stage bytes (before ++ held) st (all-append (IsAllowed us J n) before held al more)
        by_sent (Err why) = bytes-seals why before al

    secure-seals : (s : Secured) (stage : Secured → CallStage) (seals : List SealEntry) (r : Result SealedFrame BytesFault) → FrameOk us J n s.keys r
        → ((t : Secured) → IsSameWay t.keys s.keys → CallKeys us n (stage t)) → Allowed us J n seals → S (secure_sent a s stage seals r)
    secure-seals s stage seals (Ok sealed) ok st al =
        goes-seals (stage (record s { keys = sealed.keys })) sealed.bytes (seals ++ sealed.seals) (st (record s { keys = sealed.keys }) ok.1) (all-append (IsAllowed us J n) seals sealed.seals al ok.0)
    secure-seals s stage seals (Err why) ok st al = bytes-seals why seals al

  -- ---- behind the peer's signature

  module _ (s : Secured) (callee : Callee) (has : HasConnection us n s.keys.key) where
    frame-is : (f : Frame) → FrameOk us J n s.keys (secure_frame s.keys f)
    frame-is f = frame-ok us J n s.keys f (seals-own us n s.keys has)

    identifies-seals : (a : CallArrival) (before : List SealEntry) → Allowed us J n before → S (identifies a s callee before)
    identifies-seals a before al =
        let cookie : ℕ = cookie_of a.draw in
        secure-seals a s (λ behind. AwaitsIdent behind callee cookie) (before ++ Drawn (draw.Cookie cookie) ∷ [])
        (secure_frame s.keys (client_ident a.own.mon_client (held_gid a.own.mon_client.holdings) (lossy_flags callee.lossy) cookie)) (frame-is _) (λ t same. keyed s.keys.key t.keys.key same.key has)
        (all-append (IsAllowed us J n) before (Drawn (draw.Cookie cookie) ∷ []) al (tt, tt))

    resets-seals : (a : CallArrival) (before : List SealEntry) → Allowed us J n before → S (resets a s callee before)
    resets-seals a before al = let h = identifies-seals (holding_session a None) before al in record { seals = h.seals; link = h.link }

    reconnects-seals : (a : CallArrival) (before : List SealEntry) (session : HeldSession) → Allowed us J n before → S (reconnects a s callee before session)
    reconnects-seals a before session al =
        secure-seals (holding_session a (Some session)) s (λ behind. AwaitsReconnect behind callee session.client_cookie) before
        (secure_frame s.keys (session_reconnect a.own.mon_client session)) (frame-is _) (λ t same. keyed s.keys.key t.keys.key same.key has) al

    takes_up-seals : (a : CallArrival) (before : List SealEntry) (session : HeldSession) → Allowed us J n before → S (takes_up a s callee before session)
    takes_up-seals a before session al = by_test (session.connect_seq == 2 ^ 64 - 1)
      where
        by_test : (last : Bool) → S (if last then resets a s callee before else reconnects a s callee before (record session { connect_seq = session.connect_seq + 1 }))
        by_test true = resets-seals a before al
        by_test false = reconnects-seals a before (record session { connect_seq = session.connect_seq + 1 }) al

    signed-seals : (a : CallArrival) (session : Option HeldSession) → S (on_signed a s callee session)
    signed-seals a None = identifies-seals a (signature_found s ∷ []) (tt, tt)
    signed-seals a (Some session) = takes_up-seals a (signature_found s ∷ []) session (tt, tt)

    pub signature-seals : (a : CallArrival) (read : Result AuthSignature BytesFault) → S (on_signature a s callee read)
    signature-seals a (Err why) = bytes-seals a why [] tt
    signature-seals a (Ok found) = by_test (is_signed s found.signature)
      where
        by_test : (right : Bool) → S (if right then on_signed a s callee a.own.session else refuses a (reason.Login login.SignatureWrong) [])
        by_test true = signed-seals a a.own.session
        by_test false = refuses-seals a _ [] tt

    server_ident-seals : (a : CallArrival) (cookie : ℕ) (read : Result ServerIdent BytesFault) → S (on_server_ident a s callee cookie read)
    server_ident-seals a cookie (Err why) = bytes-seals a why [] tt
    server_ident-seals a cookie (Ok ident) = record { seals = tt; link = has }

    missing-seals : (a : CallArrival) (read : Result IdentMissingFeatures BytesFault) → S (on_missing_features a read)
    missing-seals a (Err why) = bytes-seals a why [] tt
    missing-seals a (Ok missing) = bytes-seals a _ [] tt

    pub identified-seals : (a : CallArrival) (cookie : ℕ) (f : Frame) → S (while_identified a s callee cookie f)
    identified-seals a cookie f = by_test (f.tag == 10)
      where
        by_test : (lacks : Bool) → S (if lacks then on_missing_features a (payload ident_missing_features_layout.form f)
            else on_server_ident a s callee cookie (due 9 server_ident_layout.form f))
        by_test true = missing-seals a (payload ident_missing_features_layout.form f)
        by_test false = server_ident-seals a cookie (due 9 server_ident_layout.form f)

    taken_up-seals : (a : CallArrival) (cookie last : ℕ) (session : Option HeldSession) → S (taken_up a s callee cookie last session)
    taken_up-seals a cookie last None = record { seals = tt; link = has }
    taken_up-seals a cookie last (Some session) =
        let later : HeldSession = acknowledged_up_to last session in
        secure-seals (holding_session a (Some later)) s (λ behind. Open behind callee cookie) [] (secure_frames s.keys (waiting_messages later))
        (frames-ok s.keys (waiting_messages later) has) (λ t same. keyed s.keys.key t.keys.key same.key has) tt

    reconnect_ok-seals : (a : CallArrival) (cookie : ℕ) (read : Result SessionReconnectOk BytesFault) → S (on_reconnect_ok a s callee cookie read)
    reconnect_ok-seals a cookie (Err why) = bytes-seals a why [] tt
    reconnect_ok-seals a cookie (Ok ok) = taken_up-seals a cookie ok.seq a.own.session

    reset-seals : (a : CallArrival) (read : Result SessionReset BytesFault) → S (on_reset a s callee read)
    reset-seals a (Err why) = bytes-seals a why [] tt
    reset-seals a (Ok reset) = resets-seals a [] tt

    retries-seals : (a : CallArrival) (kept : ℕ) (session : Option HeldSession) → S (retries a s callee kept session)
    retries-seals a kept None = resets-seals a [] tt
    retries-seals a kept (Some session) = by_test (kept == 2 ^ 64 - 1)
      where
        by_test : (last : Bool) → S (if last then resets a s callee [] else reconnects a s callee [] (record session { connect_seq = kept + 1 }))
        by_test true = resets-seals a [] tt
        by_test false = reconnects-seals a [] (record session { connect_seq = kept + 1 }) tt

    retry-seals : (a : CallArrival) (read : Result SessionRetry BytesFault) → S (on_retry a s callee read)
    retry-seals a (Err why) = bytes-seals a why [] tt
    retry-seals a (Ok retry) = retries-seals a retry.connect_seq a.own.session

    retries_global-seals : (a : CallArrival) (kept : ℕ) (session : Option HeldSession) → S (retries_global a s callee kept session)
    retries_global-seals a kept None = resets-seals a [] tt
    retries_global-seals a kept (Some session) = by_test (kept == 2 ^ 64 - 1)
      where
        by_test : (last : Bool) → S (if last then resets a s callee [] else reconnects (counting a (kept + 1)) s callee [] session)
        by_test true = resets-seals a [] tt
        by_test false = reconnects-seals (counting a (kept + 1)) [] session tt

    retry_global-seals : (a : CallArrival) (read : Result SessionRetryGlobal BytesFault) → S (on_retry_global a s callee read)
    retry_global-seals a (Err why) = bytes-seals a why [] tt
    retry_global-seals a (Ok retry) = retries_global-seals a retry.global_seq a.own.session

    pub reconnecting-seals : (a : CallArrival) (cookie : ℕ) (f : Frame) → S (while_reconnecting a s callee cookie f)
    reconnecting-seals a cookie f = by_tests (f.tag == 15) (f.tag == 12) (f.tag == 13) (f.tag == 14)
      where
        by_tests : (ok reset retry global : Bool) → S
            (if ok then on_reconnect_ok a s callee cookie (payload session_reconnect_ok_layout.form f)
            else if reset then on_reset a s callee (payload session_reset_layout.form f)
            else if retry then on_retry a s callee (payload session_retry_layout.form f)
            else if global then on_retry_global a s callee (payload session_retry_global_layout.form f)
            else refuses_bytes a (Unexpected f.tag) [])
        by_tests true reset retry global = reconnect_ok-seals a cookie (payload session_reconnect_ok_layout.form f)
        by_tests false true retry global = reset-seals a (payload session_reset_layout.form f)
        by_tests false false true global = retry-seals a (payload session_retry_layout.form f)
        by_tests false false false true = retry_global-seals a (payload session_retry_global_layout.form f)
        by_tests false false false false = bytes-seals a _ [] tt

    acknowledges-seals : (a : CallArrival) (cookie seq : ℕ) (session : Option HeldSession) → S (acknowledges a s callee cookie seq session)
    acknowledges-seals a cookie seq None = record { seals = tt; link = has }
    acknowledges-seals a cookie seq (Some session) = record { seals = tt; link = has }

    ack-seals : (a : CallArrival) (cookie : ℕ) (read : Result Ack BytesFault) → S (on_ack a s callee cookie read)
    ack-seals a cookie (Err why) = bytes-seals a why [] tt
    ack-seals a cookie (Ok ack) = acknowledges-seals a cookie ack.seq a.own.session

    answer-seals : (a : CallArrival) (cookie : ℕ) (read : Result OperationEnd BytesFault) → S (on_answer a s callee cookie read)
    answer-seals a cookie (Err why) = bytes-seals a why [] tt
    answer-seals a cookie (Ok end) = record { seals = tt; link = has }

    answer_or_ack-seals : (a : CallArrival) (cookie : ℕ) (f : Frame) → S (on_answer_or_ack a s callee cookie f)
    answer_or_ack-seals a cookie f = by_test (f.tag == 20)
      where
        by_test : (ack : Bool) → S (if ack then on_ack a s callee cookie (payload ack_layout.form f) else on_answer a s callee cookie (end_in (message_in f)))
        by_test true = ack-seals a cookie (payload ack_layout.form f)
        by_test false = answer-seals a cookie (end_in (message_in f))

    keepalive-seals : (a : CallArrival) (cookie : ℕ) (read : Result Keepalive2 BytesFault) → S (on_keepalive a s (λ behind. Open behind callee cookie) read)
    keepalive-seals a cookie (Err why) = bytes-seals a why [] tt
    keepalive-seals a cookie (Ok keepalive) = secure-seals a s (λ behind. Open behind callee cookie) [] _ (frame-is _) (λ t same. keyed s.keys.key t.keys.key same.key has) tt

    keepalive_ack-seals : (a : CallArrival) (cookie : ℕ) (read : Result Keepalive2Ack BytesFault) → S (on_keepalive_ack a s (λ behind. Open behind callee cookie) read)
    keepalive_ack-seals a cookie (Err why) = bytes-seals a why [] tt
    keepalive_ack-seals a cookie (Ok ack) = record { seals = tt; link = has }

    pub open-seals : (a : CallArrival) (cookie : ℕ) (f : Frame) → S (on_upkeep_or (on_answer_or_ack a s callee cookie) a s (λ behind. Open behind callee cookie) f)
    open-seals a cookie f = by_tests (f.tag == 18) (f.tag == 19)
      where
        by_tests : (ask ack : Bool) → S
            (if ask then on_keepalive a s (λ behind. Open behind callee cookie) (payload keepalive2_layout.form f)
            else if ack then on_keepalive_ack a s (λ behind. Open behind callee cookie) (payload keepalive2_ack_layout.form f) else on_answer_or_ack a s callee cookie f)
        by_tests true ack = keepalive-seals a cookie (payload keepalive2_layout.form f)
        by_tests false true = keepalive_ack-seals a cookie (payload keepalive2_ack_layout.form f)
        by_tests false false = answer_or_ack-seals a cookie f

  behind-seals : (opened : List SealEntry) (row : CallRow) → Allowed us J n opened → S row → S (with_opened opened row)
  behind-seals opened row al h = record { seals = all-append (IsAllowed us J n) opened row.seals al h.seals; link = h.link }

-- ---- authorizers, and what opens

module _ (run : WholeRun) (whole_log : List Logged) (n : NodeName) (line : ℕ) (us : Uses) (log : List Logged) (J : List Entry) (name : Name)
    (free : NeverExcepted run whole_log n us name) (here : n ≡ node.Entity name) (i : Inv run whole_log us log J) where
  abbrev Sealed_ : CallRow → Type 0
  Sealed_ row = Seals us J n row

  abbrev Grants : List SealEntry → Type 0
  Grants es = AreGranted run.leaked whole_log n line log es

  -- whose reply it is that opened, under the session key of a ticket for which service: a daemon of that type sealed it for a link to this entity, behind the nonce that it raises
  pub record IsReplyFor (key : List ℕ) (x : AuthorizeReply) : Type 0 where
    pub whose : Name
    pub own : n ≡ node.Entity whose
    pub service : EntityType
    pub ticketed : Means us key (Ticketed whose service)
    pub reply : HasReply us whose x
    pub service_is : reply.service ≡ service

  reply-for : (key bytes : List ℕ) (x : AuthorizeReply) → (h : IsSession us n key) → Grants (reply_in key bytes).seals → (reply_in key bytes).value ≡ Some x
      → (f : IsReplyFor key x) × (f.whose ≡ h.name)
  reply-for key bytes x h g e = by_use h.means
    where
      same : Some h.name ≡ Some name
      same = ap (λ (m : Name). Some m) (same-entity n h.name name h.own here)

      by_use : Means us key (Login h.name) ⊎ ((service : EntityType) × Means us key (Ticketed h.name service)) → (f : IsReplyFor key x) × (f.whose ≡ h.name)
      by_use (inl m) =
          let s = unlocked_says run whole_log n line us log J authorize_reply_layout.form kind.Session key bytes (Login h.name) i m (free key (Login h.name) m same) g x e in absurd (s.2.2 x s.1)
      by_use (inr (service, m)) =
          let s = unlocked_says run whole_log n line us log J authorize_reply_layout.form kind.Session key bytes (Ticketed h.name service) i m (free key (Ticketed h.name service) m same) g x e in
          let r = s.2 x s.1 in
          (record { whose = h.name; own = h.own; service = service; ticketed = m; reply = r.0; service_is = r.1 }, refl)

  pub reply-ties : (key bytes : List ℕ) (x : AuthorizeReply) → (h : IsSession us n key) → Grants (reply_in key bytes).seals → (reply_in key bytes).value ≡ Some x
      → HasReply us h.name x
  reply-ties key bytes x h g e = let f = reply-for key bytes x h g e in subst (λ (m : Name). HasReply us m x) f.1 f.0.reply

  -- so its secret gives a key of a link to a daemon of that type
  reply-connects : (key bytes : List ℕ) (x : AuthorizeReply) → IsSession us n key → Grants (reply_in key bytes).seals → (reply_in key bytes).value ≡ Some x
      → IsRepliedFor us n key (take 16 x.secret)
  reply-connects key bytes x h g e =
      let f = (reply-for key bytes x h g e).0 in
      let r = f.reply in
      record {
        name = f.whose;
        own = f.own;
        service = f.service;
        ticketed = f.ticketed;
        acceptor = r.acceptor;
        number = r.number;
        tie = x.nonce_plus_one;
        means = subst (λ (service : EntityType). Means us (take 16 x.secret) (Connected r.acceptor r.number f.whose (AtDaemon service x.nonce_plus_one))) f.service_is r.means;
      }

  module _ (a : CallArrival) where
    -- the ticket that is shown is one that is held, or was
    presented-session : (called : Called) (nonce : ℕ) → HoldingsOk us n a.own.mon_client.holdings → IsShownFor us n called.callee called.held
        → IsShownFor us n called.callee (presented called a.own.mon_client nonce).held
    presented-session called nonce ok before =
        by_ticket (ticket_for called.callee.daemon.kind a.own.mon_client.holdings) (found-ticket us n a.own.mon_client.holdings called.callee.daemon.kind ok)
      where
        by_ticket : (t : Option Held) → HeldOk us n called.callee.daemon.kind t → IsShownFor us n called.callee (presented_by called a.own.mon_client t nonce).held
        by_ticket (Some held) h = h
        by_ticket None h = before

    hello-seals : (called : Called) (read : Result Hello BytesFault) → HoldingsOk us n a.own.mon_client.holdings → IsShownFor us n called.callee called.held → Sealed_ (on_hello a called read)
    hello-seals called (Err why) ok before = bytes-seals us J n a why [] tt
    hello-seals called (Ok hello) ok before =
        let p : Presented = presented called a.own.mon_client (challenge_of a.draw) in
        let is : IsShownFor us n called.callee p.held = presented-session called (challenge_of a.draw) ok before in
        holding-seals us J n a (AwaitsChallenge called.callee p) (Drawn (draw.Nonce p.nonce) ∷ []) (session_sealed p.held.session (authorize_content p.nonce None) ∷ []) (first_frame a.own.mon_client p)
        is (tt, tt) (shown-allowed us J n p.held.session p.nonce None is.0, tt)

    answers-seals : (callee : Callee) (p : Presented) (opened : List SealEntry) (value : Option AuthorizeChallenge) → IsShownFor us n callee p.held → Allowed us J n opened
        → Sealed_ (answers_challenge a callee p opened value)
    answers-seals callee p opened None is al = refuses-seals us J n a _ opened al
    answers-seals callee p opened (Some asked) is al =
        holding-seals us J n a (AwaitsDone callee (record { session = p.held.session; nonce = p.nonce })) opened
        (session_sealed p.held.session (authorize_content p.nonce (Some asked.challenge)) ∷ []) (second_frame p asked.challenge)
        is.0 al (shown-allowed us J n p.held.session p.nonce (Some asked.challenge) is.0, tt)

    challenge-seals : (callee : Callee) (p : Presented) (read : Result shown_challenge.AuthorizeChallenge BytesFault) → IsShownFor us n callee p.held → Sealed_ (on_challenge a callee p read)
    challenge-seals callee p (Err why) is = bytes-seals us J n a why [] tt
    challenge-seals callee p (Ok shown) is =
        let u : Unlocked AuthorizeChallenge = challenge_in p.held.session shown.sealed in
        answers-seals callee p u.seals u.value is (unlocked-allowed run whole_log n line us [] J authorize_challenge_layout.form kind.Session p.held.session shown.sealed)

    reply_more-seals : (callee : Callee) (p : Presented) (read : Result AuthReplyMore BytesFault) → IsShownFor us n callee p.held → Sealed_ (on_reply_more a callee p read)
    reply_more-seals callee p (Err why) is = bytes-seals us J n a why [] tt
    reply_more-seals callee p (Ok more) is = challenge-seals callee p (whole shown_layout.authorize_challenge_layout.form more.payload) is

    bad_method-seals : (read : Result (ℕ × (ℕ × (List ℕ × List ℕ))) BytesFault) → Sealed_ (on_bad_method a read)
    bad_method-seals (Err why) = bytes-seals us J n a why [] tt
    bad_method-seals (Ok fields) = refuses-seals us J n a _ [] tt

    challenged-seals : (callee : Callee) (p : Presented) (f : Frame) → IsShownFor us n callee p.held → Sealed_ (while_challenged a callee p f)
    challenged-seals callee p f is = by_test (f.tag == 3)
      where
        by_test : (denied : Bool) → Sealed_ (if denied then on_bad_method a (payload bad_method_layout.form f) else on_reply_more a callee p (due 4 auth_reply_more_layout.form f))
        by_test true = bad_method-seals (payload bad_method_layout.form f)
        by_test false = reply_more-seals callee p (due 4 auth_reply_more_layout.form f) is

    signs-seals : (callee : Callee) (answered : Answered) (opened : List SealEntry) (made : Result SealedFrame BytesFault) (keys : Keys) → IsRepliedFor us n answered.session keys.key
        → Allowed us J n opened → FrameOk us J n keys made → Sealed_ (signs a callee answered opened made)
    signs-seals callee answered opened (Err why) keys has al f = bytes-seals us J n a why opened al
    signs-seals callee answered opened (Ok sealed) keys has al f =
        goes-seals us J n a (AwaitsSignature (record { keys = sealed.keys; session = answered.session; covered = a.link.sent }) callee) sealed.bytes (opened ++ sealed.seals)
        (subst (λ (k : List ℕ). IsRepliedFor us n answered.session k) (sym f.1.key) has) (all-append (IsAllowed us J n) opened sealed.seals al f.0)

    -- what opened is granted, whatever comes of it
    opened-granted : (callee : Callee) (answered : Answered) (opened : List SealEntry) (value : Option AuthorizeReply) → Grants (on_unlocked a callee answered opened value).seals → Grants opened
    opened-granted callee answered opened None g = g
    opened-granted callee answered opened (Some reply) g = by_test (reply.nonce_plus_one == raised answered.nonce) g
      where
        by_signed : (r : Result SealedFrame BytesFault) → Grants (signs a callee answered opened r).seals → Grants opened
        by_signed (Err why) g = g
        by_signed (Ok sealed) g = granted-first run.leaked whole_log n line log opened sealed.seals g

        by_test : (same : Bool) → Grants (if same
            then signs a callee answered opened (signed_frame (connector_keys reply.secret) answered.session (take a.link.taken a.link.received))
            else refuses a (reason.Login (login.NonceWrong (raised answered.nonce) reply.nonce_plus_one)) opened).seals → Grants opened
        by_test true g = by_signed (signed_frame (connector_keys reply.secret) answered.session (take a.link.taken a.link.received)) g
        by_test false g = g

    unlocked-seals : (callee : Callee) (answered : Answered) (opened : List SealEntry) (value : Option AuthorizeReply) → IsSession us n answered.session → Allowed us J n opened
        → ((x : AuthorizeReply) → value ≡ Some x → IsRepliedFor us n answered.session (take 16 x.secret)) → Sealed_ (on_unlocked a callee answered opened value)
    unlocked-seals callee answered opened None is al connects = refuses-seals us J n a _ opened al
    unlocked-seals callee answered opened (Some reply) is al connects = by_test (reply.nonce_plus_one == raised answered.nonce)
      where
        by_test : (same : Bool) → Sealed_ (if same
            then signs a callee answered opened (signed_frame (connector_keys reply.secret) answered.session (take a.link.taken a.link.received))
            else refuses a (reason.Login (login.NonceWrong (raised answered.nonce) reply.nonce_plus_one)) opened)
        by_test true =
            let keys : Keys = connector_keys reply.secret in
            let has : IsRepliedFor us n answered.session keys.key = connects reply refl in
            signs-seals callee answered opened (signed_frame keys answered.session (take a.link.taken a.link.received)) keys has al
            (signing-ok us J n keys answered.session (take a.link.taken a.link.received) (secure_frame keys _) is (frame-ok us J n keys _ (seals-own us n keys (replied-connection us n answered.session keys.key has))))
        by_test false = refuses-seals us J n a _ opened al

    authorize_reply-seals : (callee : Callee) (answered : Answered) (read : Result shown_reply.AuthorizeReply BytesFault) → IsSession us n answered.session
        → Grants (on_authorize_reply a callee answered read).seals → Sealed_ (on_authorize_reply a callee answered read)
    authorize_reply-seals callee answered (Err why) is g = bytes-seals us J n a why [] tt
    authorize_reply-seals callee answered (Ok shown) is g =
        let u : Unlocked AuthorizeReply = reply_in answered.session shown.sealed in
        let granted : Grants u.seals = opened-granted callee answered u.seals u.value g in
        unlocked-seals callee answered u.seals u.value is (unlocked-allowed run whole_log n line us [] J authorize_reply_layout.form kind.Session answered.session shown.sealed)
        (λ x e. reply-connects answered.session shown.sealed x is granted e)

    done-seals : (callee : Callee) (answered : Answered) (read : Result AuthDone BytesFault) → IsSession us n answered.session → Grants (on_done a callee answered read).seals
        → Sealed_ (on_done a callee answered read)
    done-seals callee answered (Err why) is g = bytes-seals us J n a why [] tt
    done-seals callee answered (Ok done) is g = by_test (not (done.mode == 2)) g
      where
        by_test : (other : Bool) → Grants (if other then refuses a (reason.Login login.Mode) [] else on_authorize_reply a callee answered (whole shown_layout.authorize_reply_layout.form done.payload)).seals
            → Sealed_ (if other then refuses a (reason.Login login.Mode) [] else on_authorize_reply a callee answered (whole shown_layout.authorize_reply_layout.form done.payload))
        by_test true g = refuses-seals us J n a _ [] tt
        by_test false g = authorize_reply-seals callee answered (whole shown_layout.authorize_reply_layout.form done.payload) is g

    answered-seals : (callee : Callee) (answered : Answered) (f : Frame) → IsSession us n answered.session → Grants (while_answered a callee answered f).seals → Sealed_ (while_answered a callee answered f)
    answered-seals callee answered f is g = by_test (f.tag == 3) g
      where
        by_test : (denied : Bool) → Grants (if denied then on_bad_method a (payload bad_method_layout.form f) else on_done a callee answered (due 6 auth_done_layout.form f)).seals
            → Sealed_ (if denied then on_bad_method a (payload bad_method_layout.form f) else on_done a callee answered (due 6 auth_done_layout.form f))
        by_test true g = bad_method-seals (payload bad_method_layout.form f)
        by_test false g = done-seals callee answered (due 6 auth_done_layout.form f) is g

  -- ---- a turn

  -- what is due of a turn: where what a row logs is granted, it is allowed; and so is what opened before a refusal
  abbrev pub TurnSeals : Turned Caller CallStage → Type 0
  TurnSeals Waits = Unit {0}
  TurnSeals (Refuses why opened) = Allowed us J n opened
  TurnSeals (Handles row) = Grants row.seals → Sealed_ row

  banner-turn : (row : Link CallStage → CallRow) (link : Link CallStage) → ((l : Link CallStage) → Sealed_ (row l)) → TurnSeals (turned_by (λ l _. row l) (banner_next link))
  banner-turn row link each = by_read (banner_at (ahead_of link))
    where
      by_read : (r : Result (Option (Banner × ℕ)) BannerRefusal) → TurnSeals (turned_by (λ l _. row l) (banner_read link r))
      by_read (Ok None) = tt
      by_read (Ok (Some (b, m))) = λ g. each _
      by_read (Err e) = tt

  plain-turn : (row : Link CallStage → Frame → CallRow) (link : Link CallStage) → ((l : Link CallStage) (f : Frame) → Grants (row l f).seals → Sealed_ (row l f))
      → TurnSeals (turned_by (λ (l, f) _. row l f) (plain_next link))
  plain-turn row link each = by_read (plain_frame_at (ahead_of link))
    where
      by_read : (r : Result (Option (Frame × ℕ)) FrameRefusal) → TurnSeals (turned_by (λ (l, f) _. row l f) (plain_read link r))
      by_read (Ok None) = tt
      by_read (Ok (Some (f, m))) = each _ f
      by_read (Err e) = tt

  secure-turn : (keys : Keys) (row : Link CallStage → Keys → Frame → CallRow) (link : Link CallStage)
      → ((l : Link CallStage) (k : Keys) (f : Frame) → IsSameWay k keys → Sealed_ (row l k f))
      → TurnSeals (turned_by (λ (l, f, k) opened. with_opened opened (row l k f)) (secure_next keys link))
  secure-turn keys row link each =
      by_read (opened_parts (sealed_ahead keys link)) (opened-allowed us J n (sealed_ahead keys link)) (secure_frame_at (sealed_ahead keys link))
    where
      by_read : (opened : List SealEntry) → Allowed us J n opened → (r : Result (Option (Frame × ℕ)) SecureRefusal)
          → TurnSeals (turned_by (λ (l, f, k) opened. with_opened opened (row l k f)) (secure_read keys link opened r))
      by_read opened al (Ok None) = tt
      by_read opened al (Ok (Some (f, m))) = λ g. behind-seals us J n opened (row _ _ f) al (each _ _ f (record { key = refl; out = refl; into = refl }))
      by_read opened al (Err e) = al

  pub call-seals : (a : CallArrival) (stage : CallStage) → HoldingsOk us n a.own.mon_client.holdings → CallKeys us n stage → TurnSeals (turned_at a stage)
  call-seals a (AwaitsBanner called) ok st =
      banner-turn (λ l. on_banner (at a l) called) a.link (λ l. plain-seals us J n (at a l) (AwaitsHello called) [] (plain_frame (own_hello a.own.mon_client.name.kind)) st tt)
  call-seals a (AwaitsHello called) ok st =
      plain-turn (λ l f. on_hello (at a l) called (due 1 hello_layout.form f)) a.link (λ l f g. hello-seals (at a l) called (due 1 hello_layout.form f) ok st)
  call-seals a (AwaitsChallenge callee p) ok st = plain-turn (λ l f. while_challenged (at a l) callee p f) a.link (λ l f g. challenged-seals (at a l) callee p f st)
  call-seals a (AwaitsDone callee answered) ok st = plain-turn (λ l f. while_answered (at a l) callee answered f) a.link (λ l f g. answered-seals (at a l) callee answered f st g)
  call-seals a (AwaitsSignature s callee) ok st =
      secure-turn s.keys (λ l k f. on_signature (at a l) (under s k) callee (due 7 auth_signature_layout.form f)) a.link
      (λ l k f same. signature-seals us J n (under s k) callee (keyed us J n s.keys.key k.key same.key (replied-connection us n s.session s.keys.key st)) (at a l) (due 7 auth_signature_layout.form f))
  call-seals a (AwaitsIdent s callee cookie) ok st =
      secure-turn s.keys (λ l k f. while_identified (at a l) (under s k) callee cookie f) a.link
      (λ l k f same. identified-seals us J n (under s k) callee (keyed us J n s.keys.key k.key same.key st) (at a l) cookie f)
  call-seals a (AwaitsReconnect s callee cookie) ok st =
      secure-turn s.keys (λ l k f. while_reconnecting (at a l) (under s k) callee cookie f) a.link
      (λ l k f same. reconnecting-seals us J n (under s k) callee (keyed us J n s.keys.key k.key same.key st) (at a l) cookie f)
  call-seals a (Open s callee cookie) ok st =
      secure-turn s.keys (λ l k f. on_upkeep_or (on_answer_or_ack (at a l) (under s k) callee cookie) (at a l) (under s k) (λ behind. Open behind callee cookie) f) a.link
      (λ l k f same. open-seals us J n (under s k) callee (keyed us J n s.keys.key k.key same.key st) (at a l) cookie f)
