-- One walk over the rows of a client's link to a daemon: what closes a property of them gives it of each turn.
use Rattle.std.proofs.Common.{◌≡◌, ℕ, ◌==◌, ◌+◌, ◌-◌, ◌^◌, ◌++◌, Bool, true, false, List, [], ◌∷◌, take, Option, Some, None, Result, Ok, Err, refl, length, sym, subst}
use Rattle.std.specs.Prelude.{not, if◌then◌else◌}
use Rattle.cx_rules_session.specs.Envelopes.{authorize_content, session_sealed}
use Rattle.cx_rules_session.specs.Kinds.{entered_before}
use Rattle.cx_rules_session.specs.Presenter.{answered_entry, callee_of, CallArrival, CallRow, CallStage, AwaitsBanner, AwaitsHello, AwaitsChallenge, AwaitsDone, AwaitsSignature, AwaitsIdent, AwaitsReconnect, Open, OperationEnd, acknowledges, answers_challenge, counting, end_in, first_frame, holding_session, identifies, on_ack, on_answer, on_answer_or_ack, on_authorize_reply, on_bad_method, on_banner, on_challenge, on_done, on_hello, on_missing_features, on_reconnect_ok, on_reply_more, on_reset, on_retry, on_retry_global, on_server_ident, on_signature, on_signed, on_unlocked, presented, reconnects, resets, retries, retries_global, second_frame, signs, taken_up, takes_up, turned_at, while_answered, while_challenged, while_identified, while_reconnecting}
use Rattle.cx_rules_session.specs.Sessions.{Called, Callee, HeldSession, acknowledged_up_to, new_session}
use Rattle.cx_rules_session.specs.cx_authorize.specs.Client.{Answered, Presented, challenge_in, reply_in}
use Rattle.cx_rules_session.specs.cx_authorize.specs.Verdict.{raised}
use Rattle.cx_rules_session.specs.cx_control.specs.Auth.{auth_done_layout, auth_reply_more_layout, auth_signature_layout}
use Rattle.cx_rules_session.specs.cx_control.specs.BadMethod.{bad_method_layout, kept_method}
use Rattle.cx_rules_session.specs.cx_control.specs.Hello.{hello_layout}
use Rattle.cx_rules_session.specs.cx_control.specs.Idents.{ident_missing_features_layout, server_ident_layout}
use Rattle.cx_rules_session.specs.cx_control.specs.Reconnects.{session_reconnect_ok_layout, session_reset_layout, session_retry_layout, session_retry_global_layout}
use Rattle.cx_rules_session.specs.cx_control.specs.Upkeep.{ack_layout, keepalive2_layout, keepalive2_ack_layout}
use Rattle.cx_rules_session.specs.cx_control.specs.declared.auth.AuthDone.{AuthDone}
use Rattle.cx_rules_session.specs.cx_control.specs.declared.auth.AuthReplyMore.{AuthReplyMore}
use Rattle.cx_rules_session.specs.cx_control.specs.declared.auth.AuthSignature.{AuthSignature}
use Rattle.cx_rules_session.specs.cx_control.specs.declared.hello.Hello.{Hello}
use Rattle.cx_rules_session.specs.cx_control.specs.declared.idents.IdentMissingFeatures.{IdentMissingFeatures}
use Rattle.cx_rules_session.specs.cx_control.specs.declared.idents.ServerIdent.{ServerIdent}
use Rattle.cx_rules_session.specs.cx_control.specs.declared.reconnects.SessionReconnectOk.{SessionReconnectOk}
use Rattle.cx_rules_session.specs.cx_control.specs.declared.reconnects.SessionReset.{SessionReset}
use Rattle.cx_rules_session.specs.cx_control.specs.declared.reconnects.SessionRetry.{SessionRetry}
use Rattle.cx_rules_session.specs.cx_control.specs.declared.reconnects.SessionRetryGlobal.{SessionRetryGlobal}
use Rattle.cx_rules_session.specs.cx_control.specs.declared.upkeep.Ack.{Ack}
use Rattle.cx_rules_session.specs.cx_control.specs.declared.upkeep.Keepalive2.{Keepalive2}
use Rattle.cx_rules_session.specs.cx_control.specs.declared.upkeep.Keepalive2Ack.{Keepalive2Ack}
use Rattle.cx_rules_session.specs.cx_dice.specs.Draws.{challenge_of, cookie_of}
use Rattle.cx_rules_session.specs.cx_frame.specs.Banners.{banner_at}
use Rattle.cx_rules_session.specs.cx_frame.specs.declared.banner.Banner.{Banner}
use Rattle.cx_rules_session.specs.cx_frame.specs.declared.frame.Frame.{Frame}
use Rattle.cx_rules_session.specs.cx_frame.specs.declared.refusals.BannerRefusal.{BannerRefusal}
use Rattle.cx_rules_session.specs.cx_frame.specs.declared.refusals.FrameRefusal.{FrameRefusal}
use Rattle.cx_rules_session.specs.cx_journal.specs.declared.entries.Entry.{Entry}
use Rattle.cx_rules_session.specs.cx_journal.specs.declared.faults.BytesFault.{BytesFault}
use Rattle.cx_rules_session.specs.cx_journal.specs.declared.faults.BytesFault.TheVariants.{Unexpected, Features}
use Rattle.cx_rules_session.specs.cx_journal.specs.declared.faults.LoginFault.TheVariants.{Mode, NonceWrong, SignatureWrong, Unopened}
use Rattle.cx_rules_session.specs.cx_journal.specs.declared.outcomes.Reason.{Reason}
use Rattle.cx_rules_session.specs.cx_journal.specs.declared.outcomes.Reason.TheVariants as reason
use Rattle.cx_rules_session.specs.cx_rules.proofs.Fitting.{Fits, secure-fits, banner-fits, plain-fits}
use Rattle.cx_rules_session.specs.cx_rules.specs.Fronts.{plain_next, secure_next, ahead_of, keys_behind, opened_parts, sealed_ahead, secure_read, taking, banner_read, plain_read}
use Rattle.cx_rules_session.specs.cx_rules.specs.Greetings.{own_hello}
use Rattle.cx_rules_session.specs.cx_rules.specs.Messages.{message_in, on_upkeep_or}
use Rattle.cx_rules_session.specs.cx_rules.specs.Payloads.{due, payload, whole}
use Rattle.cx_rules_session.specs.cx_rules.specs.Rows.{at, goes_on, plain_sent, refuses, refuses_bytes, secure_sent, unless_refused, with_opened, turned_by, refused_entry}
use Rattle.cx_rules_session.specs.cx_rules.specs.Secured.{SealedFrame, Secured, connector_keys, is_signed, plain_frame, signature_found, signed_frame, under, Keys}
use Rattle.cx_rules_session.specs.cx_rules.specs.Upkeep.{on_keepalive, on_keepalive_ack}
use Rattle.cx_rules_session.specs.cx_sealed.specs.declared.authorize_challenge.AuthorizeChallenge.{AuthorizeChallenge}
use Rattle.cx_rules_session.specs.cx_sealed.specs.declared.authorize_reply.AuthorizeReply.{AuthorizeReply}
use Rattle.cx_rules_session.specs.cx_secure.specs.declared.refusals.SecureRefusal.{SecureRefusal}
use Rattle.cx_rules_session.specs.cx_steps.specs.declared.seals.DrawMark.TheVariants as draw
use Rattle.cx_rules_session.specs.cx_steps.specs.declared.seals.SealEntry.{SealEntry}
use Rattle.cx_rules_session.specs.cx_steps.specs.declared.seals.SealEntry.TheVariants.{Drawn}
use Rattle.cx_rules_session.specs.cx_stream.specs.PlainStreams.{plain_frame_at}
use Rattle.cx_rules_session.specs.cx_stream.specs.SecureStreams.{secure_frame_at}
use Rattle.cx_rules_session.specs.cx_wire.specs.Logins.{authorize_challenge_layout, authorize_reply_layout}
use Rattle.cx_rules_session.specs.cx_wire.specs.declared.authorizers.AuthorizeChallenge as shown_challenge
use Rattle.cx_rules_session.specs.cx_wire.specs.declared.authorizers.AuthorizeReply as shown_reply
use Rattle.cx_run.proofs.Always.{Anything, TurnOf}
use Rattle.cx_run.proofs.IncomingWalk.{IsAhead}
use Rattle.cx_run.proofs.Outcomes.{IsNoTicket}
use Rattle.cx_run.proofs.Taking.{EachRow, HasBytes, each-row, banner-has, plain-has, secure-has}

-- ---- what is told of a row

-- with which cookie a session is open behind a stage: that of the stage
abbrev pub OpensWith : CallStage → ℕ → Type 0
OpensWith (AwaitsIdent s callee cookie) own = cookie ≡ own
OpensWith (AwaitsReconnect s callee cookie) own = cookie ≡ own
OpensWith (Open s callee cookie) own = cookie ≡ own
OpensWith _ own = ⊥

-- how a link goes on from a stage, and what is logged there
pub data CallGoes (a : CallArrival) : CallStage → CallStage → List SealEntry → Type 0 where
  ToHello : (called : Called) → CallGoes a (AwaitsBanner called) (AwaitsHello called) []
  ToChallenge : (called : Called) (p : Presented) → p ≡ presented called a.own.mon_client (challenge_of a.draw)
      → CallGoes a (AwaitsHello called) (AwaitsChallenge called.callee p)
      (Drawn (draw.Nonce p.nonce) ∷ session_sealed p.held.session (authorize_content p.nonce None) ∷ [])
  ToDone : (callee : Callee) (p : Presented) (opened : List SealEntry) (asked : AuthorizeChallenge)
      → CallGoes a (AwaitsChallenge callee p) (AwaitsDone callee (record { session = p.held.session; nonce = p.nonce }))
      (opened ++ session_sealed p.held.session (authorize_content p.nonce (Some asked.challenge)) ∷ [])
  ToSignature : (callee : Callee) (answered : Answered) (s : Secured) (seals : List SealEntry)
      → CallGoes a (AwaitsDone callee answered) (AwaitsSignature s callee) seals
  ToIdent : (before : CallStage) (s : Secured) (first more : List SealEntry)
      → CallGoes a before (AwaitsIdent s (callee_of before) (cookie_of a.draw)) ((first ++ Drawn (draw.Cookie (cookie_of a.draw)) ∷ []) ++ more)
  ToReconnect : (before : CallStage) (s : Secured) (session : HeldSession) (seals : List SealEntry) → a.own.session ≡ Some session
      → CallGoes a before (AwaitsReconnect s (callee_of before) session.client_cookie) seals
  ToOpen : (before : CallStage) (s : Secured) (cookie : ℕ) (seals : List SealEntry) → OpensWith before cookie
      → CallGoes a before (Open s (callee_of before) cookie) seals

-- what becomes of the session with that daemon
pub data CallHolds : CallStage → Option HeldSession → Option HeldSession → Type 0 where
  Forgets : (before : CallStage) (was : Option HeldSession) → CallHolds before was None
  Counts : (before : CallStage) (session : HeldSession) (count : ℕ) → CallHolds before (Some session) (Some (record session { connect_seq = count }))
  Stays : (before : CallStage) (session : HeldSession) → CallHolds before (Some session) (Some session)
  Took : (before : CallStage) (session : HeldSession) (seq : ℕ) → CallHolds before (Some session) (Some (acknowledged_up_to seq session))
  Opens : (s : Secured) (callee : Callee) (cookie server : ℕ) (was : Option HeldSession)
      → CallHolds (AwaitsIdent s callee cookie) was (Some (new_session callee cookie server))

-- what a row enters beside why its link is refused
pub data CallEnters (a : CallArrival) : CallStage → Entry → Type 0 where
  EntersReset : (before : CallStage) → CallEnters a before (refused_entry a.me a.link.number reason.Reset)
  EntersAnswer : (s : Secured) (callee : Callee) (cookie : ℕ) (end : OperationEnd)
      → CallEnters a (Open s callee cookie) (answered_entry a.own.mon_client callee cookie end)

-- what closes a property of the rows from a stage
pub record ClosesCall (before : CallStage) (P : CallArrival → CallRow → Type 0) : Type 0 where
  pub shut : (a : CallArrival) (why : Reason) (seals : List SealEntry) → IsNoTicket why → P a (refuses a why seals)
  pub went : (a : CallArrival) (next : CallStage) (bytes : List ℕ) (seals : List SealEntry) → CallGoes a before next seals → P a (goes_on a next bytes seals)
  pub held : (a : CallArrival) (session : Option HeldSession) (row : CallRow) → CallHolds before a.own.session session → P (holding_session a session) row → P a row
  pub counted : (a : CallArrival) (global : ℕ) (row : CallRow) → P (counting a global) row → P a row
  pub wrote : (a : CallArrival) (e : Entry) (row : CallRow) → CallEnters a before e → P a row → P a (entered_before e row)
  pub opened : (a : CallArrival) (parts : List SealEntry) (row : CallRow) → P a row → P a (with_opened parts row)

-- ---- rows of any stage

module _ (P : CallArrival → CallRow → Type 0) (before : CallStage) (c : ClosesCall before P) where
  bad_method-so : (a : CallArrival) (read : Result (ℕ × (ℕ × (List ℕ × List ℕ))) BytesFault) → P a (on_bad_method a read)
  bad_method-so a (Err why) = c.shut a (reason.Bytes why) [] tt
  bad_method-so a (Ok fields) = c.shut a (reason.Denied (kept_method fields).result) [] tt

  -- a secure frame, or some in one piece
  secure-so : (a : CallArrival) (s : Secured) (stage : Secured → CallStage) (seals : List SealEntry)
      → ((behind : Secured) (more : List SealEntry) → CallGoes a before (stage behind) (seals ++ more)) → (r : Result SealedFrame BytesFault)
      → P a (secure_sent a s stage seals r)
  secure-so a s stage seals goes (Ok sealed) =
      c.went a (stage (record s { keys = sealed.keys })) sealed.bytes (seals ++ sealed.seals) (goes (record s { keys = sealed.keys }) sealed.seals)
  secure-so a s stage seals goes (Err why) = c.shut a (reason.Bytes why) seals tt

  module _ (s : Secured) where
    identifies-so : (a : CallArrival) (first : List SealEntry) → P a (identifies a s (callee_of before) first)
    identifies-so a first =
        secure-so a s (λ behind. AwaitsIdent behind (callee_of before) (cookie_of a.draw)) (first ++ Drawn (draw.Cookie (cookie_of a.draw)) ∷ [])
        (λ behind more. ToIdent before behind first more) _

    resets-so : (a : CallArrival) (first : List SealEntry) → P a (resets a s (callee_of before) first)
    resets-so a first =
        c.wrote a _ _ (EntersReset before) (c.held a None _ (Forgets before a.own.session) (identifies-so (holding_session a None) first))

    reconnects-so : (a : CallArrival) (first : List SealEntry) (session : HeldSession) → CallHolds before a.own.session (Some session)
        → P a (reconnects a s (callee_of before) first session)
    reconnects-so a first session holds =
        c.held a (Some session) _ holds
        (secure-so (holding_session a (Some session)) s (λ behind. AwaitsReconnect behind (callee_of before) session.client_cookie) first
        (λ behind more. ToReconnect before behind session (first ++ more) refl) _)

    takes_up-so : (a : CallArrival) (first : List SealEntry) (session : HeldSession) → a.own.session ≡ Some session
        → P a (takes_up a s (callee_of before) first session)
    takes_up-so a first session is = by_test (session.connect_seq == 2 ^ 64 - 1)
      where
        by_test : (last : Bool) → P a (if last then resets a s (callee_of before) first
            else reconnects a s (callee_of before) first (record session { connect_seq = session.connect_seq + 1 }))
        by_test true = resets-so a first
        by_test false =
            reconnects-so a first (record session { connect_seq = session.connect_seq + 1 })
            (subst (λ (o : Option HeldSession). CallHolds before o (Some (record session { connect_seq = session.connect_seq + 1 }))) (sym is)
            (Counts before session (session.connect_seq + 1)))

    retries-so : (a : CallArrival) (kept : ℕ) (found : Option HeldSession) → a.own.session ≡ found → P a (retries a s (callee_of before) kept found)
    retries-so a kept None is = resets-so a []
    retries-so a kept (Some session) is = by_test (kept == 2 ^ 64 - 1)
      where
        by_test : (last : Bool) → P a (if last then resets a s (callee_of before) []
            else reconnects a s (callee_of before) [] (record session { connect_seq = kept + 1 }))
        by_test true = resets-so a []
        by_test false =
            reconnects-so a [] (record session { connect_seq = kept + 1 })
            (subst (λ (o : Option HeldSession). CallHolds before o (Some (record session { connect_seq = kept + 1 }))) (sym is) (Counts before session (kept + 1)))

    retries_global-so : (a : CallArrival) (kept : ℕ) (found : Option HeldSession) → a.own.session ≡ found
        → P a (retries_global a s (callee_of before) kept found)
    retries_global-so a kept None is = resets-so a []
    retries_global-so a kept (Some session) is = by_test (kept == 2 ^ 64 - 1)
      where
        by_test : (last : Bool) → P a (if last then resets a s (callee_of before) []
            else reconnects (counting a (kept + 1)) s (callee_of before) [] session)
        by_test true = resets-so a []
        by_test false =
            c.counted a (kept + 1) _ (reconnects-so (counting a (kept + 1)) [] session
            (subst (λ (o : Option HeldSession). CallHolds before o (Some session)) (sym is) (Stays before session)))

-- ---- before the keys of a link are known

module _ (P : CallArrival → CallRow → Type 0) where
  module _ (a : CallArrival) (called : Called) where
    banner-so : ClosesCall (AwaitsBanner called) P → P a (on_banner a called)
    banner-so c = by_sent (plain_frame (own_hello a.own.mon_client.name.kind))
      where
        by_sent : (r : Result (List ℕ) BytesFault) → P a (plain_sent a (AwaitsHello called) [] r)
        by_sent (Ok bytes) = c.went a (AwaitsHello called) bytes [] (ToHello called)
        by_sent (Err why) = c.shut a (reason.Bytes why) [] tt

    hello-so : ClosesCall (AwaitsHello called) P → (read : Result Hello BytesFault) → P a (on_hello a called read)
    hello-so c (Err why) = c.shut a (reason.Bytes why) [] tt
    hello-so c (Ok hello) = by_sent (plain_frame (first_frame a.own.mon_client (presented called a.own.mon_client (challenge_of a.draw))))
      where
        p : Presented
        p = presented called a.own.mon_client (challenge_of a.draw)

        by_sent : (r : Result (List ℕ) BytesFault) → let p = presented called a.own.mon_client (challenge_of a.draw) in
            P a (unless_refused a (Drawn (draw.Nonce p.nonce) ∷ []) r (λ bytes. goes_on a (AwaitsChallenge called.callee p) bytes
            (Drawn (draw.Nonce p.nonce) ∷ session_sealed p.held.session (authorize_content p.nonce None) ∷ [])))
        by_sent (Ok bytes) = c.went a _ bytes _ (ToChallenge called _ refl)
        by_sent (Err why) = c.shut a (reason.Bytes why) _ tt

  module _ (a : CallArrival) (callee : Callee) (p : Presented) (c : ClosesCall (AwaitsChallenge callee p) P) where
    answers-so : (opened : List SealEntry) (value : Option AuthorizeChallenge) → P a (answers_challenge a callee p opened value)
    answers-so opened None = c.shut a (reason.Login Unopened) opened tt
    answers-so opened (Some asked) = by_sent (plain_frame (second_frame p asked.challenge))
      where
        by_sent : (r : Result (List ℕ) BytesFault) → P a (unless_refused a opened r
            (λ bytes. goes_on a (AwaitsDone callee (record { session = p.held.session; nonce = p.nonce })) bytes
            (opened ++ session_sealed p.held.session (authorize_content p.nonce (Some asked.challenge)) ∷ [])))
        by_sent (Ok bytes) = c.went a _ bytes _ (ToDone callee p opened asked)
        by_sent (Err why) = c.shut a (reason.Bytes why) opened tt

    shown-so : (read : Result shown_challenge.AuthorizeChallenge BytesFault) → P a (on_challenge a callee p read)
    shown-so (Err why) = c.shut a (reason.Bytes why) [] tt
    shown-so (Ok shown) = let unlocked = challenge_in p.held.session shown.sealed in answers-so unlocked.seals unlocked.value

    more-so : (read : Result AuthReplyMore BytesFault) → P a (on_reply_more a callee p read)
    more-so (Err why) = c.shut a (reason.Bytes why) [] tt
    more-so (Ok more) = shown-so (whole authorize_challenge_layout.form more.payload)

    challenged-so : (f : Frame) → P a (while_challenged a callee p f)
    challenged-so f = by_test (f.tag == 3)
      where
        by_test : (denied : Bool) → P a (if denied then on_bad_method a (payload bad_method_layout.form f)
            else on_reply_more a callee p (due 4 auth_reply_more_layout.form f))
        by_test true = bad_method-so P (AwaitsChallenge callee p) c a (payload bad_method_layout.form f)
        by_test false = more-so (due 4 auth_reply_more_layout.form f)

  module _ (a : CallArrival) (callee : Callee) (answered : Answered) (c : ClosesCall (AwaitsDone callee answered) P) where
    signs-so : (opened : List SealEntry) (made : Result SealedFrame BytesFault) → P a (signs a callee answered opened made)
    signs-so opened (Err why) = c.shut a (reason.Bytes why) opened tt
    signs-so opened (Ok sealed) = c.went a _ sealed.bytes _ (ToSignature callee answered _ _)

    unlocked-so : (opened : List SealEntry) (value : Option AuthorizeReply) → P a (on_unlocked a callee answered opened value)
    unlocked-so opened None = c.shut a (reason.Login Unopened) opened tt
    unlocked-so opened (Some reply) = by_test (reply.nonce_plus_one == raised answered.nonce)
      where
        by_test : (same : Bool) → P a (if same
            then signs a callee answered opened (signed_frame (connector_keys reply.secret) answered.session (take a.link.taken a.link.received))
            else refuses a (reason.Login (NonceWrong (raised answered.nonce) reply.nonce_plus_one)) opened)
        by_test true = signs-so opened (signed_frame (connector_keys reply.secret) answered.session (take a.link.taken a.link.received))
        by_test false = c.shut a (reason.Login (NonceWrong (raised answered.nonce) reply.nonce_plus_one)) opened tt

    reply-so : (read : Result shown_reply.AuthorizeReply BytesFault) → P a (on_authorize_reply a callee answered read)
    reply-so (Err why) = c.shut a (reason.Bytes why) [] tt
    reply-so (Ok shown) = let unlocked = reply_in answered.session shown.sealed in unlocked-so unlocked.seals unlocked.value

    done-so : (read : Result AuthDone BytesFault) → P a (on_done a callee answered read)
    done-so (Err why) = c.shut a (reason.Bytes why) [] tt
    done-so (Ok done) = by_test (not (done.mode == 2))
      where
        by_test : (other : Bool) → P a (if other then refuses a (reason.Login Mode) []
            else on_authorize_reply a callee answered (whole authorize_reply_layout.form done.payload))
        by_test true = c.shut a (reason.Login Mode) [] tt
        by_test false = reply-so (whole authorize_reply_layout.form done.payload)

    answered-so : (f : Frame) → P a (while_answered a callee answered f)
    answered-so f = by_test (f.tag == 3)
      where
        by_test : (denied : Bool) → P a (if denied then on_bad_method a (payload bad_method_layout.form f)
            else on_done a callee answered (due 6 auth_done_layout.form f))
        by_test true = bad_method-so P (AwaitsDone callee answered) c a (payload bad_method_layout.form f)
        by_test false = done-so (due 6 auth_done_layout.form f)

-- ---- behind the keys

module _ (P : CallArrival → CallRow → Type 0) (a : CallArrival) (s : Secured) (callee : Callee) where
  module _ (t : Secured) (c : ClosesCall (AwaitsSignature t callee) P) where
    signed-so : (found : Option HeldSession) → a.own.session ≡ found → P a (on_signed a s callee found)
    signed-so None is = identifies-so P (AwaitsSignature t callee) c s a (signature_found s ∷ [])
    signed-so (Some session) is = takes_up-so P (AwaitsSignature t callee) c s a (signature_found s ∷ []) session is

    signature-so : (read : Result AuthSignature BytesFault) → P a (on_signature a s callee read)
    signature-so (Err why) = c.shut a (reason.Bytes why) [] tt
    signature-so (Ok found) = by_test (is_signed s found.signature)
      where
        by_test : (right : Bool) → P a (if right then on_signed a s callee a.own.session else refuses a (reason.Login SignatureWrong) [])
        by_test true = signed-so a.own.session refl
        by_test false = c.shut a (reason.Login SignatureWrong) [] tt

  module _ (t : Secured) (cookie : ℕ) (c : ClosesCall (AwaitsIdent t callee cookie) P) where
    ident-so : (read : Result ServerIdent BytesFault) → P a (on_server_ident a s callee cookie read)
    ident-so (Err why) = c.shut a (reason.Bytes why) [] tt
    ident-so (Ok ident) =
        let session : Option HeldSession = Some (new_session callee cookie ident.cookie) in
        c.held a session _ (Opens t callee cookie ident.cookie a.own.session)
        (c.went (holding_session a session) (Open s callee cookie) [] [] (ToOpen (AwaitsIdent t callee cookie) s cookie [] refl))

    missing-so : (read : Result IdentMissingFeatures BytesFault) → P a (on_missing_features a read)
    missing-so (Err why) = c.shut a (reason.Bytes why) [] tt
    missing-so (Ok missing) = c.shut a (reason.Bytes (Features missing.features)) [] tt

    identified-so : (f : Frame) → P a (while_identified a s callee cookie f)
    identified-so f = by_test (f.tag == 10)
      where
        by_test : (lacks : Bool) → P a (if lacks then on_missing_features a (payload ident_missing_features_layout.form f)
            else on_server_ident a s callee cookie (due 9 server_ident_layout.form f))
        by_test true = missing-so (payload ident_missing_features_layout.form f)
        by_test false = ident-so (due 9 server_ident_layout.form f)

  module _ (t : Secured) (cookie : ℕ) (c : ClosesCall (AwaitsReconnect t callee cookie) P) where
    abbrev again : CallStage
    again = AwaitsReconnect t callee cookie

    taken_up-so : (last : ℕ) (found : Option HeldSession) → a.own.session ≡ found → P a (taken_up a s callee cookie last found)
    taken_up-so last None is = c.went a (Open s callee cookie) [] [] (ToOpen again s cookie [] refl)
    taken_up-so last (Some session) is =
        let now : Option HeldSession = Some (acknowledged_up_to last session) in
        c.held a now _ (subst (λ (o : Option HeldSession). CallHolds again o (Some (acknowledged_up_to last session))) (sym is) (Took again session last))
        (secure-so P again c (holding_session a now) s (λ behind. Open behind callee cookie) [] (λ behind more. ToOpen again behind cookie more refl) _)

    ok-so : (read : Result SessionReconnectOk BytesFault) → P a (on_reconnect_ok a s callee cookie read)
    ok-so (Err why) = c.shut a (reason.Bytes why) [] tt
    ok-so (Ok ok) = taken_up-so ok.seq a.own.session refl

    reset-so : (read : Result SessionReset BytesFault) → P a (on_reset a s callee read)
    reset-so (Err why) = c.shut a (reason.Bytes why) [] tt
    reset-so (Ok reset) = resets-so P again c s a []

    retry-so : (read : Result SessionRetry BytesFault) → P a (on_retry a s callee read)
    retry-so (Err why) = c.shut a (reason.Bytes why) [] tt
    retry-so (Ok retry) = retries-so P again c s a retry.connect_seq a.own.session refl

    retry_global-so : (read : Result SessionRetryGlobal BytesFault) → P a (on_retry_global a s callee read)
    retry_global-so (Err why) = c.shut a (reason.Bytes why) [] tt
    retry_global-so (Ok retry) = retries_global-so P again c s a retry.global_seq a.own.session refl

    reconnecting-so : (f : Frame) → P a (while_reconnecting a s callee cookie f)
    reconnecting-so f = by_tests (f.tag == 15) (f.tag == 12) (f.tag == 13) (f.tag == 14)
      where
        by_tests : (ok reset retry global : Bool) → P a
            (if ok then on_reconnect_ok a s callee cookie (payload session_reconnect_ok_layout.form f)
            else if reset then on_reset a s callee (payload session_reset_layout.form f)
            else if retry then on_retry a s callee (payload session_retry_layout.form f)
            else if global then on_retry_global a s callee (payload session_retry_global_layout.form f)
            else refuses_bytes a (Unexpected f.tag) [])
        by_tests true reset retry global = ok-so (payload session_reconnect_ok_layout.form f)
        by_tests false true retry global = reset-so (payload session_reset_layout.form f)
        by_tests false false true global = retry-so (payload session_retry_layout.form f)
        by_tests false false false true = retry_global-so (payload session_retry_global_layout.form f)
        by_tests false false false false = c.shut a (reason.Bytes (Unexpected f.tag)) [] tt

  module _ (t : Secured) (cookie : ℕ) (c : ClosesCall (Open t callee cookie) P) where
    abbrev at_open : CallStage
    at_open = Open t callee cookie

    stays-so : P a (goes_on a (Open s callee cookie) [] [])
    stays-so = c.went a (Open s callee cookie) [] [] (ToOpen at_open s cookie [] refl)

    answer-so : (read : Result OperationEnd BytesFault) → P a (on_answer a s callee cookie read)
    answer-so (Err why) = c.shut a (reason.Bytes why) [] tt
    answer-so (Ok end) = c.wrote a _ _ (EntersAnswer t callee cookie end) stays-so

    acknowledges-so : (seq : ℕ) (found : Option HeldSession) → a.own.session ≡ found → P a (acknowledges a s callee cookie seq found)
    acknowledges-so seq None is = stays-so
    acknowledges-so seq (Some session) is =
        let now : Option HeldSession = Some (acknowledged_up_to seq session) in
        c.held a now _ (subst (λ (o : Option HeldSession). CallHolds at_open o (Some (acknowledged_up_to seq session))) (sym is) (Took at_open session seq))
        (c.went (holding_session a now) (Open s callee cookie) [] [] (ToOpen at_open s cookie [] refl))

    ack-so : (read : Result Ack BytesFault) → P a (on_ack a s callee cookie read)
    ack-so (Err why) = c.shut a (reason.Bytes why) [] tt
    ack-so (Ok ack) = acknowledges-so ack.seq a.own.session refl

    answer_or_ack-so : (f : Frame) → P a (on_answer_or_ack a s callee cookie f)
    answer_or_ack-so f = by_test (f.tag == 20)
      where
        by_test : (ack : Bool) → P a (if ack then on_ack a s callee cookie (payload ack_layout.form f) else on_answer a s callee cookie (end_in (message_in f)))
        by_test true = ack-so (payload ack_layout.form f)
        by_test false = answer-so (end_in (message_in f))

    keepalive-so : (read : Result Keepalive2 BytesFault) → P a (on_keepalive a s (λ behind. Open behind callee cookie) read)
    keepalive-so (Err why) = c.shut a (reason.Bytes why) [] tt
    keepalive-so (Ok keepalive) =
        secure-so P at_open c a s (λ behind. Open behind callee cookie) [] (λ behind more. ToOpen at_open behind cookie more refl) _

    keepalive_ack-so : (read : Result Keepalive2Ack BytesFault) → P a (on_keepalive_ack a s (λ behind. Open behind callee cookie) read)
    keepalive_ack-so (Err why) = c.shut a (reason.Bytes why) [] tt
    keepalive_ack-so (Ok ack) = stays-so

    open-so : (f : Frame) → P a (on_upkeep_or (on_answer_or_ack a s callee cookie) a s (λ behind. Open behind callee cookie) f)
    open-so f = by_tests (f.tag == 18) (f.tag == 19)
      where
        by_tests : (ask ack : Bool) → P a
            (if ask then on_keepalive a s (λ behind. Open behind callee cookie) (payload keepalive2_layout.form f)
            else if ack then on_keepalive_ack a s (λ behind. Open behind callee cookie) (payload keepalive2_ack_layout.form f)
            else on_answer_or_ack a s callee cookie f)
        by_tests true ack = keepalive-so (payload keepalive2_layout.form f)
        by_tests false true = keepalive_ack-so (payload keepalive2_ack_layout.form f)
        by_tests false false = answer_or_ack-so f

-- ---- a turn

module _ (P : CallArrival → CallRow → Type 0) (a : CallArrival) (Q : CallRow → Type 0)
    (took : (n : ℕ) → IsAhead a.link n → (row : CallRow) → P (at a (taking a.link n)) row → Q row) where
  by_banner : (row : CallArrival → CallRow) → ((b : CallArrival) → P b (row b)) → (r : Result (Option (Banner × ℕ)) BannerRefusal) → HasBytes r
      → Fits (length (ahead_of a.link)) r → TurnOf Anything Q (turned_by (λ link _. row (at a link)) (banner_read a.link r))
  by_banner row each (Ok None) some le = tt
  by_banner row each (Ok (Some (b, n))) some le = took n (record { some = some; within = le }) _ (each (at a (taking a.link n)))
  by_banner row each (Err why) some le = tt

  by_plain : (row : CallArrival → Frame → CallRow) → ((b : CallArrival) (f : Frame) → P b (row b f)) → (r : Result (Option (Frame × ℕ)) FrameRefusal) → HasBytes r
      → Fits (length (ahead_of a.link)) r → TurnOf Anything Q (turned_by (λ (link, f) _. row (at a link) f) (plain_read a.link r))
  by_plain row each (Ok None) some le = tt
  by_plain row each (Ok (Some (f, n))) some le = took n (record { some = some; within = le }) _ (each (at a (taking a.link n)) f)
  by_plain row each (Err why) some le = tt

  by_secure : (stage : CallStage) → ClosesCall stage P → (row : CallArrival → Keys → Frame → CallRow) → ((b : CallArrival) (k : Keys) (f : Frame) → P b (row b k f))
      → (keys : Keys) (parts : List SealEntry) (r : Result (Option (Frame × ℕ)) SecureRefusal) → HasBytes r → Fits (length (ahead_of a.link)) r
      → TurnOf Anything Q (turned_by (λ (link, f, k) opened. with_opened opened (row (at a link) k f)) (secure_read keys a.link parts r))
  by_secure stage c row each keys parts (Ok None) some le = tt
  by_secure stage c row each keys parts (Ok (Some (f, n))) some le =
      took n (record { some = some; within = le }) _ (c.opened (at a (taking a.link n)) parts _ (each (at a (taking a.link n)) (keys_behind keys f) f))
  by_secure stage c row each keys parts (Err why) some le = tt

  plainly : (row : CallArrival → Frame → CallRow) → ((b : CallArrival) (f : Frame) → P b (row b f))
      → TurnOf Anything Q (turned_by (λ (link, f) _. row (at a link) f) (plain_next a.link))
  plainly row each = by_plain row each (plain_frame_at (ahead_of a.link)) (plain-has (ahead_of a.link)) (plain-fits (ahead_of a.link))

  securely : (stage : CallStage) → ClosesCall stage P → (keys : Keys) (row : CallArrival → Keys → Frame → CallRow) → ((b : CallArrival) (k : Keys) (f : Frame) → P b (row b k f))
      → TurnOf Anything Q (turned_by (λ (link, f, k) opened. with_opened opened (row (at a link) k f)) (secure_next keys a.link))
  securely stage c keys row each =
      by_secure stage c row each keys (opened_parts (sealed_ahead keys a.link)) (secure_frame_at (sealed_ahead keys a.link)) (secure-has (sealed_ahead keys a.link))
      (secure-fits (sealed_ahead keys a.link))

  rows : (stage : CallStage) → ClosesCall stage P → TurnOf Anything Q (turned_at a stage)
  rows (AwaitsBanner called) c =
      by_banner (λ b. on_banner b called) (λ b. banner-so P b called c) (banner_at (ahead_of a.link)) (banner-has (ahead_of a.link)) (banner-fits (ahead_of a.link))
  rows (AwaitsHello called) c =
      plainly (λ b f. on_hello b called (due 1 hello_layout.form f)) (λ b f. hello-so P b called c (due 1 hello_layout.form f))
  rows (AwaitsChallenge callee p) c = plainly (λ b f. while_challenged b callee p f) (λ b f. challenged-so P b callee p c f)
  rows (AwaitsDone callee answered) c = plainly (λ b f. while_answered b callee answered f) (λ b f. answered-so P b callee answered c f)
  rows (AwaitsSignature s callee) c =
      securely (AwaitsSignature s callee) c s.keys (λ b k f. on_signature b (under s k) callee (due 7 auth_signature_layout.form f))
      (λ b k f. signature-so P b (under s k) callee s c (due 7 auth_signature_layout.form f))
  rows (AwaitsIdent s callee cookie) c =
      securely (AwaitsIdent s callee cookie) c s.keys (λ b k f. while_identified b (under s k) callee cookie f)
      (λ b k f. identified-so P b (under s k) callee s cookie c f)
  rows (AwaitsReconnect s callee cookie) c =
      securely (AwaitsReconnect s callee cookie) c s.keys (λ b k f. while_reconnecting b (under s k) callee cookie f)
      (λ b k f. reconnecting-so P b (under s k) callee s cookie c f)
  rows (Open s callee cookie) c =
      securely (Open s callee cookie) c s.keys
      (λ b k f. on_upkeep_or (on_answer_or_ack b (under s k) callee cookie) b (under s k) (λ behind. Open behind callee cookie) f)
      (λ b k f. open-so P b (under s k) callee s cookie c f)

  -- behind what was taken it is another one
  pub call-rows : (stage : CallStage) → ClosesCall stage P → EachRow Q (turned_at a stage)
  call-rows stage c = each-row Q (turned_at a stage) (rows stage c)
