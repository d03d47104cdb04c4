-- What may be forgotten of a client's link to a daemon, and its rows.
use Rattle.std.proofs.Common.{◌≡◌, ℕ, ◌==◌, ◌+◌, ◌-◌, ◌^◌, ◌++◌, Bool, true, false, List, [], ◌∷◌, take, Option, Some, None, Result, Ok, Err, refl}
use Rattle.std.specs.Prelude.{not, if◌then◌else◌}
use Rattle.cx_authorize.specs.Client.{Answered, Presented, challenge_in, reply_in}
use Rattle.cx_authorize.specs.Verdict.{raised}
use Rattle.cx_authorize.specs.cx_control.specs.Auth.{auth_done_layout, auth_reply_more_layout, auth_signature_layout}
use Rattle.cx_authorize.specs.cx_control.specs.BadMethod.{bad_method_layout}
use Rattle.cx_authorize.specs.cx_control.specs.Hello.{hello_layout}
use Rattle.cx_authorize.specs.cx_control.specs.Idents.{ident_missing_features_layout, server_ident_layout}
use Rattle.cx_authorize.specs.cx_control.specs.Reconnects.{session_reconnect_ok_layout, session_reset_layout, session_retry_layout, session_retry_global_layout}
use Rattle.cx_authorize.specs.cx_control.specs.Upkeep.{ack_layout}
use Rattle.cx_authorize.specs.cx_control.specs.declared.auth.AuthDone.{AuthDone}
use Rattle.cx_authorize.specs.cx_control.specs.declared.auth.AuthReplyMore.{AuthReplyMore}
use Rattle.cx_authorize.specs.cx_control.specs.declared.auth.AuthSignature.{AuthSignature}
use Rattle.cx_authorize.specs.cx_control.specs.declared.hello.Hello.{Hello}
use Rattle.cx_authorize.specs.cx_control.specs.declared.idents.IdentMissingFeatures.{IdentMissingFeatures}
use Rattle.cx_authorize.specs.cx_control.specs.declared.idents.ServerIdent.{ServerIdent}
use Rattle.cx_authorize.specs.cx_control.specs.declared.reconnects.SessionReconnectOk.{SessionReconnectOk}
use Rattle.cx_authorize.specs.cx_control.specs.declared.reconnects.SessionReset.{SessionReset}
use Rattle.cx_authorize.specs.cx_control.specs.declared.reconnects.SessionRetry.{SessionRetry}
use Rattle.cx_authorize.specs.cx_control.specs.declared.reconnects.SessionRetryGlobal.{SessionRetryGlobal}
use Rattle.cx_authorize.specs.cx_control.specs.declared.upkeep.Ack.{Ack}
use Rattle.cx_rules.specs.cx_dice.specs.Draws.{challenge_of, cookie_of}
use Rattle.cx_rules.specs.cx_frame.specs.declared.frame.Frame.{Frame}
use Rattle.cx_authorize.specs.cx_journal.specs.declared.faults.BytesFault.{BytesFault}
use Rattle.cx_authorize.specs.cx_journal.specs.declared.faults.BytesFault.TheVariants.{Features, Unexpected}
use Rattle.cx_authorize.specs.cx_journal.specs.declared.faults.LoginFault.TheVariants.{Mode, NonceWrong, SignatureWrong}
use Rattle.cx_authorize.specs.cx_journal.specs.declared.outcomes.Reason.TheVariants as reason
use Rattle.cx_authorize.specs.cx_sealed.specs.declared.authorize_challenge.AuthorizeChallenge.{AuthorizeChallenge}
use Rattle.cx_authorize.specs.cx_sealed.specs.declared.authorize_reply.AuthorizeReply.{AuthorizeReply}
use Rattle.cx_rules.specs.cx_steps.specs.declared.seals.DrawMark.TheVariants as draw
use Rattle.cx_rules.specs.cx_steps.specs.declared.seals.SealEntry.{SealEntry}
use Rattle.cx_rules.specs.cx_steps.specs.declared.seals.SealEntry.TheVariants.{Drawn}
use Rattle.cx_authorize.specs.cx_wire.specs.Logins.{authorize_challenge_layout, authorize_reply_layout}
use Rattle.cx_authorize.specs.cx_wire.specs.declared.authorizers.AuthorizeChallenge as shown_challenge
use Rattle.cx_authorize.specs.cx_wire.specs.declared.authorizers.AuthorizeReply as shown_reply
use Rattle.cx_rules.specs.Abridged.{IsWithin, cut, unsigned}
use Rattle.cx_rules.specs.Connector.{client_ident}
use Rattle.cx_rules.specs.Greetings.{own_hello}
use Rattle.cx_rules.specs.Links.{Link}
use Rattle.cx_rules.specs.Messages.{message_in, on_upkeep_or, secure_frames}
use Rattle.cx_rules.specs.Payloads.{due, payload, whole}
use Rattle.cx_rules.specs.Rows.{at, goes_on, refuses, refuses_bytes, sends_secure}
use Rattle.cx_rules.specs.Secured.{Keys, SealedFrame, Secured, connector_keys, is_signed, plain_frame, secure_frame, signature_found, signed_frame, under}
use Rattle.cx_rules.proofs.Abridging.{Alike, Forgets}
use Rattle.cx_rules.proofs.AlikeRows.{RowWithin, SameAhead, SameTurn, banner-turn, cut-fed, goes-alike, plain-turn, plain_sent-within, refuses-alike, same-turn, secure-alike, secure-turn, upkeep-alike}
use Rattle.cx_rules_session.specs.Envelopes.{authorize_content, session_sealed}
use Rattle.cx_rules_session.specs.Forgets.{abridged_call_at, abridged_call_link}
use Rattle.cx_rules_session.specs.Lossy.{lossy_flags}
use Rattle.cx_rules_session.specs.Presenter.{CallArrival, CallRow, CallStage, AwaitsBanner, AwaitsHello, AwaitsChallenge, AwaitsDone, AwaitsSignature, AwaitsIdent, AwaitsReconnect, Open, OperationEnd, acknowledges, agrees, answered_entry, answers_challenge, callee_of, counting, end_in, first_frame, goes_on_in, identifies, holding_session, on_ack, on_answer, on_answer_or_ack, on_authorize_reply, on_bad_method, on_banner, on_challenge, on_done, on_hello, on_missing_features, on_reconnect_ok, on_reply_more, on_reset, on_retry, on_retry_global, on_server_ident, on_signature, on_signed, on_unlocked, presented, presents, reconnects, resets, retries, retries_global, second_frame, signs, taken_up, takes_up, turned_at, while_answered, while_challenged, while_identified, while_reconnecting}
use Rattle.cx_rules_session.specs.Sessions.{Called, Callee, HeldSession, acknowledged_up_to, held_gid, new_session, session_reconnect, waiting_messages}
use Rattle.cx_rules_session.proofs.IncomingForgets.{holding-within}
use Rattle.cx_rules_session.proofs.KindsAlike.{entered-before-alike, refused-before-alike}

-- ---- a link

number-of : (l : Link CallStage) (stage : CallStage) → (abridged_call_at l stage).number ≡ l.number
number-of l (AwaitsBanner called) = refl
number-of l (AwaitsHello called) = refl
number-of l (AwaitsChallenge callee p) = refl
number-of l (AwaitsDone callee answered) = refl
number-of l (AwaitsSignature s callee) = refl
number-of l (AwaitsIdent s callee cookie) = refl
number-of l (AwaitsReconnect s callee cookie) = refl
number-of l (Open s callee cookie) = refl

twice-of : (l : Link CallStage) (stage : CallStage)
    → (let k : Link CallStage = record l { stage = stage } in abridged_call_link (abridged_call_link k)) ≡ abridged_call_link (record l { stage = stage })
twice-of l (AwaitsBanner called) = refl
twice-of l (AwaitsHello called) = refl
twice-of l (AwaitsChallenge callee p) = refl
twice-of l (AwaitsDone callee answered) = refl
twice-of l (AwaitsSignature s callee) = refl
twice-of l (AwaitsIdent s callee cookie) = refl
twice-of l (AwaitsReconnect s callee cookie) = refl
twice-of l (Open s callee cookie) = refl

sends-of : (l : Link CallStage) (stage : CallStage) (bytes : List ℕ)
    → (let k : Link CallStage = abridged_call_link (record l { stage = stage }) in abridged_call_link (record k { sent = k.sent ++ bytes }))
    ≡ abridged_call_link (record l { sent = l.sent ++ bytes; stage = stage })
sends-of l (AwaitsBanner called) bytes = refl
sends-of l (AwaitsHello called) bytes = refl
sends-of l (AwaitsChallenge callee p) bytes = refl
sends-of l (AwaitsDone callee answered) bytes = refl
sends-of l (AwaitsSignature s callee) bytes = refl
sends-of l (AwaitsIdent s callee cookie) bytes = refl
sends-of l (AwaitsReconnect s callee cookie) bytes = refl
sends-of l (Open s callee cookie) bytes = refl

comes-of : (l : Link CallStage) (stage : CallStage) (bytes : List ℕ) → IsWithin l
    → (let k : Link CallStage = abridged_call_link (record l { stage = stage }) in abridged_call_link (record k { received = k.received ++ bytes }))
    ≡ abridged_call_link (record l { received = l.received ++ bytes; stage = stage })
comes-of l (AwaitsBanner called) bytes w = refl
comes-of l (AwaitsHello called) bytes w = refl
comes-of l (AwaitsChallenge callee p) bytes w = refl
comes-of l (AwaitsDone callee answered) bytes w = refl
comes-of l (AwaitsSignature s callee) bytes w = cut-fed l (AwaitsSignature s callee) bytes w
comes-of l (AwaitsIdent s callee cookie) bytes w = cut-fed l (AwaitsIdent (unsigned s) callee cookie) bytes w
comes-of l (AwaitsReconnect s callee cookie) bytes w = cut-fed l (AwaitsReconnect (unsigned s) callee cookie) bytes w
comes-of l (Open s callee cookie) bytes w = cut-fed l (Open (unsigned s) callee cookie) bytes w

pub call-forgets : Forgets abridged_call_link
call-forgets = record {
  number = λ l. number-of l l.stage;
  twice = λ l. twice-of l l.stage;
  sends = λ l bytes. sends-of l l.stage bytes;
  comes = λ l bytes w. comes-of l l.stage bytes w;
}

pub callee-same : (l : Link CallStage) (stage : CallStage) → (let k : Link CallStage = record l { stage = stage } in callee_of (abridged_call_link k).stage) ≡ callee_of stage
callee-same l (AwaitsBanner called) = refl
callee-same l (AwaitsHello called) = refl
callee-same l (AwaitsChallenge callee p) = refl
callee-same l (AwaitsDone callee answered) = refl
callee-same l (AwaitsSignature s callee) = refl
callee-same l (AwaitsIdent s callee cookie) = refl
callee-same l (AwaitsReconnect s callee cookie) = refl
callee-same l (Open s callee cookie) = refl

-- ---- rows with plain frames: their links are whole

presents-within : (a : CallArrival) (callee : Callee) (p : Presented) → IsWithin a.link → RowWithin (presents a callee p)
presents-within a callee p w =
    holding-within a (AwaitsChallenge callee p) (Drawn (draw.Nonce p.nonce) ∷ []) (session_sealed p.held.session (authorize_content p.nonce None) ∷ []) (first_frame a.own.mon_client p) w

hello-within : (a : CallArrival) (called : Called) (hello : Result Hello BytesFault) → IsWithin a.link → RowWithin (on_hello a called hello)
hello-within a called (Err why) w = tt
hello-within a called (Ok hello) w = presents-within a called.callee (presented called a.own.mon_client (challenge_of a.draw)) w

answers-within : (a : CallArrival) (callee : Callee) (p : Presented) (opened : List SealEntry) (value : Option AuthorizeChallenge) → IsWithin a.link
    → RowWithin (answers_challenge a callee p opened value)
answers-within a callee p opened None w = tt
answers-within a callee p opened (Some asked) w =
    holding-within a (AwaitsDone callee (record { session = p.held.session; nonce = p.nonce })) opened
    (session_sealed p.held.session (authorize_content p.nonce (Some asked.challenge)) ∷ []) (second_frame p asked.challenge) w

challenge-within : (a : CallArrival) (callee : Callee) (p : Presented) (shown : Result shown_challenge.AuthorizeChallenge BytesFault) → IsWithin a.link → RowWithin (on_challenge a callee p shown)
challenge-within a callee p (Err why) w = tt
challenge-within a callee p (Ok shown) w =
    let unlocked = challenge_in p.held.session shown.sealed in answers-within a callee p unlocked.seals unlocked.value w

reply_more-within : (a : CallArrival) (callee : Callee) (p : Presented) (more : Result AuthReplyMore BytesFault) → IsWithin a.link → RowWithin (on_reply_more a callee p more)
reply_more-within a callee p (Err why) w = tt
reply_more-within a callee p (Ok more) w = challenge-within a callee p (whole authorize_challenge_layout.form more.payload) w

bad_method-within : (a : CallArrival) (fields : Result (ℕ × (ℕ × (List ℕ × List ℕ))) BytesFault) → RowWithin (on_bad_method a fields)
bad_method-within a (Err why) = tt
bad_method-within a (Ok fields) = tt

challenged-within : (a : CallArrival) (callee : Callee) (p : Presented) (f : Frame) → IsWithin a.link → RowWithin (while_challenged a callee p f)
challenged-within a callee p f w = by_test (f.tag == 3)
  where
    by_test : (denied : Bool) → RowWithin (if denied then on_bad_method a (payload bad_method_layout.form f) else on_reply_more a callee p (due 4 auth_reply_more_layout.form f))
    by_test true = bad_method-within a (payload bad_method_layout.form f)
    by_test false = reply_more-within a callee p (due 4 auth_reply_more_layout.form f) w

signs-within : (a : CallArrival) (callee : Callee) (answered : Answered) (opened : List SealEntry) (made : Result SealedFrame BytesFault) → IsWithin a.link
    → RowWithin (signs a callee answered opened made)
signs-within a callee answered opened (Err why) w = tt
signs-within a callee answered opened (Ok sealed) w = w

agrees-within : (a : CallArrival) (callee : Callee) (answered : Answered) (opened : List SealEntry) (reply : AuthorizeReply) → IsWithin a.link
    → RowWithin (agrees a callee answered opened reply)
agrees-within a callee answered opened reply w = by_test (reply.nonce_plus_one == raised answered.nonce)
  where
    by_test : (own : Bool) → RowWithin
        (if own then signs a callee answered opened (signed_frame (connector_keys reply.secret) answered.session (take a.link.taken a.link.received))
        else refuses a (reason.Login (NonceWrong (raised answered.nonce) reply.nonce_plus_one)) opened)
    by_test true = signs-within a callee answered opened (signed_frame (connector_keys reply.secret) answered.session (take a.link.taken a.link.received)) w
    by_test false = tt

unlocked-within : (a : CallArrival) (callee : Callee) (answered : Answered) (opened : List SealEntry) (value : Option AuthorizeReply) → IsWithin a.link
    → RowWithin (on_unlocked a callee answered opened value)
unlocked-within a callee answered opened None w = tt
unlocked-within a callee answered opened (Some reply) w = agrees-within a callee answered opened reply w

authorize_reply-within : (a : CallArrival) (callee : Callee) (answered : Answered) (shown : Result shown_reply.AuthorizeReply BytesFault) → IsWithin a.link
    → RowWithin (on_authorize_reply a callee answered shown)
authorize_reply-within a callee answered (Err why) w = tt
authorize_reply-within a callee answered (Ok shown) w =
    let unlocked = reply_in answered.session shown.sealed in unlocked-within a callee answered unlocked.seals unlocked.value w

done-within : (a : CallArrival) (callee : Callee) (answered : Answered) (done : Result AuthDone BytesFault) → IsWithin a.link → RowWithin (on_done a callee answered done)
done-within a callee answered (Err why) w = tt
done-within a callee answered (Ok done) w = by_test (not (done.mode == 2))
  where
    by_test : (other : Bool) → RowWithin
        (if other then refuses a (reason.Login Mode) [] else on_authorize_reply a callee answered (whole authorize_reply_layout.form done.payload))
    by_test true = tt
    by_test false = authorize_reply-within a callee answered (whole authorize_reply_layout.form done.payload) w

answered-within : (a : CallArrival) (callee : Callee) (answered : Answered) (f : Frame) → IsWithin a.link → RowWithin (while_answered a callee answered f)
answered-within a callee answered f w = by_test (f.tag == 3)
  where
    by_test : (denied : Bool) → RowWithin (if denied then on_bad_method a (payload bad_method_layout.form f) else on_done a callee answered (due 6 auth_done_layout.form f))
    by_test true = bad_method-within a (payload bad_method_layout.form f)
    by_test false = done-within a callee answered (due 6 auth_done_layout.form f) w

-- ---- a session is opened, or taken up again

-- with anything that signatures cover
abbrev pub resigned : Secured → List ℕ → List ℕ → Secured
resigned s session covered = record s { session = session; covered = covered }

sent-alike : (a : CallArrival) (l : Link CallStage) (s : Secured) (x y : List ℕ) (stage : Secured → CallStage) (seals : List SealEntry) (f : Frame) → SameAhead l a.link → IsWithin a.link
    → ((z : Secured) (k : Link CallStage) → abridged_call_link (record k { stage = stage z }) ≡ cut k (stage (unsigned z)))
    → Alike abridged_call_link (sends_secure (at a l) (resigned s x y) stage seals f) (sends_secure a s stage seals f)
sent-alike a l s x y stage seals f e w cuts = secure-alike abridged_call_link a l (resigned s x y) s stage seals (secure_frame s.keys f) e w cuts

identifies-alike : (a : CallArrival) (l : Link CallStage) (s : Secured) (x y : List ℕ) (callee : Callee) (before : List SealEntry) → SameAhead l a.link → IsWithin a.link
    → Alike abridged_call_link (identifies (at a l) (resigned s x y) callee before) (identifies a s callee before)
identifies-alike a l s x y callee before e w =
    let cookie : ℕ = cookie_of a.draw in
    sent-alike a l s x y (λ behind. AwaitsIdent behind callee cookie) (before ++ Drawn (draw.Cookie cookie) ∷ [])
    (client_ident a.own.mon_client (held_gid a.own.mon_client.holdings) (lossy_flags callee.lossy) cookie) e w (λ z k. refl)

resets-alike : (a : CallArrival) (l : Link CallStage) (s : Secured) (x y : List ℕ) (callee : Callee) (before : List SealEntry) → SameAhead l a.link → IsWithin a.link
    → Alike abridged_call_link (resets (at a l) (resigned s x y) callee before) (resets a s callee before)
resets-alike a l s x y callee before e w =
    let b : CallArrival = holding_session a None in
    refused-before-alike abridged_call_link a.me l.number a.link.number reason.Reset (identifies (at b l) (resigned s x y) callee before) (identifies b s callee before) e.number
    (identifies-alike b l s x y callee before e w)

reconnects-alike : (a : CallArrival) (l : Link CallStage) (s : Secured) (x y : List ℕ) (callee : Callee) (before : List SealEntry) (session : HeldSession) → SameAhead l a.link → IsWithin a.link
    → Alike abridged_call_link (reconnects (at a l) (resigned s x y) callee before session) (reconnects a s callee before session)
reconnects-alike a l s x y callee before session e w =
    sent-alike (holding_session a (Some session)) l s x y (λ behind. AwaitsReconnect behind callee session.client_cookie) before (session_reconnect a.own.mon_client session) e w (λ z k. refl)

takes_up-alike : (a : CallArrival) (l : Link CallStage) (s : Secured) (x y : List ℕ) (callee : Callee) (before : List SealEntry) (session : HeldSession) → SameAhead l a.link → IsWithin a.link
    → Alike abridged_call_link (takes_up (at a l) (resigned s x y) callee before session) (takes_up a s callee before session)
takes_up-alike a l s x y callee before session e w = by_test (session.connect_seq == 2 ^ 64 - 1)
  where
    by_test : (last : Bool) → Alike abridged_call_link
        (if last then resets (at a l) (resigned s x y) callee before
        else reconnects (at a l) (resigned s x y) callee before (record session { connect_seq = session.connect_seq + 1 }))
        (if last then resets a s callee before else reconnects a s callee before (record session { connect_seq = session.connect_seq + 1 }))
    by_test true = resets-alike a l s x y callee before e w
    by_test false = reconnects-alike a l s x y callee before (record session { connect_seq = session.connect_seq + 1 }) e w

-- ---- AUTH_SIGNATURE

signed-alike : (a : CallArrival) (l : Link CallStage) (s : Secured) (callee : Callee) (session : Option HeldSession) → SameAhead l a.link → IsWithin a.link
    → Alike abridged_call_link (on_signed (at a l) s callee session) (on_signed a s callee session)
signed-alike a l s callee None e w = identifies-alike a l s s.session s.covered callee (signature_found s ∷ []) e w
signed-alike a l s callee (Some session) e w = takes_up-alike a l s s.session s.covered callee (signature_found s ∷ []) session e w

signature-alike : (a : CallArrival) (l : Link CallStage) (s : Secured) (callee : Callee) (found : Result AuthSignature BytesFault) → SameAhead l a.link → IsWithin a.link
    → Alike abridged_call_link (on_signature (at a l) s callee found) (on_signature a s callee found)
signature-alike a l s callee (Err why) e w = refuses-alike abridged_call_link a l (reason.Bytes why) [] e.number
signature-alike a l s callee (Ok found) e w = by_test (is_signed s found.signature)
  where
    by_test : (right : Bool) → Alike abridged_call_link
        (if right then on_signed (at a l) s callee a.own.session else refuses (at a l) (reason.Login SignatureWrong) [])
        (if right then on_signed a s callee a.own.session else refuses a (reason.Login SignatureWrong) [])
    by_test true = signed-alike a l s callee a.own.session e w
    by_test false = refuses-alike abridged_call_link a l (reason.Login SignatureWrong) [] e.number

-- ---- SERVER_IDENT, IDENT_MISSING_FEATURES

opens-alike : (a : CallArrival) (l : Link CallStage) (s : Secured) (callee : Callee) (cookie : ℕ) (bytes : List ℕ) (seals : List SealEntry) → SameAhead l a.link → IsWithin a.link
    → Alike abridged_call_link (goes_on (at a l) (Open (unsigned s) callee cookie) bytes seals) (goes_on a (Open s callee cookie) bytes seals)
opens-alike a l s callee cookie bytes seals e w =
    goes-alike abridged_call_link a l (Open (unsigned s) callee cookie) (Open s callee cookie) (Open (unsigned s) callee cookie) bytes seals e w (λ k. refl) (λ k. refl)

server_ident-alike : (a : CallArrival) (l : Link CallStage) (s : Secured) (callee : Callee) (cookie : ℕ) (ident : Result ServerIdent BytesFault) → SameAhead l a.link → IsWithin a.link
    → Alike abridged_call_link (on_server_ident (at a l) (unsigned s) callee cookie ident) (on_server_ident a s callee cookie ident)
server_ident-alike a l s callee cookie (Err why) e w = refuses-alike abridged_call_link a l (reason.Bytes why) [] e.number
server_ident-alike a l s callee cookie (Ok ident) e w = opens-alike (holding_session a (Some (new_session callee cookie ident.cookie))) l s callee cookie [] [] e w

missing-alike : (a : CallArrival) (l : Link CallStage) (missing : Result IdentMissingFeatures BytesFault) → SameAhead l a.link
    → Alike abridged_call_link (on_missing_features (at a l) missing) (on_missing_features a missing)
missing-alike a l (Err why) e = refuses-alike abridged_call_link a l (reason.Bytes why) [] e.number
missing-alike a l (Ok missing) e = refuses-alike abridged_call_link a l (reason.Bytes (Features missing.features)) [] e.number

identified-alike : (a : CallArrival) (l : Link CallStage) (s : Secured) (callee : Callee) (cookie : ℕ) (f : Frame) → SameAhead l a.link → IsWithin a.link
    → Alike abridged_call_link (while_identified (at a l) (unsigned s) callee cookie f) (while_identified a s callee cookie f)
identified-alike a l s callee cookie f e w = by_test (f.tag == 10)
  where
    by_test : (lacks : Bool) → Alike abridged_call_link
        (if lacks then on_missing_features (at a l) (payload ident_missing_features_layout.form f) else on_server_ident (at a l) (unsigned s) callee cookie (due 9 server_ident_layout.form f))
        (if lacks then on_missing_features a (payload ident_missing_features_layout.form f) else on_server_ident a s callee cookie (due 9 server_ident_layout.form f))
    by_test true = missing-alike a l (payload ident_missing_features_layout.form f) e
    by_test false = server_ident-alike a l s callee cookie (due 9 server_ident_layout.form f) e w

-- ---- SESSION_RECONNECT_OK, SESSION_RESET, SESSION_RETRY, SESSION_RETRY_GLOBAL

goes_on_in-alike : (a : CallArrival) (l : Link CallStage) (s : Secured) (callee : Callee) (cookie : ℕ) (session : HeldSession) → SameAhead l a.link → IsWithin a.link
    → Alike abridged_call_link (goes_on_in (at a l) (unsigned s) callee cookie session) (goes_on_in a s callee cookie session)
goes_on_in-alike a l s callee cookie session e w =
    secure-alike abridged_call_link (holding_session a (Some session)) l (unsigned s) s (λ behind. Open behind callee cookie) [] (secure_frames s.keys (waiting_messages session)) e w (λ z k. refl)

taken_up-alike : (a : CallArrival) (l : Link CallStage) (s : Secured) (callee : Callee) (cookie last : ℕ) (session : Option HeldSession) → SameAhead l a.link → IsWithin a.link
    → Alike abridged_call_link (taken_up (at a l) (unsigned s) callee cookie last session) (taken_up a s callee cookie last session)
taken_up-alike a l s callee cookie last (Some session) e w = goes_on_in-alike a l s callee cookie (acknowledged_up_to last session) e w
taken_up-alike a l s callee cookie last None e w = opens-alike a l s callee cookie [] [] e w

reconnect_ok-alike : (a : CallArrival) (l : Link CallStage) (s : Secured) (callee : Callee) (cookie : ℕ) (ok : Result SessionReconnectOk BytesFault) → SameAhead l a.link → IsWithin a.link
    → Alike abridged_call_link (on_reconnect_ok (at a l) (unsigned s) callee cookie ok) (on_reconnect_ok a s callee cookie ok)
reconnect_ok-alike a l s callee cookie (Err why) e w = refuses-alike abridged_call_link a l (reason.Bytes why) [] e.number
reconnect_ok-alike a l s callee cookie (Ok ok) e w = taken_up-alike a l s callee cookie ok.seq a.own.session e w

reset-alike : (a : CallArrival) (l : Link CallStage) (s : Secured) (callee : Callee) (reset : Result SessionReset BytesFault) → SameAhead l a.link → IsWithin a.link
    → Alike abridged_call_link (on_reset (at a l) (unsigned s) callee reset) (on_reset a s callee reset)
reset-alike a l s callee (Err why) e w = refuses-alike abridged_call_link a l (reason.Bytes why) [] e.number
reset-alike a l s callee (Ok reset) e w = resets-alike a l s [] [] callee [] e w

retries-alike : (a : CallArrival) (l : Link CallStage) (s : Secured) (callee : Callee) (kept : ℕ) (session : Option HeldSession) → SameAhead l a.link → IsWithin a.link
    → Alike abridged_call_link (retries (at a l) (unsigned s) callee kept session) (retries a s callee kept session)
retries-alike a l s callee kept None e w = resets-alike a l s [] [] callee [] e w
retries-alike a l s callee kept (Some session) e w = by_test (kept == 2 ^ 64 - 1)
  where
    by_test : (last : Bool) → Alike abridged_call_link
        (if last then resets (at a l) (unsigned s) callee [] else reconnects (at a l) (unsigned s) callee [] (record session { connect_seq = kept + 1 }))
        (if last then resets a s callee [] else reconnects a s callee [] (record session { connect_seq = kept + 1 }))
    by_test true = resets-alike a l s [] [] callee [] e w
    by_test false = reconnects-alike a l s [] [] callee [] (record session { connect_seq = kept + 1 }) e w

retry-alike : (a : CallArrival) (l : Link CallStage) (s : Secured) (callee : Callee) (retry : Result SessionRetry BytesFault) → SameAhead l a.link → IsWithin a.link
    → Alike abridged_call_link (on_retry (at a l) (unsigned s) callee retry) (on_retry a s callee retry)
retry-alike a l s callee (Err why) e w = refuses-alike abridged_call_link a l (reason.Bytes why) [] e.number
retry-alike a l s callee (Ok retry) e w = retries-alike a l s callee retry.connect_seq a.own.session e w

retries_global-alike : (a : CallArrival) (l : Link CallStage) (s : Secured) (callee : Callee) (kept : ℕ) (session : Option HeldSession) → SameAhead l a.link → IsWithin a.link
    → Alike abridged_call_link (retries_global (at a l) (unsigned s) callee kept session) (retries_global a s callee kept session)
retries_global-alike a l s callee kept None e w = resets-alike a l s [] [] callee [] e w
retries_global-alike a l s callee kept (Some session) e w = by_test (kept == 2 ^ 64 - 1)
  where
    by_test : (last : Bool) → Alike abridged_call_link
        (if last then resets (at a l) (unsigned s) callee [] else reconnects (counting (at a l) (kept + 1)) (unsigned s) callee [] session)
        (if last then resets a s callee [] else reconnects (counting a (kept + 1)) s callee [] session)
    by_test true = resets-alike a l s [] [] callee [] e w
    by_test false = reconnects-alike (counting a (kept + 1)) l s [] [] callee [] session e w

retry_global-alike : (a : CallArrival) (l : Link CallStage) (s : Secured) (callee : Callee) (retry : Result SessionRetryGlobal BytesFault) → SameAhead l a.link → IsWithin a.link
    → Alike abridged_call_link (on_retry_global (at a l) (unsigned s) callee retry) (on_retry_global a s callee retry)
retry_global-alike a l s callee (Err why) e w = refuses-alike abridged_call_link a l (reason.Bytes why) [] e.number
retry_global-alike a l s callee (Ok retry) e w = retries_global-alike a l s callee retry.global_seq a.own.session e w

reconnecting-alike : (a : CallArrival) (l : Link CallStage) (s : Secured) (callee : Callee) (cookie : ℕ) (f : Frame) → SameAhead l a.link → IsWithin a.link
    → Alike abridged_call_link (while_reconnecting (at a l) (unsigned s) callee cookie f) (while_reconnecting a s callee cookie f)
reconnecting-alike a l s callee cookie f e w = by_tests (f.tag == 15) (f.tag == 12) (f.tag == 13) (f.tag == 14)
  where
    by_tests : (ok reset retry global : Bool) → Alike abridged_call_link
        (if ok then on_reconnect_ok (at a l) (unsigned s) callee cookie (payload session_reconnect_ok_layout.form f)
        else if reset then on_reset (at a l) (unsigned s) callee (payload session_reset_layout.form f)
        else if retry then on_retry (at a l) (unsigned s) callee (payload session_retry_layout.form f)
        else if global then on_retry_global (at a l) (unsigned s) callee (payload session_retry_global_layout.form f) else refuses_bytes (at a l) (Unexpected f.tag) [])
        (if ok then on_reconnect_ok a s callee cookie (payload session_reconnect_ok_layout.form f)
        else if reset then on_reset a s callee (payload session_reset_layout.form f)
        else if retry then on_retry a s callee (payload session_retry_layout.form f)
        else if global then on_retry_global a s callee (payload session_retry_global_layout.form f) else refuses_bytes a (Unexpected f.tag) [])
    by_tests true reset retry global = reconnect_ok-alike a l s callee cookie (payload session_reconnect_ok_layout.form f) e w
    by_tests false true retry global = reset-alike a l s callee (payload session_reset_layout.form f) e w
    by_tests false false true global = retry-alike a l s callee (payload session_retry_layout.form f) e w
    by_tests false false false true = retry_global-alike a l s callee (payload session_retry_global_layout.form f) e w
    by_tests false false false false = refuses-alike abridged_call_link a l (reason.Bytes (Unexpected f.tag)) [] e.number

-- ---- message 43, ACK

answer-alike : (a : CallArrival) (l : Link CallStage) (s : Secured) (callee : Callee) (cookie : ℕ) (read : Result OperationEnd BytesFault) → SameAhead l a.link → IsWithin a.link
    → Alike abridged_call_link (on_answer (at a l) (unsigned s) callee cookie read) (on_answer a s callee cookie read)
answer-alike a l s callee cookie (Err why) e w = refuses-alike abridged_call_link a l (reason.Bytes why) [] e.number
answer-alike a l s callee cookie (Ok end) e w =
    entered-before-alike abridged_call_link (answered_entry a.own.mon_client callee cookie end) (goes_on (at a l) (Open (unsigned s) callee cookie) [] []) (goes_on a (Open s callee cookie) [] [])
    (opens-alike a l s callee cookie [] [] e w)

acknowledges-alike : (a : CallArrival) (l : Link CallStage) (s : Secured) (callee : Callee) (cookie seq : ℕ) (session : Option HeldSession) → SameAhead l a.link → IsWithin a.link
    → Alike abridged_call_link (acknowledges (at a l) (unsigned s) callee cookie seq session) (acknowledges a s callee cookie seq session)
acknowledges-alike a l s callee cookie seq (Some session) e w = opens-alike (holding_session a (Some (acknowledged_up_to seq session))) l s callee cookie [] [] e w
acknowledges-alike a l s callee cookie seq None e w = opens-alike a l s callee cookie [] [] e w

ack-alike : (a : CallArrival) (l : Link CallStage) (s : Secured) (callee : Callee) (cookie : ℕ) (read : Result Ack BytesFault) → SameAhead l a.link → IsWithin a.link
    → Alike abridged_call_link (on_ack (at a l) (unsigned s) callee cookie read) (on_ack a s callee cookie read)
ack-alike a l s callee cookie (Err why) e w = refuses-alike abridged_call_link a l (reason.Bytes why) [] e.number
ack-alike a l s callee cookie (Ok ack) e w = acknowledges-alike a l s callee cookie ack.seq a.own.session e w

answer_or_ack-alike : (a : CallArrival) (l : Link CallStage) (s : Secured) (callee : Callee) (cookie : ℕ) (f : Frame) → SameAhead l a.link → IsWithin a.link
    → Alike abridged_call_link (on_answer_or_ack (at a l) (unsigned s) callee cookie f) (on_answer_or_ack a s callee cookie f)
answer_or_ack-alike a l s callee cookie f e w = by_test (f.tag == 20)
  where
    by_test : (ack : Bool) → Alike abridged_call_link
        (if ack then on_ack (at a l) (unsigned s) callee cookie (payload ack_layout.form f) else on_answer (at a l) (unsigned s) callee cookie (end_in (message_in f)))
        (if ack then on_ack a s callee cookie (payload ack_layout.form f) else on_answer a s callee cookie (end_in (message_in f)))
    by_test true = ack-alike a l s callee cookie (payload ack_layout.form f) e w
    by_test false = answer-alike a l s callee cookie (end_in (message_in f)) e w

open-alike : (a : CallArrival) (l : Link CallStage) (s : Secured) (callee : Callee) (cookie : ℕ) (f : Frame) → SameAhead l a.link → IsWithin a.link
    → Alike abridged_call_link
    (on_upkeep_or (on_answer_or_ack (at a l) (unsigned s) callee cookie) (at a l) (unsigned s) (λ behind. Open behind callee cookie) f)
    (on_upkeep_or (on_answer_or_ack a s callee cookie) a s (λ behind. Open behind callee cookie) f)
open-alike a l s callee cookie f e w =
    upkeep-alike abridged_call_link (on_answer_or_ack (at a l) (unsigned s) callee cookie) (on_answer_or_ack a s callee cookie) a l s (λ behind. Open behind callee cookie) f e w (λ x k. refl)
    (answer_or_ack-alike a l s callee cookie f e w)

-- ---- a turn

-- of a link in this stage
abbrev pub CallTurnsAlike : CallArrival → CallStage → Type 0
CallTurnsAlike a stage =
    let k : Link CallStage = record a.link { stage = stage } in
    let l : Link CallStage = abridged_call_link k in
    SameTurn abridged_call_link (turned_at (at a l) l.stage) (turned_at (at a k) stage)

pub call-turned-alike : (a : CallArrival) (stage : CallStage) → IsWithin a.link → CallTurnsAlike a stage
call-turned-alike a (AwaitsBanner called) w =
    let k : Link CallStage = record a.link { stage = AwaitsBanner called } in
    same-turn abridged_call_link (turned_at (at a k) (AwaitsBanner called))
    (banner-turn (at a k) (λ b. on_banner b called) w (λ l v. plain_sent-within (at a l) (AwaitsHello called) [] (plain_frame (own_hello a.own.mon_client.name.kind)) v))
call-turned-alike a (AwaitsHello called) w =
    let k : Link CallStage = record a.link { stage = AwaitsHello called } in
    same-turn abridged_call_link (turned_at (at a k) (AwaitsHello called))
    (plain-turn (at a k) (λ b f. on_hello b called (due 1 hello_layout.form f)) w (λ l f v. hello-within (at a l) called (due 1 hello_layout.form f) v))
call-turned-alike a (AwaitsChallenge callee p) w =
    let k : Link CallStage = record a.link { stage = AwaitsChallenge callee p } in
    same-turn abridged_call_link (turned_at (at a k) (AwaitsChallenge callee p))
    (plain-turn (at a k) (λ b f. while_challenged b callee p f) w (λ l f v. challenged-within (at a l) callee p f v))
call-turned-alike a (AwaitsDone callee answered) w =
    let k : Link CallStage = record a.link { stage = AwaitsDone callee answered } in
    same-turn abridged_call_link (turned_at (at a k) (AwaitsDone callee answered))
    (plain-turn (at a k) (λ b f. while_answered b callee answered f) w (λ l f v. answered-within (at a l) callee answered f v))
call-turned-alike a (AwaitsSignature s callee) w =
    let k : Link CallStage = record a.link { stage = AwaitsSignature s callee } in
    let row : CallArrival → Keys → Frame → CallRow = λ b keys f. on_signature b (under s keys) callee (due 7 auth_signature_layout.form f) in
    secure-turn abridged_call_link (at a k) (AwaitsSignature s callee) s.keys row row w
    (λ l n keys f e v. signature-alike (at a n) l (under s keys) callee (due 7 auth_signature_layout.form f) e v)
call-turned-alike a (AwaitsIdent s callee cookie) w =
    let k : Link CallStage = record a.link { stage = AwaitsIdent s callee cookie } in
    let row : Secured → CallArrival → Keys → Frame → CallRow = λ t b keys f. while_identified b (under t keys) callee cookie f in
    secure-turn abridged_call_link (at a k) (AwaitsIdent (unsigned s) callee cookie) s.keys (row (unsigned s)) (row s) w
    (λ l n keys f e v. identified-alike (at a n) l (under s keys) callee cookie f e v)
call-turned-alike a (AwaitsReconnect s callee cookie) w =
    let k : Link CallStage = record a.link { stage = AwaitsReconnect s callee cookie } in
    let row : Secured → CallArrival → Keys → Frame → CallRow = λ t b keys f. while_reconnecting b (under t keys) callee cookie f in
    secure-turn abridged_call_link (at a k) (AwaitsReconnect (unsigned s) callee cookie) s.keys (row (unsigned s)) (row s) w
    (λ l n keys f e v. reconnecting-alike (at a n) l (under s keys) callee cookie f e v)
call-turned-alike a (Open s callee cookie) w =
    let k : Link CallStage = record a.link { stage = Open s callee cookie } in
    let row : Secured → CallArrival → Keys → Frame → CallRow = λ t b keys f.
    on_upkeep_or (on_answer_or_ack b (under t keys) callee cookie) b (under t keys) (λ behind. Open behind callee cookie) f
    in
    secure-turn abridged_call_link (at a k) (Open (unsigned s) callee cookie) s.keys (row (unsigned s)) (row s) w
    (λ l n keys f e v. open-alike (at a n) l (under s keys) callee cookie f e v)
