-- Rows of a client's link to a daemon that leave all that the client has, and behind which the link is for its session with that daemon.
use Rattle.std.proofs.Common.{◌≡◌, ℕ, ◌==◌, ◌++◌, Bool, true, false, List, [], ◌∷◌, take, Option, Some, None, Result, Ok, Err, refl}
use Rattle.std.specs.Prelude.{not, if◌then◌else◌}
use Rattle.cx_run.specs.cx_authorize.specs.Client.{Answered, Presented, challenge_in, reply_in}
use Rattle.cx_run.specs.cx_authorize.specs.Verdict.{raised}
use Rattle.cx_control.specs.Auth.{auth_done_layout, auth_reply_more_layout}
use Rattle.cx_control.specs.BadMethod.{bad_method_layout}
use Rattle.cx_control.specs.declared.auth.AuthDone.{AuthDone}
use Rattle.cx_control.specs.declared.auth.AuthReplyMore.{AuthReplyMore}
use Rattle.cx_control.specs.declared.hello.Hello.{Hello}
use Rattle.cx_control.specs.declared.idents.IdentMissingFeatures.{IdentMissingFeatures}
use Rattle.cx_control.specs.declared.upkeep.Keepalive2.{Keepalive2}
use Rattle.cx_control.specs.declared.upkeep.Keepalive2Ack.{Keepalive2Ack}
use Rattle.cx_dice.specs.Draws.{challenge_of, cookie_of}
use Rattle.cx_frame.specs.declared.frame.Frame.{Frame}
use Rattle.cx_journal.specs.declared.faults.BytesFault.{BytesFault}
use Rattle.cx_journal.specs.declared.faults.LoginFault.TheVariants.{Mode, NonceWrong}
use Rattle.cx_journal.specs.declared.outcomes.Reason.TheVariants as reason
use Rattle.cx_laws_sessions.specs.cx_rules.specs.Connector.{client_ident}
use Rattle.cx_laws_sessions.specs.cx_rules.specs.Greetings.{own_hello}
use Rattle.cx_laws_sessions.specs.cx_rules.specs.Links.{Link}
use Rattle.cx_laws_sessions.specs.cx_rules.specs.Payloads.{due, payload, whole}
use Rattle.cx_laws_sessions.specs.cx_rules.specs.Rows.{goes_on, plain_sent, refuses, secure_sent, unless_refused}
use Rattle.cx_laws_sessions.specs.cx_rules.specs.Secured.{SealedFrame, Secured, connector_keys, plain_frame, secure_frame, signed_frame}
use Rattle.cx_laws_sessions.specs.cx_rules.specs.Upkeep.{on_keepalive, on_keepalive_ack}
use Rattle.cx_laws_sessions.specs.cx_rules_session.specs.Envelopes.{authorize_content, sends_holding, session_sealed}
use Rattle.cx_laws_sessions.specs.cx_rules_session.specs.Lossy.{lossy_flags}
use Rattle.cx_laws_sessions.specs.cx_rules_session.specs.Presenter.{CallArrival, CallRow, CallStage, AwaitsChallenge, AwaitsDone, AwaitsHello, AwaitsIdent, Open, OperationEnd, answers_challenge, callee_of, first_frame, identifies, on_answer, on_authorize_reply, on_bad_method, on_banner, on_challenge, on_done, on_hello, on_missing_features, on_reply_more, on_unlocked, presented, second_frame, signs, while_answered, while_challenged}
use Rattle.cx_laws_sessions.specs.cx_rules_session.specs.Sessions.{Called, Callee, HeldSession, held_gid}
use Rattle.cx_laws_sessions.specs.waiting.Linked.{IsFor, IsUnder}
use Rattle.cx_sealed.specs.declared.authorize_challenge.AuthorizeChallenge.{AuthorizeChallenge}
use Rattle.cx_sealed.specs.declared.authorize_reply.AuthorizeReply.{AuthorizeReply}
use Rattle.cx_steps.specs.declared.seals.DrawMark.TheVariants as draw
use Rattle.cx_steps.specs.declared.seals.SealEntry.{SealEntry}
use Rattle.cx_steps.specs.declared.seals.SealEntry.TheVariants.{Drawn}
use Rattle.cx_wire.specs.Logins.{authorize_challenge_layout, authorize_reply_layout}
use Rattle.cx_wire.specs.declared.authorizers.AuthorizeChallenge as shown_challenge
use Rattle.cx_wire.specs.declared.authorizers.AuthorizeReply as shown_reply

-- the link that goes on behind a row calls this one, and is for this session
abbrev pub GoesFor : Callee → Option HeldSession → Option (Link CallStage) → Type 0
GoesFor callee session None = Unit {0}
GoesFor callee session (Some link) = (callee_of link.stage ≡ callee) × IsFor session link.stage

-- all that the client has is as before, and the link is for the session that is held
abbrev pub LeavesAll : CallArrival → Callee → CallRow → Type 0
LeavesAll a callee row = (row.own ≡ a.own) × GoesFor callee a.own.session row.link

module _ (a : CallArrival) where
  -- ---- the ways in which a row ends

  pub secure-leaves : (callee : Callee) (s : Secured) (stage : Secured → CallStage) → ((behind : Secured) → (callee_of (stage behind) ≡ callee) × IsFor a.own.session (stage behind)) → (seals : List SealEntry) (r : Result SealedFrame BytesFault)
      → LeavesAll a callee (secure_sent a s stage seals r)
  secure-leaves callee s stage fits seals (Ok sealed) = (refl, fits (record s { keys = sealed.keys }))
  secure-leaves callee s stage fits seals (Err why) = (refl, tt)

  plain-leaves : (callee : Callee) (stage : CallStage) → callee_of stage ≡ callee → IsFor a.own.session stage → (seals : List SealEntry) (r : Result (List ℕ) BytesFault) → LeavesAll a callee (plain_sent a stage seals r)
  plain-leaves callee stage calls fits seals (Ok bytes) = (refl, (calls, fits))
  plain-leaves callee stage calls fits seals (Err why) = (refl, tt)

  holding-leaves : (callee : Callee) (stage : CallStage) → callee_of stage ≡ callee → IsFor a.own.session stage → (before held : List SealEntry) (f : Frame) → LeavesAll a callee (sends_holding a stage before held f)
  holding-leaves callee stage calls fits before held f = by_sent (plain_frame f)
    where
      by_sent : (r : Result (List ℕ) BytesFault) → LeavesAll a callee (unless_refused a before r (λ bytes. goes_on a stage bytes (before ++ held)))
      by_sent (Ok bytes) = (refl, (calls, fits))
      by_sent (Err why) = (refl, tt)

  -- ---- banner, HELLO, authorizers

  pub banner-leaves : (called : Called) → LeavesAll a called.callee (on_banner a called)
  banner-leaves called = plain-leaves called.callee (AwaitsHello called) refl tt [] (plain_frame (own_hello a.own.mon_client.name.kind))

  pub hello-leaves : (called : Called) (read : Result Hello BytesFault) → LeavesAll a called.callee (on_hello a called read)
  hello-leaves called (Err why) = (refl, tt)
  hello-leaves called (Ok hello) =
      let p : Presented = presented called a.own.mon_client (challenge_of a.draw) in
      holding-leaves called.callee (AwaitsChallenge called.callee p) refl tt (Drawn (draw.Nonce p.nonce) ∷ []) (session_sealed p.held.session (authorize_content p.nonce None) ∷ []) (first_frame a.own.mon_client p)

  answers-leaves : (callee : Callee) (p : Presented) (opened : List SealEntry) (value : Option AuthorizeChallenge) → LeavesAll a callee (answers_challenge a callee p opened value)
  answers-leaves callee p opened None = (refl, tt)
  answers-leaves callee p opened (Some asked) =
      holding-leaves callee (AwaitsDone callee (record { session = p.held.session; nonce = p.nonce })) refl tt opened
      (session_sealed p.held.session (authorize_content p.nonce (Some asked.challenge)) ∷ []) (second_frame p asked.challenge)

  challenge-leaves : (callee : Callee) (p : Presented) (read : Result shown_challenge.AuthorizeChallenge BytesFault) → LeavesAll a callee (on_challenge a callee p read)
  challenge-leaves callee p (Err why) = (refl, tt)
  challenge-leaves callee p (Ok shown) = let unlocked = challenge_in p.held.session shown.sealed in answers-leaves callee p unlocked.seals unlocked.value

  reply_more-leaves : (callee : Callee) (p : Presented) (read : Result AuthReplyMore BytesFault) → LeavesAll a callee (on_reply_more a callee p read)
  reply_more-leaves callee p (Err why) = (refl, tt)
  reply_more-leaves callee p (Ok more) = challenge-leaves callee p (whole authorize_challenge_layout.form more.payload)

  bad_method-leaves : (callee : Callee) (read : Result (ℕ × (ℕ × (List ℕ × List ℕ))) BytesFault) → LeavesAll a callee (on_bad_method a read)
  bad_method-leaves callee (Err why) = (refl, tt)
  bad_method-leaves callee (Ok fields) = (refl, tt)

  pub challenged-leaves : (callee : Callee) (p : Presented) (f : Frame) → LeavesAll a callee (while_challenged a callee p f)
  challenged-leaves callee p f = by_test (f.tag == 3)
    where
      by_test : (denied : Bool) → LeavesAll a callee (if denied then on_bad_method a (payload bad_method_layout.form f) else on_reply_more a callee p (due 4 auth_reply_more_layout.form f))
      by_test true = bad_method-leaves callee (payload bad_method_layout.form f)
      by_test false = reply_more-leaves callee p (due 4 auth_reply_more_layout.form f)

  signs-leaves : (callee : Callee) (answered : Answered) (opened : List SealEntry) (made : Result SealedFrame BytesFault) → LeavesAll a callee (signs a callee answered opened made)
  signs-leaves callee answered opened (Err why) = (refl, tt)
  signs-leaves callee answered opened (Ok sealed) = (refl, (refl, tt))

  unlocked-leaves : (callee : Callee) (answered : Answered) (opened : List SealEntry) (value : Option AuthorizeReply) → LeavesAll a callee (on_unlocked a callee answered opened value)
  unlocked-leaves callee answered opened None = (refl, tt)
  unlocked-leaves callee answered opened (Some reply) = by_test (reply.nonce_plus_one == raised answered.nonce)
    where
      by_test : (same : Bool) → LeavesAll a callee (if same
          then signs a callee answered opened (signed_frame (connector_keys reply.secret) answered.session (take a.link.taken a.link.received))
          else refuses a (reason.Login (NonceWrong (raised answered.nonce) reply.nonce_plus_one)) opened)
      by_test true = signs-leaves callee answered opened (signed_frame (connector_keys reply.secret) answered.session (take a.link.taken a.link.received))
      by_test false = (refl, tt)

  authorize_reply-leaves : (callee : Callee) (answered : Answered) (read : Result shown_reply.AuthorizeReply BytesFault) → LeavesAll a callee (on_authorize_reply a callee answered read)
  authorize_reply-leaves callee answered (Err why) = (refl, tt)
  authorize_reply-leaves callee answered (Ok shown) = let unlocked = reply_in answered.session shown.sealed in unlocked-leaves callee answered unlocked.seals unlocked.value

  done-leaves : (callee : Callee) (answered : Answered) (read : Result AuthDone BytesFault) → LeavesAll a callee (on_done a callee answered read)
  done-leaves callee answered (Err why) = (refl, tt)
  done-leaves callee answered (Ok done) = by_test (not (done.mode == 2))
    where
      by_test : (other : Bool) → LeavesAll a callee (if other then refuses a (reason.Login Mode) [] else on_authorize_reply a callee answered (whole authorize_reply_layout.form done.payload))
      by_test true = (refl, tt)
      by_test false = authorize_reply-leaves callee answered (whole authorize_reply_layout.form done.payload)

  pub answered-leaves : (callee : Callee) (answered : Answered) (f : Frame) → LeavesAll a callee (while_answered a callee answered f)
  answered-leaves callee answered f = by_test (f.tag == 3)
    where
      by_test : (denied : Bool) → LeavesAll a callee (if denied then on_bad_method a (payload bad_method_layout.form f) else on_done a callee answered (due 6 auth_done_layout.form f))
      by_test true = bad_method-leaves callee (payload bad_method_layout.form f)
      by_test false = done-leaves callee answered (due 6 auth_done_layout.form f)

  -- ---- CLIENT_IDENT and its refusal

  pub identifies-leaves : a.own.session ≡ None → (s : Secured) (callee : Callee) (before : List SealEntry) → LeavesAll a callee (identifies a s callee before)
  identifies-leaves none s callee before =
      let cookie : ℕ = cookie_of a.draw in
      secure-leaves callee s (λ behind. AwaitsIdent behind callee cookie) (λ behind. (refl, none)) (before ++ Drawn (draw.Cookie cookie) ∷ [])
      (secure_frame s.keys (client_ident a.own.mon_client (held_gid a.own.mon_client.holdings) (lossy_flags callee.lossy) cookie))

  pub missing-leaves : (callee : Callee) (read : Result IdentMissingFeatures BytesFault) → LeavesAll a callee (on_missing_features a read)
  missing-leaves callee (Err why) = (refl, tt)
  missing-leaves callee (Ok missing) = (refl, tt)

  -- ---- message 43, keepalives

  module _ (s : Secured) (callee : Callee) (cookie : ℕ) (under : IsUnder cookie a.own.session) where
    pub answer-leaves : (read : Result OperationEnd BytesFault) → LeavesAll a callee (on_answer a s callee cookie read)
    answer-leaves (Err why) = (refl, tt)
    answer-leaves (Ok end) = (refl, (refl, under))

    pub keepalive-leaves : (read : Result Keepalive2 BytesFault) → LeavesAll a callee (on_keepalive a s (λ behind. Open behind callee cookie) read)
    keepalive-leaves (Err why) = (refl, tt)
    keepalive-leaves (Ok keepalive) = secure-leaves callee s (λ behind. Open behind callee cookie) (λ behind. (refl, under)) [] _

    pub keepalive_ack-leaves : (read : Result Keepalive2Ack BytesFault) → LeavesAll a callee (on_keepalive_ack a s (λ behind. Open behind callee cookie) read)
    keepalive_ack-leaves (Err why) = (refl, tt)
    keepalive_ack-leaves (Ok ack) = (refl, (refl, under))
