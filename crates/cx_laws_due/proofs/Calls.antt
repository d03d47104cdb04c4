-- A client hands its link to a daemon on, at each stage until it is open, and at each answer.
use Rattle.std.proofs.Common.{◌≡◌, ℕ, ◌==◌, ◌+◌, ◌≤◌, Bool, true, false, List, [], ◌∷◌, ◌++◌, length, Option, Some, None, Result, Ok, Err, refl, sym, ap, subst, ◌∙◌, arith}
use Rattle.std.specs.Prelude.{if◌then◌else◌, not, take}
use Rattle.std.proofs.lemmas.Bool.{eq-eqb, ne_eqb}
use Rattle.cx_base.specs.declared.kinds.EntityType.{EntityType}
use Rattle.cx_rules_session.specs.cx_authorize.specs.Client.{Answered, Presented, challenge_in, reply_in}
use Rattle.cx_rules_session.specs.cx_authorize.specs.Verdict.{raised}
use Rattle.cx_rules_session.specs.cx_control.specs.Auth.{auth_done_layout, auth_reply_more_layout, auth_signature_layout}
use Rattle.cx_rules_session.specs.cx_control.specs.BadMethod.{bad_method_layout}
use Rattle.cx_rules_session.specs.cx_control.specs.Hello.{hello_layout}
use Rattle.cx_rules_session.specs.cx_control.specs.Idents.{ident_missing_features_layout, server_ident_layout}
use Rattle.cx_rules_session.specs.cx_control.specs.Upkeep.{ack_layout, keepalive2_ack_layout, keepalive2_layout}
use Rattle.cx_rules_session.specs.cx_control.specs.declared.hello.Hello.{Hello}
use Rattle.cx_rules.specs.cx_dice.specs.Draws.{challenge_of, cookie_of}
use Rattle.cx_rules.specs.cx_digest.specs.Code.{hmac}
use Rattle.cx_rules_session.specs.cx_enc.specs.Forms.{little}
use Rattle.cx_rules_session.specs.cx_enc.specs.Values.{addr_form, kind_form}
use Rattle.cx_rules.specs.cx_frame.specs.Frames.{frame_text, total}
use Rattle.cx_rules.specs.cx_frame.specs.declared.frame.Frame.{Frame}
use Rattle.cx_rules_session.specs.cx_journal.specs.declared.entries.Entry.{Entry}
use Rattle.cx_rules_session.specs.cx_journal.specs.declared.faults.BytesFault.{BytesFault}
use Rattle.cx_rules_session.specs.cx_journal.specs.declared.faults.BytesFault.TheVariants.{Unexpected}
use Rattle.cx_rules_session.specs.cx_journal.specs.declared.faults.LoginFault.TheVariants.{Mode, NonceWrong, SignatureWrong}
use Rattle.cx_rules_session.specs.cx_journal.specs.declared.outcomes.Reason.TheVariants as reason
use Rattle.cx_rules_session.specs.cx_sealed.specs.declared.authorize_challenge.AuthorizeChallenge.{AuthorizeChallenge}
use Rattle.cx_rules_session.specs.cx_sealed.specs.declared.authorize_reply.AuthorizeReply.{AuthorizeReply}
use Rattle.cx_rules.specs.cx_steps.specs.declared.seals.DrawMark.TheVariants as draw
use Rattle.cx_rules.specs.cx_steps.specs.declared.seals.SealEntry.{SealEntry}
use Rattle.cx_rules.specs.cx_steps.specs.declared.seals.SealEntry.TheVariants.{Drawn}
use Rattle.cx_rules_session.specs.cx_wire.specs.Logins.{authorize_challenge_layout, authorize_reply_layout}
use Rattle.cx_rules_session.specs.cx_wire.specs.Operations.{answer_layout}
use Rattle.cx_rules_session.specs.cx_wire.specs.declared.answers.Answer.{Answer}
use Rattle.cx_laws_due.specs.Calling.{HearsAck, HearsAnswer, HearsChallenge, HearsHello, HearsReply, HearsServerIdent, HearsSignature, own_signature, shown_on}
use Rattle.cx_rules.specs.Carrying.{HandsOn}
use Rattle.cx_rules.specs.Connector.{client_ident}
use Rattle.cx_rules.specs.Fronts.{Next, banner_next, plain_next, secure_next}
use Rattle.cx_rules.specs.Greetings.{own_hello}
use Rattle.cx_rules.specs.Links.{Link}
use Rattle.cx_rules.specs.Messages.{Message, message_in, on_upkeep_or}
use Rattle.cx_rules.specs.Payloads.{control, due, payload, whole}
use Rattle.cx_rules.specs.Rows.{Handles, at, goes_on, plain_sent, refuses, secure_sent, turned_by, unless_refused, with_opened}
use Rattle.cx_rules.specs.Secured.{Keys, SealedFrame, Secured, connector_keys, sealed_under, secure_frame, signature, signature_found, signing, under}
use Rattle.cx_rules.specs.Upkeep.{on_keepalive, on_keepalive_ack}
use Rattle.cx_rules.proofs.Carrying.{short-client_ident}
use Rattle.cx_rules.proofs.Sizes.{few-parts, length-code, plain-sent, secure-sent}
use Rattle.cx_rules_session.specs.Envelopes.{authorize_content, session_sealed}
use Rattle.cx_rules_session.specs.Kinds.{entered_before}
use Rattle.cx_rules_session.specs.Lossy.{lossy_flags}
use Rattle.cx_rules_session.specs.Presenter.{AwaitsBanner, AwaitsHello, AwaitsChallenge, AwaitsDone, AwaitsSignature, AwaitsIdent, Open, CallArrival, CallRow, CallStage, Caller, OperationEnd, acknowledges, agrees, answered_entry, answers_challenge, end_by, end_in, first_frame, holding_session, identifies, on_ack, on_answer, on_answer_or_ack, on_authorize_reply, on_bad_method, on_banner, on_challenge, on_done, on_hello, on_missing_features, on_reply_more, on_server_ident, on_signature, on_signed, on_unlocked, outcome_by, second_frame, signs, turned_at, while_answered, while_challenged, while_identified}
use Rattle.cx_rules_session.specs.Sessions.{Called, Callee, HeldSession, acknowledged_up_to, held_gid, new_session}

short-hello : (kind : EntityType) → total (own_hello kind) ≤ 65536
unfolding little addr_form kind_form
short-hello kind = omega arith

module _ (a : CallArrival) where
  -- the peer's banner: HELLO is sent
  pub greets : (called : Called) (behind : Link CallStage) → banner_next a.link ≡ Next behind []
      → HandsOn a.own behind (AwaitsHello called) (frame_text (own_hello a.own.mon_client.name.kind)) [] (turned_at a (AwaitsBanner called))
  greets called behind next = record {
    row = goes_on (at a behind) (AwaitsHello called) (frame_text (own_hello a.own.mon_client.name.kind)) [];
    handles = ap (turned_by (λ (l : Link CallStage) _. on_banner (at a l) called)) next
        ∙ ap (λ (r : Result (List ℕ) BytesFault). Handles (plain_sent (at a behind) (AwaitsHello called) [] r))
        (plain-sent (own_hello a.own.mon_client.name.kind) (short-hello a.own.mon_client.name.kind));
    own_is = refl;
    link = refl;
    sends = refl;
    save = refl;
    entered = refl;
  }

  -- HELLO: the first authorizer is shown
  pub shows : (called : Called) (h : HearsHello a called)
      → HandsOn a.own h.reads.behind (AwaitsChallenge called.callee (shown_on a called)) (frame_text (first_frame a.own.mon_client (shown_on a called))) [] (turned_at a (AwaitsHello called))
  shows called h =
      let b : CallArrival = at a h.reads.behind in
      let p : Presented = shown_on a called in
      let before : List SealEntry = Drawn (draw.Nonce p.nonce) ∷ [] in
      let held : List SealEntry = session_sealed p.held.session (authorize_content p.nonce None) ∷ [] in
      record {
        row = goes_on b (AwaitsChallenge called.callee p) (frame_text (first_frame a.own.mon_client p)) (before ++ held);
        handles = ap (turned_by (λ ((l, f) : Link CallStage × Frame) _. on_hello (at a l) called (due 1 hello_layout.form f))) h.reads.next
            ∙ ap (λ (r : Result Hello BytesFault). Handles (on_hello b called r)) h.payload
            ∙ ap (λ (r : Result (List ℕ) BytesFault). Handles (unless_refused b before r (λ bytes. goes_on b (AwaitsChallenge called.callee p) bytes (before ++ held))))
            (plain-sent (first_frame a.own.mon_client p) h.short);
        own_is = refl;
        link = refl;
        sends = refl;
        save = refl;
        entered = refl;
      }

  -- the daemon's challenge: the second authorizer is shown
  pub answers-it : (callee : Callee) (p : Presented) (h : HearsChallenge a p)
      → HandsOn a.own h.reads.behind (AwaitsDone callee (record { session = p.held.session; nonce = p.nonce })) (frame_text (second_frame p h.asked.challenge)) [] (turned_at a (AwaitsChallenge callee p))
  answers-it callee p h =
      let b : CallArrival = at a h.reads.behind in
      let f : Frame = h.reads.frame in
      let opened : List SealEntry = (challenge_in p.held.session h.shown.sealed).seals in
      let held : List SealEntry = session_sealed p.held.session (authorize_content p.nonce (Some h.asked.challenge)) ∷ [] in
      let stage : CallStage = AwaitsDone callee (record { session = p.held.session; nonce = p.nonce }) in
      let by_tag : ℕ → CallRow = λ n.
      if n == 3 then on_bad_method b (payload bad_method_layout.form f)
      else on_reply_more b callee p (if n == 4 then payload auth_reply_more_layout.form f else Err (Unexpected n)) in
      record {
        row = goes_on b stage (frame_text (second_frame p h.asked.challenge)) (opened ++ held);
        handles = ap (turned_by (λ ((l, g) : Link CallStage × Frame) _. while_challenged (at a l) callee p g)) h.reads.next
            ∙ ap (λ (r : CallRow). Handles r)
            (ap by_tag h.tag ∙ ap (on_reply_more b callee p) h.payload ∙ ap (on_challenge b callee p) h.read ∙ ap (answers_challenge b callee p opened) h.opens
            ∙ ap (λ (r : Result (List ℕ) BytesFault). unless_refused b opened r (λ bytes. goes_on b stage bytes (opened ++ held))) (plain-sent (second_frame p h.asked.challenge) h.short));
        own_is = refl;
        link = refl;
        sends = refl;
        save = refl;
        entered = refl;
      }

  -- AUTH_DONE to one's own nonce: AUTH_SIGNATURE is sent
  pub agrees-to : (callee : Callee) (answered : Answered) (h : HearsReply a answered)
      → HandsOn a.own h.reads.behind
      (AwaitsSignature (record {
        keys = (own_signature h.reply.secret answered.session (take h.reads.behind.taken h.reads.behind.received)).keys;
        session = answered.session;
        covered = h.reads.behind.sent;
      }) callee)
      (own_signature h.reply.secret answered.session (take h.reads.behind.taken h.reads.behind.received)).bytes [] (turned_at a (AwaitsDone callee answered))
  agrees-to callee answered h =
      let b : CallArrival = at a h.reads.behind in
      let f : Frame = h.reads.frame in
      let received : List ℕ = take h.reads.behind.taken h.reads.behind.received in
      let session : List ℕ = answered.session in
      let opened : List SealEntry = (reply_in session h.shown.sealed).seals in
      let own : Frame = control 7 auth_signature_layout.form (record { signature = hmac session received }) in
      let sealed : SealedFrame = own_signature h.reply.secret session received in
      let signed : SealedFrame = record sealed { seals = signature session received ∷ sealed.seals } in
      let by_tag : ℕ → CallRow = λ n.
      if n == 3 then on_bad_method b (payload bad_method_layout.form f)
      else on_done b callee answered (if n == 6 then payload auth_done_layout.form f else Err (Unexpected n)) in
      let by_mode : ℕ → CallRow = λ n.
      if not (n == 2) then refuses b (reason.Login Mode) [] else on_authorize_reply b callee answered (whole authorize_reply_layout.form h.done.payload) in
      let by_test : Bool → CallRow = λ is.
      if is then signs b callee answered opened (signing session received (secure_frame (connector_keys h.reply.secret) own))
      else refuses b (reason.Login (NonceWrong (raised answered.nonce) h.reply.nonce_plus_one)) opened in
      record {
        row = goes_on b (AwaitsSignature (record { keys = sealed.keys; session = session; covered = h.reads.behind.sent }) callee) sealed.bytes (opened ++ signed.seals);
        handles = ap (turned_by (λ ((l, g) : Link CallStage × Frame) _. while_answered (at a l) callee answered g)) h.reads.next
            ∙ ap (λ (r : CallRow). Handles r)
            (ap by_tag h.tag ∙ ap (on_done b callee answered) h.payload ∙ ap by_mode h.mode ∙ ap (on_authorize_reply b callee answered) h.read
            ∙ ap (on_unlocked b callee answered opened) h.opens ∙ ap by_test (eq-eqb h.reply.nonce_plus_one (raised answered.nonce) h.nonce)
            ∙ ap (λ (r : Result SealedFrame BytesFault). signs b callee answered opened (signing session received r))
            (secure-sent (connector_keys h.reply.secret) own (omega (arith, few-parts own, h.counters)) (omega (arith, length-code session received))));
        own_is = refl;
        link = refl;
        sends = refl;
        save = refl;
        entered = refl;
      }

  -- the daemon's signature, where no session with it is held: CLIENT_IDENT is sent under a drawn cookie
  pub identifies-it : (s : Secured) (callee : Callee) (h : HearsSignature a s) → a.own.session ≡ None
      → (let f : Frame = client_ident a.own.mon_client (held_gid a.own.mon_client.holdings) (lossy_flags callee.lossy) (cookie_of a.draw) in
      HandsOn a.own h.reads.behind (AwaitsIdent (under s (sealed_under h.reads.keys f).keys) callee (cookie_of a.draw)) (sealed_under h.reads.keys f).bytes [] (turned_at a (AwaitsSignature s callee)))
  identifies-it s callee h none =
      let b : CallArrival = at a h.reads.behind in
      let t : Secured = under s h.reads.keys in
      let cookie : ℕ = cookie_of a.draw in
      let f : Frame = client_ident a.own.mon_client (held_gid a.own.mon_client.holdings) (lossy_flags callee.lossy) cookie in
      let sealed : SealedFrame = sealed_under h.reads.keys f in
      let seals : List SealEntry = signature_found t ∷ Drawn (draw.Cookie cookie) ∷ [] in
      let stage_of : Secured → CallStage = λ u. AwaitsIdent u callee cookie in
      let by_test : Bool → CallRow = λ is. if is then on_signed b t callee a.own.session else refuses b (reason.Login SignatureWrong) [] in
      record {
        row = with_opened h.reads.opened (goes_on b (AwaitsIdent (under s sealed.keys) callee cookie) sealed.bytes (seals ++ sealed.seals));
        handles = ap (turned_by (λ ((l, g, k) : Link CallStage × Frame × Keys) o. with_opened o (on_signature (at a l) (under s k) callee (due 7 auth_signature_layout.form g)))) h.reads.next
            ∙ ap (λ (r : CallRow). Handles (with_opened h.reads.opened r))
            (ap (on_signature b t callee) h.payload ∙ ap by_test h.right ∙ ap (on_signed b t callee) none
            ∙ ap (secure_sent b t stage_of seals)
            (secure-sent h.reads.keys f (omega (arith, few-parts f, h.reads.counters))
            (short-client_ident a.own.mon_client (held_gid a.own.mon_client.holdings) (lossy_flags callee.lossy) cookie h.address)));
        own_is = refl;
        link = refl;
        sends = refl;
        save = refl;
        entered = refl;
      }

  -- SERVER_IDENT: the session is held with both cookies, and the link is open
  pub begins : (s : Secured) (callee : Callee) (cookie : ℕ) (h : HearsServerIdent a s)
      → HandsOn (record a.own { session = Some (new_session callee cookie h.ident.cookie) }) h.reads.behind (Open (under s h.reads.keys) callee cookie) [] [] (turned_at a (AwaitsIdent s callee cookie))
  begins s callee cookie h =
      let b : CallArrival = at a h.reads.behind in
      let t : Secured = under s h.reads.keys in
      let f : Frame = h.reads.frame in
      let by_tag : ℕ → CallRow = λ n.
      if n == 10 then on_missing_features b (payload ident_missing_features_layout.form f)
      else on_server_ident b t callee cookie (if n == 9 then payload server_ident_layout.form f else Err (Unexpected n)) in
      record {
        row = with_opened h.reads.opened (goes_on (holding_session b (Some (new_session callee cookie h.ident.cookie))) (Open t callee cookie) [] []);
        handles = ap (turned_by (λ ((l, g, k) : Link CallStage × Frame × Keys) o. with_opened o (while_identified (at a l) (under s k) callee cookie g))) h.reads.next
            ∙ ap (λ (r : CallRow). Handles (with_opened h.reads.opened r)) (ap by_tag h.tag ∙ ap (on_server_ident b t callee cookie) h.payload);
        own_is = refl;
        link = refl;
        sends = refl;
        save = refl;
        entered = refl;
      }

  -- ---- an open link

  module _ (s : Secured) (callee : Callee) (cookie : ℕ) where
    -- message 43: the answer is entered
    pub enters-answer : (h : HearsAnswer a s)
        → HandsOn a.own h.reads.behind (Open (under s h.reads.keys) callee cookie) []
        (answered_entry a.own.mon_client callee cookie (record { tid = h.message.header.tid; outcome = outcome_by h.answer.outcome }) ∷ []) (turned_at a (Open s callee cookie))
    enters-answer h =
        let b : CallArrival = at a h.reads.behind in
        let t : Secured = under s h.reads.keys in
        let f : Frame = h.reads.frame in
        let end : OperationEnd = record { tid = h.message.header.tid; outcome = outcome_by h.answer.outcome } in
        let by_tag : ℕ → CallRow = λ n.
        if n == 18 then on_keepalive b t (λ u. Open u callee cookie) (payload keepalive2_layout.form f)
        else if n == 19 then on_keepalive_ack b t (λ u. Open u callee cookie) (payload keepalive2_ack_layout.form f)
        else if n == 20 then on_ack b t callee cookie (payload ack_layout.form f)
        else on_answer b t callee cookie (end_in (message_in f)) in
        let by_type : ℕ → Result OperationEnd BytesFault = λ n. if n == 43 then end_by h.message (whole answer_layout.form h.message.body) else Err (Unexpected 17) in
        record {
          row = with_opened h.reads.opened (entered_before (answered_entry a.own.mon_client callee cookie end) (goes_on b (Open t callee cookie) [] []));
          handles = ap (turned_by (λ ((l, g, k) : Link CallStage × Frame × Keys) o.
              with_opened o (on_upkeep_or (on_answer_or_ack (at a l) (under s k) callee cookie) (at a l) (under s k) (λ u. Open u callee cookie) g))) h.reads.next
              ∙ ap (λ (r : CallRow). Handles (with_opened h.reads.opened r))
              (ap by_tag h.tag ∙ ap (λ (r : Result Message BytesFault). on_answer b t callee cookie (end_in r)) h.read
              ∙ ap (on_answer b t callee cookie) (ap by_type h.type_ ∙ ap (end_by h.message) h.body));
          own_is = refl;
          link = refl;
          sends = refl;
          save = refl;
          entered = refl;
        }

    -- ACK: what was acknowledged waits no more
    pub forgets : (h : HearsAck a s) (session : HeldSession) → a.own.session ≡ Some session
        → HandsOn (record a.own { session = Some (acknowledged_up_to h.ack.seq session) }) h.reads.behind (Open (under s h.reads.keys) callee cookie) [] [] (turned_at a (Open s callee cookie))
    forgets h session held =
        let b : CallArrival = at a h.reads.behind in
        let t : Secured = under s h.reads.keys in
        let f : Frame = h.reads.frame in
        let by_tag : ℕ → CallRow = λ n.
        if n == 18 then on_keepalive b t (λ u. Open u callee cookie) (payload keepalive2_layout.form f)
        else if n == 19 then on_keepalive_ack b t (λ u. Open u callee cookie) (payload keepalive2_ack_layout.form f)
        else if n == 20 then on_ack b t callee cookie (payload ack_layout.form f)
        else on_answer b t callee cookie (end_in (message_in f)) in
        record {
          row = with_opened h.reads.opened (goes_on (holding_session b (Some (acknowledged_up_to h.ack.seq session))) (Open t callee cookie) [] []);
          handles = ap (turned_by (λ ((l, g, k) : Link CallStage × Frame × Keys) o.
              with_opened o (on_upkeep_or (on_answer_or_ack (at a l) (under s k) callee cookie) (at a l) (under s k) (λ u. Open u callee cookie) g))) h.reads.next
              ∙ ap (λ (r : CallRow). Handles (with_opened h.reads.opened r))
              (ap by_tag h.tag ∙ ap (on_ack b t callee cookie) h.payload ∙ ap (acknowledges b t callee cookie h.ack.seq) held);
          own_is = refl;
          link = refl;
          sends = refl;
          save = refl;
          entered = refl;
        }
