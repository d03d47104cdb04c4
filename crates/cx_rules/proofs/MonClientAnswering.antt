-- One that asks the monitor hands its link on, at each stage of a login and at each reply.
use Rattle.std.proofs.Common.{◌≡◌, ℕ, ◌==◌, ◌+◌, ◌≤◌, Bool, true, false, List, [], ◌∷◌, ◌++◌, length, Option, Some, None, Result, Ok, Err, refl, sym, ap, subst, ◌∙◌, arith, length-append}
use Rattle.std.specs.Prelude.{if◌then◌else◌, not, take}
use Rattle.std.specs.Int.{w16, w64}
use Rattle.std.proofs.lemmas.Bool.{eq-eqb}
use Rattle.cx_base.specs.Names.{is_daemon_type}
use Rattle.cx_base.specs.declared.kinds.EntityType.{EntityType}
use Rattle.cx_base.specs.declared.kinds.EntityType.TheVariants.{Mon, Mds, Osd, Client, Mgr, Auth}
use Rattle.cx_keyserver.specs.cx_dice.specs.Draws.{challenge_of, cookie_of}
use Rattle.cx_keyserver.specs.cx_sealed.specs.Records.{rotating_reply_layout}
use Rattle.cx_keyserver.specs.cx_sealed.specs.declared.rotating_reply.RotatingReply.{RotatingReply}
use Rattle.cx_login.specs.Held.{Held}
use Rattle.cx_login.specs.Unlocking.{Unlocked, login_in, told_each, unlocked}
use Rattle.cx_login.specs.declared.client.LoggedIn.{LoggedIn}
use Rattle.cx_login.specs.cx_control.specs.Auth.{auth_done_layout, auth_reply_more_layout, auth_signature_layout}
use Rattle.cx_login.specs.cx_control.specs.BadMethod.{bad_method_layout}
use Rattle.cx_login.specs.cx_control.specs.Hello.{hello_layout}
use Rattle.cx_login.specs.cx_control.specs.Idents.{client_ident_layout, ident_missing_features_layout, server_ident_layout}
use Rattle.cx_login.specs.cx_control.specs.Upkeep.{keepalive2_ack_layout, keepalive2_layout}
use Rattle.cx_login.specs.cx_control.specs.declared.auth.AuthDone.{AuthDone}
use Rattle.cx_login.specs.cx_control.specs.declared.auth.AuthReplyMore.{AuthReplyMore}
use Rattle.cx_login.specs.cx_control.specs.declared.auth.AuthSignature.{AuthSignature}
use Rattle.cx_login.specs.cx_control.specs.declared.hello.Hello.{Hello}
use Rattle.cx_login.specs.cx_control.specs.declared.idents.ClientIdent.{ClientIdent}
use Rattle.cx_login.specs.cx_control.specs.declared.idents.ServerIdent.{ServerIdent}
use Rattle.cx_login.specs.cx_enc.specs.Forms.{little}
use Rattle.cx_login.specs.cx_enc.specs.Values.{addr_form, kind_form}
use Rattle.cx_login.specs.cx_journal.specs.declared.faults.BytesFault.{BytesFault}
use Rattle.cx_login.specs.cx_journal.specs.declared.faults.BytesFault.TheVariants.{Unexpected}
use Rattle.cx_login.specs.cx_journal.specs.declared.faults.LoginFault.TheVariants.{Mode, SignatureWrong}
use Rattle.cx_login.specs.cx_journal.specs.declared.outcomes.Reason.{Reason}
use Rattle.cx_login.specs.cx_journal.specs.declared.outcomes.Reason.TheVariants as reason
use Rattle.cx_login.specs.cx_journal.specs.declared.premises.KeyKind.TheVariants.{Principal}
use Rattle.cx_login.specs.cx_steps.specs.declared.seals.DrawMark.TheVariants as draw
use Rattle.cx_login.specs.cx_steps.specs.declared.seals.SealEntry.{SealEntry}
use Rattle.cx_login.specs.cx_steps.specs.declared.seals.SealEntry.TheVariants as entry
use Rattle.cx_login.specs.cx_wire.specs.Bodies.{reply_layout}
use Rattle.cx_login.specs.cx_wire.specs.Logins.{login_done_layout, server_challenge_layout}
use Rattle.cx_login.specs.cx_wire.specs.declared.bodies.Reply.{Reply}
use Rattle.cx_login.specs.cx_wire.specs.declared.bodies.Reply.TheVariants as given
use Rattle.cx_login.specs.cx_wire.specs.declared.logins.LoginDone.{LoginDone}
use Rattle.cx_login.specs.cx_wire.specs.declared.logins.ServerChallenge.{ServerChallenge}
use Rattle.cx_login.specs.cx_wire.specs.declared.tickets.TicketPart.{TicketPart}
use Rattle.cx_stream.specs.cx_digest.specs.Code.{hmac}
use Rattle.cx_stream.specs.cx_frame.specs.Frames.{frame_text, total}
use Rattle.cx_stream.specs.cx_frame.specs.declared.frame.Frame.{Frame}
use Rattle.cx_rules.specs.MonClientAnswering.{HearsChallenge, HearsHelloOf, HearsLogin, HearsReply, HearsRightSignature, HearsServerIdent, own_signature, proof_frame}
use Rattle.cx_rules.specs.Carrying.{HandsOn}
use Rattle.cx_rules.specs.Connector.{AwaitsBanner, AwaitsHello, AwaitsChallenge, AwaitsDone, AwaitsSignature, AwaitsIdent, Open, Login, MonClientArrival, MonClientRow, Stage, client_ident, holding, login_request, on_bad_method, on_banner, on_challenge, on_done, on_hello, on_login_done, on_missing_features, on_opened, on_reply_more, on_signature, proof_made, proves, signs, turned_at, while_challenged, while_identified, while_proved}
use Rattle.cx_rules.specs.Fronts.{Next, banner_next, plain_next, secure_next}
use Rattle.cx_rules.specs.Greetings.{own_hello}
use Rattle.cx_rules.specs.Holdings.{MonClient, held_login}
use Rattle.cx_rules.specs.Links.{Link}
use Rattle.cx_rules.specs.Messages.{Message, body_as, message_in, on_upkeep_or}
use Rattle.cx_rules.specs.Payloads.{control, due, payload, whole}
use Rattle.cx_rules.specs.Requests.{Requests, asks_rotating, behind_reply, behind_request, body_taken, fetched_entry, message_taken, no_requests, on_open, on_reply, on_server_ident, opens_to, reply_taken, request_message, rotating_taken, sealed_request, sends_request, takes, tickets_taken, unless_unsealed, waiting_taken, with_tickets, with_view}
use Rattle.cx_rules.specs.Rows.{Handles, at, goes_on, plain_sent, refuses, secure_sent, turned_by, with_opened}
use Rattle.cx_rules.specs.Secured.{Keys, SealedFrame, Secured, connector_keys, is_signed, plain_frame, sealed_under, secure_frame, signature, signature_found, signing, under}
use Rattle.cx_rules.specs.Upkeep.{on_keepalive, on_keepalive_ack}
use Rattle.cx_rules.specs.declared.messages.Body.{Body}
use Rattle.cx_rules.specs.declared.requests.Taken.{Taken}
use Rattle.cx_rules.specs.declared.requests.Taken.TheVariants.{Refuses, Holds, Views}
use Rattle.cx_rules.specs.declared.requests.Waiting.{Waiting}
use Rattle.cx_rules.specs.declared.requests.Want.{Want}
use Rattle.cx_rules.specs.declared.requests.Want.TheVariants.{Tickets, Rotating}
use Rattle.cx_rules.proofs.Carrying.{short-client_ident, total-message}
use Rattle.cx_login.specs.cx_wire.specs.Bodies.{request_layout}
use Rattle.cx_login.specs.cx_wire.specs.declared.bodies.Request.TheVariants as asked
use Rattle.cx_rules.proofs.Sizes.{few-parts, length-code, plain-sent, secure-sent}

short-hello : (kind : EntityType) → total (own_hello kind) ≤ 65536
unfolding little addr_form kind_form
short-hello kind = omega arith

short-first : total (request_message 1 asked.Rotating) ≤ 1048576
unfolding little
short-first =
    let body : List ℕ = request_layout.form.text asked.Rotating in
    let size : length body ≡ 7 = refl in
    omega (arith, total-message (record { seq = 1; tid = 1; type_ = 17 }) body, size)

module _ (a : MonClientArrival) where
  -- the peer's banner: HELLO is sent
  pub greets : (asked : ℕ) (behind : Link Stage) → banner_next a.link ≡ Next behind [] → HandsOn a.own behind (AwaitsHello asked) (frame_text (own_hello a.own.name.kind)) [] (turned_at a (AwaitsBanner asked))
  greets asked behind next = record {
    row = goes_on (at a behind) (AwaitsHello asked) (frame_text (own_hello a.own.name.kind)) [];
    handles = ap (turned_by (λ (l : Link Stage) _. on_banner (at a l) asked)) next
        ∙ ap (λ (r : Result (List ℕ) BytesFault). Handles (plain_sent (at a behind) (AwaitsHello asked) [] r)) (plain-sent (own_hello a.own.name.kind) (short-hello a.own.name.kind));
    own_is = refl;
    link = refl;
    sends = refl;
    save = refl;
    entered = refl;
  }

  -- HELLO: AUTH_REQUEST is sent
  pub asks : (asked : ℕ) (h : HearsHelloOf a) → HandsOn a.own h.reads.behind (AwaitsChallenge asked) (frame_text (login_request a.own)) [] (turned_at a (AwaitsHello asked))
  asks asked h =
      let b : MonClientArrival = at a h.reads.behind in
      record {
        row = goes_on b (AwaitsChallenge asked) (frame_text (login_request a.own)) [];
        handles = ap (turned_by (λ ((l, f) : Link Stage × Frame) _. on_hello (at a l) asked (due 1 hello_layout.form f))) h.reads.next
            ∙ ap (λ (r : Result Hello BytesFault). Handles (on_hello b asked r)) h.payload
            ∙ ap (λ (r : Result (List ℕ) BytesFault). Handles (plain_sent b (AwaitsChallenge asked) [] r)) (plain-sent (login_request a.own) h.short);
        own_is = refl;
        link = refl;
        sends = refl;
        save = refl;
        entered = refl;
      }

  -- a challenge: the proof is sent
  pub proves-it : (asked : ℕ) (h : HearsChallenge a asked) → HandsOn a.own h.reads.behind AwaitsDone (frame_text (proof_frame a asked h.server)) [] (turned_at a (AwaitsChallenge asked))
  proves-it asked h =
      let b : MonClientArrival = at a h.reads.behind in
      let f : Frame = h.reads.frame in
      let by_tag : ℕ → MonClientRow = λ n.
      if n == 3 then on_bad_method b (payload bad_method_layout.form f)
      else on_reply_more b asked (if n == 4 then payload auth_reply_more_layout.form f else Err (Unexpected n)) in
      record {
        row = goes_on b AwaitsDone (frame_text (proof_frame a asked h.server))
            (entry.Drawn (draw.Challenge (challenge_of a.draw)) ∷ proof_made a.own.secret h.server.challenge (challenge_of a.draw) ∷ []);
        handles = ap (turned_by (λ ((l, g) : Link Stage × Frame) _. while_challenged (at a l) asked g)) h.reads.next
            ∙ ap (λ (r : MonClientRow). Handles r)
            (ap by_tag h.tag ∙ ap (on_reply_more b asked) h.payload ∙ ap (on_challenge b asked) h.read ∙ ap (proves b h.server.challenge) (plain-sent (proof_frame a asked h.server) h.short));
        own_is = refl;
        link = refl;
        sends = refl;
        save = refl;
        entered = refl;
      }

  -- AUTH_DONE: AUTH_SIGNATURE is sent
  pub takes-login : (h : HearsLogin a)
      → HandsOn a.own h.reads.behind
      (AwaitsSignature (record { keys = (own_signature h.logged_in (take h.reads.behind.taken h.reads.behind.received)).keys; session = h.logged_in.auth.session; covered = h.reads.behind.sent })
      (record { gid = h.done.gid; opened = h.logged_in }))
      (own_signature h.logged_in (take h.reads.behind.taken h.reads.behind.received)).bytes [] (turned_at a AwaitsDone)
  takes-login h =
      let b : MonClientArrival = at a h.reads.behind in
      let f : Frame = h.reads.frame in
      let received : List ℕ = take h.reads.behind.taken h.reads.behind.received in
      let login : Login = record { gid = h.done.gid; opened = h.logged_in } in
      let opened : List SealEntry = (login_in a.own.secret h.login).seals in
      let sealed : SealedFrame = own_signature h.logged_in received in
      let session : List ℕ = h.logged_in.auth.session in
      let own : Frame = control 7 auth_signature_layout.form (record { signature = hmac session received }) in
      let signed : SealedFrame = record sealed { seals = signature session received ∷ sealed.seals } in
      let by_tag : ℕ → MonClientRow = λ n.
      if n == 3 then on_bad_method b (payload bad_method_layout.form f)
      else on_done b (if n == 6 then payload auth_done_layout.form f else Err (Unexpected n)) in
      let by_mode : ℕ → MonClientRow = λ n.
      if not (n == 2) then refuses b (reason.Login Mode) [] else on_login_done b h.done.gid (whole login_done_layout.form h.done.payload) in
      record {
        row = goes_on b (AwaitsSignature (record { keys = sealed.keys; session = session; covered = h.reads.behind.sent }) login) sealed.bytes (opened ++ signed.seals);
        handles = ap (turned_by (λ ((l, g) : Link Stage × Frame) _. while_proved (at a l) g)) h.reads.next
            ∙ ap (λ (r : MonClientRow). Handles r)
            (ap by_tag h.tag ∙ ap (on_done b) h.payload ∙ ap by_mode h.mode ∙ ap (on_login_done b h.done.gid) h.read ∙ ap (on_opened b h.done.gid opened) h.opens
            ∙ ap (λ (r : Result SealedFrame BytesFault). signs b login opened (signing session received r))
            (secure-sent (connector_keys h.logged_in.secret) own (omega (arith, few-parts own, h.counters)) (omega (arith, length-code session received))));
        own_is = refl;
        link = refl;
        sends = refl;
        save = refl;
        entered = refl;
      }

  -- the monitor's signature: the login is held, and CLIENT_IDENT is sent
  pub holds : (s : Secured) (login : Login) (h : HearsRightSignature a s)
      → HandsOn (record a.own { holdings = held_login a.own.holdings login.gid login.opened }) h.reads.behind
      (AwaitsIdent (under s (sealed_under h.reads.keys (client_ident a.own login.gid 1 (cookie_of a.draw))).keys) login.opened.auth.session)
      (sealed_under h.reads.keys (client_ident a.own login.gid 1 (cookie_of a.draw))).bytes [] (turned_at a (AwaitsSignature s login))
  holds s login h =
      let b : MonClientArrival = at a h.reads.behind in
      let t : Secured = under s h.reads.keys in
      let f : Frame = client_ident a.own login.gid 1 (cookie_of a.draw) in
      let sealed : SealedFrame = sealed_under h.reads.keys f in
      let c : MonClientArrival = holding b (held_login a.own.holdings login.gid login.opened) in
      let seals : List SealEntry = signature_found t ∷ entry.Drawn (draw.Cookie (cookie_of a.draw)) ∷ [] in
      let made : secure_frame h.reads.keys f ≡ Ok sealed = secure-sent h.reads.keys f (omega (arith, few-parts f, h.reads.counters)) (short-client_ident a.own login.gid 1 (cookie_of a.draw) h.address) in
      let stage_of : Secured → Stage = λ u. AwaitsIdent u login.opened.auth.session in
      let by_test : Bool → MonClientRow = λ is. if is then secure_sent c t stage_of seals (secure_frame h.reads.keys f) else refuses b (reason.Login SignatureWrong) [] in
      record {
        row = with_opened h.reads.opened (goes_on c (AwaitsIdent (under s sealed.keys) login.opened.auth.session) sealed.bytes (seals ++ sealed.seals));
        handles = ap (turned_by (λ ((l, g, k) : Link Stage × Frame × Keys) o. with_opened o (on_signature (at a l) (under s k) login (due 7 auth_signature_layout.form g)))) h.reads.next
            ∙ ap (λ (r : MonClientRow). Handles (with_opened h.reads.opened r))
            (ap (on_signature b t login) h.payload ∙ ap by_test h.right ∙ ap (secure_sent c t stage_of seals) made);
        own_is = refl;
        link = refl;
        sends = refl;
        save = refl;
        entered = refl;
      }

  -- ---- SERVER_IDENT

  module _ (s : Secured) (session : List ℕ) (h : HearsServerIdent a s) where
    abbrev b : MonClientArrival
    b = at a h.reads.behind

    abbrev t : Secured
    t = under s h.reads.keys

    ident-read : turned_at a (AwaitsIdent s session) ≡ Handles (with_opened h.reads.opened (opens_to Open b t (no_requests session)))
    ident-read =
        let f : Frame = h.reads.frame in
        let by_tag : ℕ → MonClientRow = λ n.
        if n == 10 then on_missing_features b (payload ident_missing_features_layout.form f)
        else on_server_ident Open b t session (if n == 9 then payload server_ident_layout.form f else Err (Unexpected n)) in
        ap (turned_by (λ ((l, g, k) : Link Stage × Frame × Keys) o. with_opened o (while_identified (at a l) (under s k) session g))) h.reads.next
        ∙ ap (λ (r : MonClientRow). Handles (with_opened h.reads.opened r)) (ap by_tag h.tag ∙ ap (on_server_ident Open b t session) h.payload)

    -- a client's link is open
    pub opens-client : is_daemon_type a.own.name.kind ≡ false → HandsOn a.own h.reads.behind (Open t (no_requests session)) [] [] (turned_at a (AwaitsIdent s session))
    opens-client is = record {
      row = with_opened h.reads.opened (goes_on b (Open t (no_requests session)) [] []);
      handles = ident-read
          ∙ ap (λ (d : Bool). Handles (with_opened h.reads.opened (if d then asks_rotating Open b t (no_requests session) else goes_on b (Open t (no_requests session)) [] []))) is;
      own_is = refl;
      link = refl;
      sends = refl;
      save = refl;
      entered = refl;
    }

    abbrev request : Frame
    request = request_message 1 asked.Rotating

    -- a daemon's is too, and it asks for the generations of its type
    pub opens-daemon : is_daemon_type a.own.name.kind ≡ true
        → HandsOn a.own h.reads.behind (Open (under s (sealed_under h.reads.keys request).keys) (behind_request (no_requests session) (Rotating a.reading))) (sealed_under h.reads.keys request).bytes []
        (turned_at a (AwaitsIdent s session))
    opens-daemon is =
        let sealed : SealedFrame = sealed_under h.reads.keys request in
        record {
          row = with_opened h.reads.opened (goes_on b (Open (under s sealed.keys) (behind_request (no_requests session) (Rotating a.reading))) sealed.bytes sealed.seals);
          handles = ident-read
              ∙ ap (λ (d : Bool). Handles (with_opened h.reads.opened (if d then asks_rotating Open b t (no_requests session) else goes_on b (Open t (no_requests session)) [] []))) is
              ∙ ap (λ (r : Result SealedFrame BytesFault). Handles (with_opened h.reads.opened (sends_request Open b t (no_requests session) (Rotating a.reading) (unless_unsealed r))))
              (secure-sent h.reads.keys request (omega (arith, few-parts request, h.reads.counters)) short-first);
          own_is = refl;
          link = refl;
          sends = refl;
          save = refl;
          entered = refl;
        }

  -- ---- a reply

  module _ (s : Secured) (r : Requests) (want : Want) (reply : Reply) (h : HearsReply a s r want reply) where
    abbrev c : MonClientArrival
    c = at a h.reads.behind

    abbrev u : Secured
    u = under s h.reads.keys

    reply-read : turned_at a (Open s r) ≡ Handles (with_opened h.reads.opened (takes Open c u r (reply_taken a.own.secret r.session want reply)))
    reply-read =
        let f : Frame = h.reads.frame in
        let m : Message = h.message in
        let by_tag : ℕ → MonClientRow = λ n.
        if n == 18 then on_keepalive c u (λ v. Open v r) (payload keepalive2_layout.form f)
        else if n == 19 then on_keepalive_ack c u (λ v. Open v r) (payload keepalive2_ack_layout.form f) else on_reply Open c u r f in
        let by_type : ℕ → Taken = λ n. if n == 18 then body_taken a.own.secret r m.header.tid (body_as reply_layout.form m.body) else Refuses (reason.Bytes (Unexpected 17)) [] in
        let same : (m.header.tid == m.header.tid) ≡ true = eq-eqb m.header.tid m.header.tid refl in
        let by_test : Bool → Taken = λ is. if is then reply_taken a.own.secret r.session want reply else Refuses reason.BadReply [] in
        ap (turned_by (λ ((l, g, k) : Link Stage × Frame × Keys) o. with_opened o (on_open Open (at a l) (under s k) r g))) h.reads.next
        ∙ ap (λ (row : MonClientRow). Handles (with_opened h.reads.opened row))
        (ap by_tag h.tag
        ∙ ap (takes Open c u r)
        (ap (message_taken a.own.secret r) h.read ∙ ap by_type h.type_ ∙ ap (body_taken a.own.secret r m.header.tid) h.spelled
        ∙ ap (λ (waiting : List Waiting). waiting_taken a.own.secret r.session waiting m.header.tid reply) h.waiting ∙ ap by_test same))

  -- tickets that all open are held, and the request waits no more
  pub takes-tickets : (s : Secured) (r : Requests) (parts : List TicketPart) (held : List Held) (h : HearsReply a s r Tickets (given.Tickets parts)) → (told_each r.session parts).value ≡ Some held
      → HandsOn (with_tickets a.own held) h.reads.behind (Open (under s h.reads.keys) (behind_reply r)) [] [] (turned_at a (Open s r))
  takes-tickets s r parts held h opens =
      let b : MonClientArrival = at a h.reads.behind in
      let t : Secured = under s h.reads.keys in
      record {
        row = with_opened h.reads.opened (takes Open b t r (Holds held (told_each r.session parts).seals));
        handles = reply-read s r Tickets (given.Tickets parts) h
            ∙ ap (λ (o : Option (List Held)). Handles (with_opened h.reads.opened (takes Open b t r (tickets_taken (told_each r.session parts).seals o)))) opens;
        own_is = refl;
        link = refl;
        sends = refl;
        save = refl;
        entered = refl;
      }

  -- generations that open become the view, and that they were fetched is entered
  pub takes-generations : (s : Secured) (r : Requests) (reading : ℕ) (blob : List ℕ) (told : RotatingReply) (h : HearsReply a s r (Rotating reading) (given.Rotating blob))
      → (unlocked rotating_reply_layout.form Principal a.own.secret blob).value ≡ Some told
      → HandsOn (with_view a.own reading told.generations) h.reads.behind (Open (under s h.reads.keys) (behind_reply r)) [] (fetched_entry a.own.name reading told.generations ∷ []) (turned_at a (Open s r))
  takes-generations s r reading blob told h opens =
      let b : MonClientArrival = at a h.reads.behind in
      let t : Secured = under s h.reads.keys in
      let opened : List SealEntry = (unlocked rotating_reply_layout.form Principal a.own.secret blob).seals in
      record {
        row = with_opened h.reads.opened (takes Open b t r (Views reading told.generations opened));
        handles = reply-read s r (Rotating reading) (given.Rotating blob) h
            ∙ ap (λ (o : Option RotatingReply). Handles (with_opened h.reads.opened (takes Open b t r (rotating_taken reading opened o)))) opens;
        own_is = refl;
        link = refl;
        sends = refl;
        save = refl;
        entered = refl;
      }
