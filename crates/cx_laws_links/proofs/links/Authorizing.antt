-- A client's link to a daemon until it has a key: what each of its rows seals, and where its nonce stands. One is drawn and shown at HELLO, shown again
-- behind the daemon's challenge, and a reply to it gives the link its key, under which AUTH_SIGNATURE is spoken first.
use Rattle.std.proofs.Common.{◌≡◌, ℕ, ◌==◌, Bool, true, false, List, [], ◌∷◌, ◌++◌, take, Option, Some, None, Result, Ok, Err, inl, inr, ◌⊎◌, refl, sym, ap, ◌∙◌, subst, append-nil, append_assoc}
use Rattle.std.proofs.lemmas.Bool.{eqb-true}
use Rattle.std.specs.Prelude.{not, if◌then◌else◌}
use Rattle.std.specs.List.{AllByRecursion}
use Rattle.cx_laws_tickets.specs.cx_run.specs.cx_authorize.specs.Client.{Answered, Presented, challenge_in, reply_in}
use Rattle.cx_laws_tickets.specs.cx_run.specs.cx_authorize.specs.Verdict.{raised}
use Rattle.cx_base.specs.Names.{Name}
use Rattle.cx_base.specs.declared.operations.Operation.{Operation}
use Rattle.cx_control.specs.Auth.{auth_done_layout, auth_reply_more_layout, auth_signature_layout}
use Rattle.cx_control.specs.BadMethod.{bad_method_layout, kept_method}
use Rattle.cx_control.specs.Hello.{hello_layout}
use Rattle.cx_control.specs.declared.auth.AuthDone.{AuthDone}
use Rattle.cx_control.specs.declared.auth.AuthReplyMore.{AuthReplyMore}
use Rattle.cx_control.specs.declared.hello.Hello.{Hello}
use Rattle.cx_dice.specs.Draws.{challenge_of}
use Rattle.cx_digest.specs.Code.{hmac}
use Rattle.cx_frame.specs.declared.frame.Frame.{Frame}
use Rattle.cx_journal.specs.declared.faults.BytesFault.{BytesFault}
use Rattle.cx_journal.specs.declared.faults.LoginFault.TheVariants.{Mode, NonceWrong, Unopened}
use Rattle.cx_journal.specs.declared.outcomes.Reason.{Reason}
use Rattle.cx_journal.specs.declared.outcomes.Reason.TheVariants as reason
use Rattle.cx_laws_keys.specs.cx_rules.specs.Fronts.{banner_next, plain_next}
use Rattle.cx_laws_keys.specs.cx_rules.specs.Greetings.{own_hello}
use Rattle.cx_laws_keys.specs.cx_rules.specs.Links.{Link}
use Rattle.cx_laws_keys.specs.cx_rules.specs.Messages.{sealed_behind, sealed_then, secure_frames}
use Rattle.cx_laws_keys.specs.cx_rules.specs.Payloads.{control, due, payload, whole}
use Rattle.cx_laws_keys.specs.cx_rules.specs.Rows.{at, goes_on, plain_sent, refuses, turned_by, unless_refused}
use Rattle.cx_laws_keys.specs.cx_rules.specs.Secured.{SealedFrame, Secured, connector_keys, plain_frame, secure_frame, signature, signed_frame, signing}
use Rattle.cx_laws_tickets.specs.cx_run.specs.cx_rules_session.specs.Envelopes.{authorize_content, sends_holding, session_sealed}
use Rattle.cx_laws_tickets.specs.cx_run.specs.cx_rules_session.specs.Presenter.{CallArrival, CallRow, CallStage, AwaitsBanner, AwaitsHello, AwaitsChallenge, AwaitsDone, AwaitsSignature, callee_of, answers_challenge, first_frame, on_authorize_reply, on_bad_method, on_banner, on_challenge, on_done, on_hello, on_reply_more, on_unlocked, presented, presents, second_frame, signs, turned_at, while_answered, while_challenged}
use Rattle.cx_laws_tickets.specs.cx_run.specs.cx_rules_session.specs.Sessions.{Called, Callee, HeldSession}
use Rattle.cx_cbc.specs.Opened.{opened}
use Rattle.cx_enc.specs.Forms.{Form}
use Rattle.cx_journal.specs.declared.premises.KeyKind.{KeyKind}
use Rattle.cx_journal.specs.declared.premises.KeyKind.TheVariants as kind
use Rattle.cx_laws_keys.specs.cx_login.specs.Unlocking.{unlocked, unlocked_as}
use Rattle.cx_laws_keys.specs.cx_sealed.specs.Records as records
use Rattle.cx_laws_keys.specs.cx_sealed.specs.Unsealing.{unsealed_as}
use Rattle.cx_laws_keys.specs.cx_sealed.specs.declared.authorize_challenge.AuthorizeChallenge.{AuthorizeChallenge}
use Rattle.cx_laws_keys.specs.cx_sealed.specs.declared.authorize_reply.AuthorizeReply.{AuthorizeReply}
use Rattle.cx_steps.specs.declared.seals.DrawMark.TheVariants as draw
use Rattle.cx_steps.specs.declared.seals.SealEntry.{SealEntry}
use Rattle.cx_steps.specs.declared.seals.SealEntry.TheVariants as entry
use Rattle.cx_laws_keys.specs.cx_wire.specs.Logins.{authorize_challenge_layout, authorize_reply_layout}
use Rattle.cx_laws_keys.specs.cx_wire.specs.declared.authorizers.AuthorizeChallenge as shown_challenge
use Rattle.cx_laws_keys.specs.cx_wire.specs.declared.authorizers.AuthorizeReply as shown_reply
use Rattle.cx_laws_tickets.specs.cx_run.proofs.Taking.{EachRow, each-turned}
use Rattle.cx_laws_links.proofs.links.CallWords.{AreQuiet, HeldAt, KeyedStage, OneWord, Says, SignedOn, quiet-append, pending_of}
use Rattle.cx_laws_links.proofs.links.Spoken.{Signs, frame_of}

-- ---- what rows come to until the link has a key

-- nothing is sealed; the link is shut, or goes on without a nonce of its own
pub record ShowsNothing (a : CallArrival) (called : Called) (row : CallRow) : Type 0 where
  pub quiet : AreQuiet row.seals
  pub link : (link : Link CallStage) → row.link ≡ Some link → (link.stage ≡ AwaitsHello called) × (link.number ≡ a.link.number)

-- nothing is sealed but under this session key; the link is shut
pub record ShutsQuietly (row : CallRow) : Type 0 where
  pub quiet : AreQuiet row.seals
  pub link : row.link ≡ None

-- a nonce is drawn and shown, under the session key of what is presented
pub record ShowsFirst (a : CallArrival) (callee : Callee) (p : Presented) (row : CallRow) : Type 0 where
  pub seals : row.seals ≡ entry.Drawn (draw.Nonce p.nonce) ∷ session_sealed p.held.session (authorize_content p.nonce None) ∷ []
  pub link : (link : Link CallStage) → row.link ≡ Some link → (link.stage ≡ AwaitsChallenge callee p) × (link.number ≡ a.link.number)

-- it is shown again, behind what opened
pub record ShowsAgain (a : CallArrival) (callee : Callee) (p : Presented) (row : CallRow) : Type 0 where
  pub opened : List SealEntry
  pub quiet : AreQuiet opened
  pub content : List ℕ
  pub seals : row.seals ≡ opened ++ session_sealed p.held.session content ∷ []
  pub link : (link : Link CallStage) → row.link ≡ Some link → (link.stage ≡ AwaitsDone callee (record { session = p.held.session; nonce = p.nonce })) × (link.number ≡ a.link.number)

-- a reply to it opened, whose secret gives the link its key: AUTH_SIGNATURE is spoken
pub record SpeaksFirst (W : ℕ → ℕ × Operation → Type 0) (a : CallArrival) (callee : Callee) (answered : Answered) (row : CallRow) : Type 0 where
  pub sealed : List ℕ
  pub reply : AuthorizeReply
  pub opened : (reply_in answered.session sealed).value ≡ Some reply
  pub answers : reply.nonce_plus_one ≡ raised answered.nonce
  pub front : List SealEntry
  pub seals : row.seals ≡ (reply_in answered.session sealed).seals ++ front
  pub says : Says W a.link.number callee (record { keys = connector_keys reply.secret; session = answered.session; covered = a.link.sent }) None row

-- ---- the ways in which they end

shuts-quietly : (a : CallArrival) (why : Reason) (seals : List SealEntry) → AreQuiet seals → ShutsQuietly (refuses a why seals)
shuts-quietly a why seals quiet = record { quiet = quiet; link = refl }

pub banner-row : (a : CallArrival) (called : Called) → ShowsNothing a called (on_banner a called)
banner-row a called = by_sent (plain_frame (own_hello a.own.mon_client.name.kind))
  where
    by_sent : (r : Result (List ℕ) BytesFault) → ShowsNothing a called (plain_sent a (AwaitsHello called) [] r)
    by_sent (Err why) = record { quiet = tt; link = λ link is. absurd cc }
    by_sent (Ok bytes) = record {
      quiet = tt;
      link = λ link is.
          let it : record a.link { stage = AwaitsHello called } ≡ link = cc in
          (ap (λ (l : Link CallStage). l.stage) (sym it), ap (λ (l : Link CallStage). l.number) (sym it));
    }

-- HELLO: one is shown, or the link is shut
abbrev presented_row : CallArrival → Callee → Presented → Result (List ℕ) BytesFault → CallRow
presented_row a callee p r = unless_refused a (entry.Drawn (draw.Nonce p.nonce) ∷ []) r (λ bytes.
    goes_on a (AwaitsChallenge callee p) bytes ((entry.Drawn (draw.Nonce p.nonce) ∷ []) ++ session_sealed p.held.session (authorize_content p.nonce None) ∷ []))

presented-row : (a : CallArrival) (callee : Callee) (p : Presented) (r : Result (List ℕ) BytesFault) → ShutsQuietly (presented_row a callee p r) ⊎ ShowsFirst a callee p (presented_row a callee p r)
presented-row a callee p (Err why) = inl (shuts-quietly a (reason.Bytes why) (entry.Drawn (draw.Nonce p.nonce) ∷ []) (tt, tt))
presented-row a callee p (Ok bytes) = inr (record {
  seals = refl;
  link = λ link is.
      let it : record a.link { stage = AwaitsChallenge callee p } ≡ link = cc in
      (ap (λ (l : Link CallStage). l.stage) (sym it), ap (λ (l : Link CallStage). l.number) (sym it));
})

pub hello-row : (a : CallArrival) (called : Called) (read : Result Hello BytesFault)
    → ShutsQuietly (on_hello a called read) ⊎ ShowsFirst a called.callee (presented called a.own.mon_client (challenge_of a.draw)) (on_hello a called read)
hello-row a called (Err why) = inl (shuts-quietly a (reason.Bytes why) [] tt)
hello-row a called (Ok hello) =
    let p : Presented = presented called a.own.mon_client (challenge_of a.draw) in
    presented-row a called.callee p (plain_frame (first_frame a.own.mon_client p))

-- ---- the daemon's challenge

abbrev Challenged : CallArrival → Callee → Presented → CallRow → Type 0
Challenged a callee p row = ShutsQuietly row ⊎ ShowsAgain a callee p row

abbrev answered_row : CallArrival → Callee → Presented → List SealEntry → List ℕ → Result (List ℕ) BytesFault → CallRow
answered_row a callee p opened content r = unless_refused a opened r (λ bytes.
    goes_on a (AwaitsDone callee (record { session = p.held.session; nonce = p.nonce })) bytes (opened ++ session_sealed p.held.session content ∷ []))

answered-row : (a : CallArrival) (callee : Callee) (p : Presented) (opened : List SealEntry) (content : List ℕ) → AreQuiet opened → (r : Result (List ℕ) BytesFault)
    → Challenged a callee p (answered_row a callee p opened content r)
answered-row a callee p opened content quiet (Err why) = inl (shuts-quietly a (reason.Bytes why) opened quiet)
answered-row a callee p opened content quiet (Ok bytes) = inr (record {
  opened = opened;
  quiet = quiet;
  content = content;
  seals = refl;
  link = λ link is.
      let it : record a.link { stage = AwaitsDone callee (record { session = p.held.session; nonce = p.nonce }) } ≡ link = cc in
      (ap (λ (l : Link CallStage). l.stage) (sym it), ap (λ (l : Link CallStage). l.number) (sym it));
})

answers-row : (a : CallArrival) (callee : Callee) (p : Presented) (opened : List SealEntry) → AreQuiet opened → (value : Option AuthorizeChallenge) → Challenged a callee p (answers_challenge a callee p opened value)
answers-row a callee p opened quiet None = inl (shuts-quietly a (reason.Login Unopened) opened quiet)
answers-row a callee p opened quiet (Some asked) =
    answered-row a callee p opened (authorize_content p.nonce (Some asked.challenge)) quiet (plain_frame (second_frame p asked.challenge))

-- what opens of an envelope is quiet
unlocked-quiet : {X : Type 0} (form : Form X) (kind : KeyKind) (key bytes : List ℕ) → AreQuiet (unlocked form kind key bytes).seals
unlocked-quiet {X} form kind key bytes = by_opened (opened key bytes)
  where
    by_opened : (o : Option (List ℕ)) → AreQuiet (unlocked_as kind key (unsealed_as form o)).seals
    by_opened None = tt
    by_opened (Some content) = (tt, tt)

challenge-row : (a : CallArrival) (callee : Callee) (p : Presented) (read : Result shown_challenge.AuthorizeChallenge BytesFault) → Challenged a callee p (on_challenge a callee p read)
challenge-row a callee p (Err why) = inl (shuts-quietly a (reason.Bytes why) [] tt)
challenge-row a callee p (Ok shown) =
    let u = challenge_in p.held.session shown.sealed in
    answers-row a callee p u.seals (unlocked-quiet records.authorize_challenge_layout.form kind.Session p.held.session shown.sealed) u.value

bad_method-row : (a : CallArrival) (read : Result (ℕ × (ℕ × (List ℕ × List ℕ))) BytesFault) → ShutsQuietly (on_bad_method a read)
bad_method-row a (Err why) = shuts-quietly a (reason.Bytes why) [] tt
bad_method-row a (Ok fields) = shuts-quietly a (reason.Denied (kept_method fields).result) [] tt

pub challenged-row : (a : CallArrival) (callee : Callee) (p : Presented) (f : Frame) → Challenged a callee p (while_challenged a callee p f)
challenged-row a callee p f = by_test (f.tag == 3)
  where
    by_more : (read : Result AuthReplyMore BytesFault) → Challenged a callee p (on_reply_more a callee p read)
    by_more (Err why) = inl (shuts-quietly a (reason.Bytes why) [] tt)
    by_more (Ok more) = challenge-row a callee p (whole authorize_challenge_layout.form more.payload)

    by_test : (denied : Bool) → Challenged a callee p (if denied then on_bad_method a (payload bad_method_layout.form f) else on_reply_more a callee p (due 4 auth_reply_more_layout.form f))
    by_test true = inl (bad_method-row a (payload bad_method_layout.form f))
    by_test false = by_more (due 4 auth_reply_more_layout.form f)

-- ---- AUTH_DONE

signs-held : (session : Option HeldSession) (s : Secured) (callee : Callee) → HeldAt session (AwaitsSignature s callee)
signs-held None s callee = tt
signs-held (Some session) s callee = tt

module _ (W : ℕ → ℕ × Operation → Type 0) (a : CallArrival) (callee : Callee) (answered : Answered) where
  abbrev Answers : CallRow → Type 0
  Answers row = ShutsQuietly row ⊎ SpeaksFirst W a callee answered row

  abbrev received : List ℕ
  received = take a.link.taken a.link.received

  -- AUTH_SIGNATURE is spoken under the keys of the secret
  signs-row : (sealed : List ℕ) (reply : AuthorizeReply) → (reply_in answered.session sealed).value ≡ Some reply → reply.nonce_plus_one ≡ raised answered.nonce
      → Answers (signs a callee answered (reply_in answered.session sealed).seals (signed_frame (connector_keys reply.secret) answered.session received))
  signs-row sealed reply opened_as same =
      by_sealed (secure_frame (connector_keys reply.secret) (frame_of (Signs (hmac answered.session received)))) refl
    where
      opens : List SealEntry
      opens = (reply_in answered.session sealed).seals

      by_sealed : (r : Result SealedFrame BytesFault) → secure_frame (connector_keys reply.secret) (frame_of (Signs (hmac answered.session received))) ≡ r
          → Answers (signs a callee answered (reply_in answered.session sealed).seals (signing answered.session received r))
      by_sealed (Err why) e = inl (shuts-quietly a (reason.Bytes why) (reply_in answered.session sealed).seals
          (unlocked-quiet records.authorize_reply_layout.form kind.Session answered.session sealed))
      by_sealed (Ok one) e = inr (record {
        sealed = sealed;
        reply = reply;
        opened = opened_as;
        answers = same;
        front = signature answered.session received ∷ one.seals;
        seals = refl;
        says = record {
          words = Signs (hmac answered.session received) ∷ [];
          quiet = (reply_in answered.session sealed).seals ++ signature answered.session received ∷ [];
          silent = quiet-append (reply_in answered.session sealed).seals (signature answered.session received ∷ [])
              (unlocked-quiet records.authorize_reply_layout.form kind.Session answered.session sealed) (tt, tt);
          sealed = record { bytes = one.bytes ++ []; seals = one.seals ++ []; keys = one.keys };
          made = ap (λ (r : Result SealedFrame BytesFault). sealed_then r (λ first. sealed_behind first (secure_frames first.keys []))) e;
          seals = ap (λ (es : List SealEntry). (reply_in answered.session sealed).seals ++ signature answered.session received ∷ es) (sym (append-nil one.seals))
              ∙ sym (append_assoc (reply_in answered.session sealed).seals (signature answered.session received ∷ []) (one.seals ++ []));
          link = λ link is.
              let s : Secured = record { keys = one.keys; session = answered.session; covered = a.link.sent } in
              let it : record a.link { stage = AwaitsSignature s callee } ≡ link = cc in
              (s, subst (λ (l : Link CallStage). KeyedStage l.stage s None) it (SignedOn s callee), refl, ap (λ (l : Link CallStage). l.number) (sym it));
          calls = λ link is.
              let s : Secured = record { keys = one.keys; session = answered.session; covered = a.link.sent } in
              let it : record a.link { stage = AwaitsSignature s callee } ≡ link = cc in
              subst (λ (l : Link CallStage). callee_of l.stage ≡ callee) it refl;
          held = λ link is.
              let s : Secured = record { keys = one.keys; session = answered.session; covered = a.link.sent } in
              let it : record a.link { stage = AwaitsSignature s callee } ≡ link = cc in
              subst (λ (l : Link CallStage). HeldAt a.own.session l.stage) it (signs-held a.own.session s callee);
          waits = λ link is.
              let s : Secured = record { keys = one.keys; session = answered.session; covered = a.link.sent } in
              let it : record a.link { stage = AwaitsSignature s callee } ≡ link = cc in
              subst (λ (l : Link CallStage). [] ≡ pending_of l.stage) it refl;
          said = OneWord (Signs (hmac answered.session received)) tt;
        };
      })

  unlocked-row : (sealed : List ℕ) (value : Option AuthorizeReply) → (reply_in answered.session sealed).value ≡ value → Answers (on_unlocked a callee answered (reply_in answered.session sealed).seals value)
  unlocked-row sealed None e = inl (shuts-quietly a (reason.Login Unopened) (reply_in answered.session sealed).seals
      (unlocked-quiet records.authorize_reply_layout.form kind.Session answered.session sealed))
  unlocked-row sealed (Some reply) e = by_test (reply.nonce_plus_one == raised answered.nonce) refl
    where
      by_test : (same : Bool) → (reply.nonce_plus_one == raised answered.nonce) ≡ same → Answers (if same
          then signs a callee answered (reply_in answered.session sealed).seals (signed_frame (connector_keys reply.secret) answered.session received)
          else refuses a (reason.Login (NonceWrong (raised answered.nonce) reply.nonce_plus_one)) (reply_in answered.session sealed).seals)
      by_test true is = signs-row sealed reply e (eqb-true reply.nonce_plus_one (raised answered.nonce) is)
      by_test false is = inl (shuts-quietly a (reason.Login (NonceWrong (raised answered.nonce) reply.nonce_plus_one)) (reply_in answered.session sealed).seals
          (unlocked-quiet records.authorize_reply_layout.form kind.Session answered.session sealed))

  pub answered-row_at : (f : Frame) → Answers (while_answered a callee answered f)
  answered-row_at f = by_test (f.tag == 3)
    where
      by_reply : (read : Result shown_reply.AuthorizeReply BytesFault) → Answers (on_authorize_reply a callee answered read)
      by_reply (Err why) = inl (shuts-quietly a (reason.Bytes why) [] tt)
      by_reply (Ok shown) = unlocked-row shown.sealed (reply_in answered.session shown.sealed).value refl

      by_mode : (done : AuthDone) (other : Bool) → Answers (if other then refuses a (reason.Login Mode) [] else on_authorize_reply a callee answered (whole authorize_reply_layout.form done.payload))
      by_mode done true = inl (shuts-quietly a (reason.Login Mode) [] tt)
      by_mode done false = by_reply (whole authorize_reply_layout.form done.payload)

      by_done : (read : Result AuthDone BytesFault) → Answers (on_done a callee answered read)
      by_done (Err why) = inl (shuts-quietly a (reason.Bytes why) [] tt)
      by_done (Ok done) = by_mode done (not (done.mode == 2))

      by_test : (denied : Bool) → Answers (if denied then on_bad_method a (payload bad_method_layout.form f) else on_done a callee answered (due 6 auth_done_layout.form f))
      by_test true = inl (bad_method-row a (payload bad_method_layout.form f))
      by_test false = by_done (due 6 auth_done_layout.form f)
