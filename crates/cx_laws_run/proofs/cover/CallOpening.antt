-- A client's link to a daemon until it has a key: what each of its rows took, and that what it logs has nothing to do with links to the monitor. What it shows stands
-- under the session key of its ticket and is no connection secret; and what it signs is a HELLO, an AUTH_REPLY_MORE and an AUTH_DONE, whatever ticket it presents.
use Rattle.std.proofs.Common.{◌≡◌, ℕ, ◌==◌, ◌+◌, Bool, true, false, List, [], ◌∷◌, ◌++◌, take, Option, Some, None, Result, Ok, Err, inl, inr, ◌⊎◌, refl, sym, subst}
use Rattle.std.specs.Prelude.{if◌then◌else◌, not}
use Rattle.cx_laws_run.specs.cx_authorize.specs.Answers.{shown_as}
use Rattle.cx_laws_run.specs.cx_authorize.specs.Client.{Answered, Presented, challenge_in, reply_in}
use Rattle.cx_laws_run.specs.cx_authorize.specs.Verdict.{raised}
use Rattle.cx_base.specs.Names.{Name}
use Rattle.cx_base.specs.declared.kinds.EntityType.{EntityType}
use Rattle.cx_control.specs.Auth.{auth_done_layout, auth_reply_more_layout, auth_signature_layout}
use Rattle.cx_control.specs.BadMethod.{bad_method_layout}
use Rattle.cx_control.specs.declared.auth.AuthDone.{AuthDone}
use Rattle.cx_control.specs.declared.auth.AuthReplyMore.{AuthReplyMore}
use Rattle.cx_control.specs.declared.hello.Hello.{Hello}
use Rattle.cx_dice.specs.Draws.{challenge_of}
use Rattle.cx_digest.specs.Code.{hmac}
use Rattle.cx_enc.specs.Forms.{Form}
use Rattle.cx_frame.specs.declared.frame.Frame.{Frame}
use Rattle.cx_journal.specs.declared.faults.BytesFault.{BytesFault}
use Rattle.cx_journal.specs.declared.faults.LoginFault.TheVariants.{Mode, NonceWrong, Unopened}
use Rattle.cx_journal.specs.declared.outcomes.Reason.{Reason}
use Rattle.cx_journal.specs.declared.outcomes.Reason.TheVariants as reason
use Rattle.cx_journal.specs.declared.premises.KeyKind.{KeyKind}
use Rattle.cx_journal.specs.declared.premises.KeyKind.TheVariants as kind
use Rattle.cx_laws_run.specs.cx_login.specs.Unlocking.{unlocked, unlocked_as}
use Rattle.cx_laws_run.specs.cx_rules.specs.Greetings.{own_hello}
use Rattle.cx_laws_run.specs.cx_rules.specs.Links.{Link}
use Rattle.cx_laws_run.specs.cx_rules.specs.Payloads.{control, due, payload, whole}
use Rattle.cx_laws_run.specs.cx_rules.specs.Rows.{goes_on, refuses, unless_refused}
use Rattle.cx_laws_run.specs.cx_rules.specs.Secured.{Keys, SealedFrame, connector_keys, part_seals, plain_frame, secure_frame, signature, signed_frame, signing}
use Rattle.cx_laws_run.specs.cx_rules_session.specs.Envelopes.{authorize_content, session_sealed}
use Rattle.cx_laws_run.specs.cx_rules_session.specs.Presenter.{CallArrival, CallRow, CallStage, AwaitsHello, AwaitsChallenge, AwaitsDone, answers_challenge, first_frame, on_authorize_reply, on_bad_method, on_banner, on_challenge, on_done, on_hello, on_reply_more, on_unlocked, presented, second_frame, signs, while_answered, while_challenged}
use Rattle.cx_laws_run.specs.cx_rules_session.specs.Sessions.{Called, Callee}
use Rattle.cx_laws_run.specs.cx_sealed.specs.Records as records
use Rattle.cx_laws_run.specs.cx_sealed.specs.Unsealing.{unsealed}
use Rattle.cx_laws_run.specs.cx_sealed.specs.declared.authorize_challenge.AuthorizeChallenge.{AuthorizeChallenge}
use Rattle.cx_laws_run.specs.cx_sealed.specs.declared.authorize_reply.AuthorizeReply.{AuthorizeReply}
use Rattle.cx_laws_run.specs.cx_sealed.specs.declared.unsealed.Unsealed.{Unsealed}
use Rattle.cx_secure.specs.Plains.{plains}
use Rattle.cx_steps.specs.declared.seals.DrawMark.TheVariants as draw
use Rattle.cx_steps.specs.declared.seals.SealEntry.{SealEntry}
use Rattle.cx_steps.specs.declared.seals.SealEntry.TheVariants as entry
use Rattle.cx_laws_run.specs.cx_wire.specs.Logins.{authorize_challenge_layout, authorize_reply_layout}
use Rattle.cx_laws_run.specs.cx_wire.specs.declared.authorizers.AuthorizeChallenge as shown_challenge
use Rattle.cx_laws_run.specs.cx_wire.specs.declared.authorizers.AuthorizeReply as shown_reply
use Rattle.cx_laws_run.proofs.cover.CallKnown.{AreHarmless, CallKnown, IsHarmless, IsOfDaemon}
use Rattle.cx_laws_run.specs.cx_laws_tickets.proofs.fetch.MonClientFacts.{HasHeard}
use Rattle.cx_laws_run.specs.cx_laws_tickets.proofs.fetch.WrittenFrames.{due-tag}
use Rattle.cx_laws_run.specs.cx_laws_keys.proofs.keys.Lists.{all-append}
use Rattle.cx_laws_run.specs.cx_laws_keys.proofs.keys.Reading.{authorize_no_connection}
use Rattle.cx_laws_run.specs.cx_laws_keys.proofs.keys.Uses.{AtDaemon, Connected, Login, Means, Ticketed, Uses}
use Rattle.cx_laws_run.specs.cx_laws_keys.proofs.series.Frames.{frame-sealed}

-- the session key of a ticket of some entity, for AUTH or for another service
pub record IsTicketKey (us : Uses) (key : List ℕ) : Type 0 where
  pub name : Name
  pub means : Means us key (Login name) ⊎ ((service : EntityType) × Means us key (Ticketed name service))

-- ---- a row

abbrev pub LinkKnown : Uses → ℕ → Option (Link CallStage) → Type 0
LinkKnown us number (Some link) = (link.number ≡ number) × CallKnown us link.received link.taken link.stage
LinkKnown us number None = Unit {0}

-- what is known of the link that it leaves, which has this number; and what it logs has nothing to do with links to the monitor
pub record RowKnown (us : Uses) (number : ℕ) (row : CallRow) : Type 0 where
  pub link : LinkKnown us number row.link
  pub harmless : AreHarmless us row.seals

-- what opens is harmless
unlocked-harmless : {X : Type 0} (us : Uses) (form : Form X) (k : KeyKind) (key bytes : List ℕ) → AreHarmless us (unlocked form k key bytes).seals
unlocked-harmless {X} us form k key bytes = by_opened (unsealed form key bytes)
  where
    by_opened : (found : Option (Unsealed X)) → AreHarmless us (unlocked_as k key found).seals
    by_opened None = tt
    by_opened (Some u) = (tt, tt)

-- so are the parts of a frame under the key of a link of a daemon
pub parts-harmless : (us : Uses) (key fixed : List ℕ) (counter : ℕ) (texts : List (List ℕ)) → IsOfDaemon us key → AreHarmless us (part_seals key fixed counter texts)
parts-harmless us key fixed counter [] h = tt
parts-harmless us key fixed counter (text ∷ texts) h = (
  record {
    use_of = Connected h.is.acceptor h.is.number h.name (AtDaemon h.is.service h.tie);
    means = h.is.means;
    apart = tt;
    plain = inl (λ name e. cc);
  },
  parts-harmless us key fixed (counter + 1) texts h,
)

-- and what is shown under the session key of a ticket
shown-harmless : (us : Uses) (key : List ℕ) (nonce : ℕ) (challenge : Option ℕ) → IsTicketKey us key → IsHarmless us (session_sealed key (authorize_content nonce challenge))
shown-harmless us key nonce challenge h = by_use h.means
  where
    by_use : Means us key (Login h.name) ⊎ ((service : EntityType) × Means us key (Ticketed h.name service)) → IsHarmless us (session_sealed key (authorize_content nonce challenge))
    by_use (inl m) = record { use_of = Login h.name; means = m; apart = tt; plain = inr (λ x e. authorize_no_connection (shown_as nonce challenge) x e) }
    by_use (inr (service, m)) =
        record { use_of = Ticketed h.name service; means = m; apart = tt; plain = inr (λ x e. authorize_no_connection (shown_as nonce challenge) x e) }

module _ (us : Uses) (a : CallArrival) where
  abbrev R : CallRow → Type 0
  R row = RowKnown us a.link.number row

  refuses-known : (why : Reason) (seals : List SealEntry) → AreHarmless us seals → R (refuses a why seals)
  refuses-known why seals h = record { link = tt; harmless = h }

  -- a plain frame is sent, or the link is shut
  sent-known : (stage : CallStage) (before seals : List SealEntry) (r : Result (List ℕ) BytesFault) → CallKnown us a.link.received a.link.taken stage → AreHarmless us before → AreHarmless us seals
      → R (unless_refused a before r (λ bytes. goes_on a stage bytes seals))
  sent-known stage before seals (Err why) known first all = refuses-known (reason.Bytes why) before first
  sent-known stage before seals (Ok bytes) known first all = record { link = (refl, known); harmless = all }

  pub banner-known : (called : Called) → HasHeard a.link.received a.link.taken [] → R (on_banner a called)
  banner-known called heard = sent-known (AwaitsHello called) [] [] (plain_frame (own_hello a.own.mon_client.name.kind)) heard tt tt

  pub hello-known : (called : Called) → IsTicketKey us (presented called a.own.mon_client (challenge_of a.draw)).held.session → HasHeard a.link.received a.link.taken (1 ∷ [])
      → (read : Result Hello BytesFault) → R (on_hello a called read)
  hello-known called session heard (Err why) = refuses-known (reason.Bytes why) [] tt
  hello-known called session heard (Ok hello) =
      let p : Presented = presented called a.own.mon_client (challenge_of a.draw) in
      let drew : List SealEntry = entry.Drawn (draw.Nonce p.nonce) ∷ [] in
      sent-known (AwaitsChallenge called.callee p) drew (drew ++ session_sealed p.held.session (authorize_content p.nonce None) ∷ []) (plain_frame (first_frame a.own.mon_client p)) heard (tt, tt)
      (tt, (shown-harmless us p.held.session p.nonce None session, tt))

  denied-known : (read : Result (ℕ × (ℕ × (List ℕ × List ℕ))) BytesFault) → R (on_bad_method a read)
  denied-known (Err why) = record { link = tt; harmless = tt }
  denied-known (Ok fields) = record { link = tt; harmless = tt }

  -- ---- the daemon's challenge

  answers-known : (callee : Callee) (p : Presented) (opened : List SealEntry) → AreHarmless us opened → IsTicketKey us p.held.session → HasHeard a.link.received a.link.taken (1 ∷ 4 ∷ [])
      → (asked : Option AuthorizeChallenge) → R (answers_challenge a callee p opened asked)
  answers-known callee p opened quiet session heard None = refuses-known (reason.Login Unopened) opened quiet
  answers-known callee p opened quiet session heard (Some asked) =
      sent-known (AwaitsDone callee (record { session = p.held.session; nonce = p.nonce })) opened
      (opened ++ session_sealed p.held.session (authorize_content p.nonce (Some asked.challenge)) ∷ []) (plain_frame (second_frame p asked.challenge)) heard quiet
      (all-append (IsHarmless us) opened (session_sealed p.held.session (authorize_content p.nonce (Some asked.challenge)) ∷ []) quiet
      (shown-harmless us p.held.session p.nonce (Some asked.challenge) session, tt))

  pub challenged-known : (callee : Callee) (p : Presented) → IsTicketKey us p.held.session → (f : Frame) → (f.tag ≡ 4 → HasHeard a.link.received a.link.taken (1 ∷ 4 ∷ []))
      → R (while_challenged a callee p f)
  challenged-known callee p session f heard = by_test (f.tag == 3)
    where
      by_shown : f.tag ≡ 4 → (read : Result shown_challenge.AuthorizeChallenge BytesFault) → R (on_challenge a callee p read)
      by_shown tag (Err why) = refuses-known (reason.Bytes why) [] tt
      by_shown tag (Ok shown) =
          answers-known callee p (challenge_in p.held.session shown.sealed).seals (unlocked-harmless us records.authorize_challenge_layout.form kind.Session p.held.session shown.sealed) session
          (heard tag) (challenge_in p.held.session shown.sealed).value

      by_more : (read : Result AuthReplyMore BytesFault) → due 4 auth_reply_more_layout.form f ≡ read → R (on_reply_more a callee p read)
      by_more (Err why) is = refuses-known (reason.Bytes why) [] tt
      by_more (Ok more) is = by_shown (due-tag 4 auth_reply_more_layout.form f more is) (whole authorize_challenge_layout.form more.payload)

      by_test : (denied : Bool) → R (if denied then on_bad_method a (payload bad_method_layout.form f) else on_reply_more a callee p (due 4 auth_reply_more_layout.form f))
      by_test true = denied-known (payload bad_method_layout.form f)
      by_test false = by_more (due 4 auth_reply_more_layout.form f) refl

  -- ---- the daemon's reply

  -- what opens of a reply, where that is granted, has the key of a link of a daemon
  module _ (G : List SealEntry → Type 0) (first : (xs ys : List SealEntry) → G (xs ++ ys) → G xs) (callee : Callee) (answered : Answered)
      (replies : (bytes : List ℕ) (x : AuthorizeReply) → (reply_in answered.session bytes).value ≡ Some x → G (reply_in answered.session bytes).seals → IsOfDaemon us (take 16 x.secret)) where
    signs-known : (opened : List SealEntry) → AreHarmless us opened → HasHeard a.link.received a.link.taken (1 ∷ 4 ∷ 6 ∷ []) → (keys : Keys) → (G opened → IsOfDaemon us keys.key) → (f : Frame)
        → (r : Result SealedFrame BytesFault) → secure_frame keys f ≡ r → G (signs a callee answered opened (signing answered.session (take a.link.taken a.link.received) r)).seals
        → R (signs a callee answered opened (signing answered.session (take a.link.taken a.link.received) r))
    signs-known opened quiet heard keys of f (Err why) made g = refuses-known (reason.Bytes why) opened quiet
    signs-known opened quiet heard keys of f (Ok one) made g =
        let signed : List SealEntry = signature answered.session (take a.link.taken a.link.received) ∷ one.seals in
        let key : IsOfDaemon us keys.key = of (first opened signed g) in
        let is = (frame-sealed keys f one made).0 in
        record {
          link = (refl, subst (λ (x : SealedFrame). IsOfDaemon us x.keys.key) (sym is) key);
          harmless = all-append (IsHarmless us) opened signed quiet (
            record { received = a.link.received; taken = a.link.taken; heard = heard; bytes_are = refl },
            subst (λ (x : SealedFrame). AreHarmless us x.seals) (sym is) (parts-harmless us keys.key keys.out.fixed keys.out.counter (plains f) key),
          );
        }

    unlocked-known : (opened : List SealEntry) → AreHarmless us opened → HasHeard a.link.received a.link.taken (1 ∷ 4 ∷ 6 ∷ []) → (value : Option AuthorizeReply)
        → ((x : AuthorizeReply) → value ≡ Some x → G opened → IsOfDaemon us (take 16 x.secret)) → G (on_unlocked a callee answered opened value).seals → R (on_unlocked a callee answered opened value)
    unlocked-known opened quiet heard None of g = refuses-known (reason.Login Unopened) opened quiet
    unlocked-known opened quiet heard (Some reply) of g = by_test (reply.nonce_plus_one == raised answered.nonce) g
      where
        f : Frame
        f = control 7 auth_signature_layout.form (record { signature = hmac answered.session (take a.link.taken a.link.received) })

        by_test : (same : Bool) → G (if same then signs a callee answered opened (signed_frame (connector_keys reply.secret) answered.session (take a.link.taken a.link.received))
            else refuses a (reason.Login (NonceWrong (raised answered.nonce) reply.nonce_plus_one)) opened).seals
            → R (if same then signs a callee answered opened (signed_frame (connector_keys reply.secret) answered.session (take a.link.taken a.link.received))
            else refuses a (reason.Login (NonceWrong (raised answered.nonce) reply.nonce_plus_one)) opened)
        by_test true g = signs-known opened quiet heard (connector_keys reply.secret) (of reply refl) f (secure_frame (connector_keys reply.secret) f) refl g
        by_test false g = refuses-known (reason.Login (NonceWrong (raised answered.nonce) reply.nonce_plus_one)) opened quiet

    pub answered-known : (f : Frame) → (f.tag ≡ 6 → HasHeard a.link.received a.link.taken (1 ∷ 4 ∷ 6 ∷ [])) → G (while_answered a callee answered f).seals → R (while_answered a callee answered f)
    answered-known f heard g = by_test (f.tag == 3) g
      where
        by_reply : f.tag ≡ 6 → (read : Result shown_reply.AuthorizeReply BytesFault) → G (on_authorize_reply a callee answered read).seals → R (on_authorize_reply a callee answered read)
        by_reply tag (Err why) g = refuses-known (reason.Bytes why) [] tt
        by_reply tag (Ok shown) g =
            unlocked-known (reply_in answered.session shown.sealed).seals (unlocked-harmless us records.authorize_reply_layout.form kind.Session answered.session shown.sealed)
            (heard tag) (reply_in answered.session shown.sealed).value (λ x e o. replies shown.sealed x e o) g

        by_mode : f.tag ≡ 6 → (done : AuthDone) (other : Bool)
            → G (if other then refuses a (reason.Login Mode) [] else on_authorize_reply a callee answered (whole authorize_reply_layout.form done.payload)).seals
            → R (if other then refuses a (reason.Login Mode) [] else on_authorize_reply a callee answered (whole authorize_reply_layout.form done.payload))
        by_mode tag done true g = refuses-known (reason.Login Mode) [] tt
        by_mode tag done false g = by_reply tag (whole authorize_reply_layout.form done.payload) g

        by_done : (read : Result AuthDone BytesFault) → due 6 auth_done_layout.form f ≡ read → G (on_done a callee answered read).seals → R (on_done a callee answered read)
        by_done (Err why) is g = refuses-known (reason.Bytes why) [] tt
        by_done (Ok done) is g = by_mode (due-tag 6 auth_done_layout.form f done is) done (not (done.mode == 2)) g

        by_test : (denied : Bool) → G (if denied then on_bad_method a (payload bad_method_layout.form f) else on_done a callee answered (due 6 auth_done_layout.form f)).seals
            → R (if denied then on_bad_method a (payload bad_method_layout.form f) else on_done a callee answered (due 6 auth_done_layout.form f))
        by_test true g = denied-known (payload bad_method_layout.form f)
        by_test false g = by_done (due 6 auth_done_layout.form f) refl g
