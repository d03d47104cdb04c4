-- What a client sent on its link to a daemon until its own signature: the banner of each end, HELLO, AUTH_REQUEST and an AUTH_REQUEST_MORE with an authorizer for
-- the service of the daemon that it calls, as they are written. So the daemon whose signature covers it heard an authorizer for that service.
use Rattle.std.proofs.Common.{◌≡◌, ℕ, ◌==◌, ◌<◌, ◌≤◌, ◌^◌, Bool, true, false, List, [], ◌∷◌, ◌++◌, map, take, Option, Some, None, Result, Ok, Err, inl, inr, ◌⊎◌, refl, sym, ap, ◌∙◌, subst, arith, ◌+◌}
use Rattle.std.specs.Prelude.{if◌then◌else◌, not}
use Rattle.cx_laws_links.specs.cx_authorize.specs.Answers.{authorizer_of}
use Rattle.cx_laws_links.specs.cx_authorize.specs.Client.{Answered, Presented, challenge_in, reply_in}
use Rattle.cx_laws_links.specs.cx_authorize.specs.Verdict.{raised}
use Rattle.cx_base.specs.declared.kinds.EntityType.{EntityType}
use Rattle.cx_cbc.specs.Envelope.{sealed}
use Rattle.cx_control.specs.Auth.{auth_done_layout, auth_reply_more_layout, auth_request_layout, auth_request_more_layout}
use Rattle.cx_control.specs.BadMethod.{bad_method_layout}
use Rattle.cx_control.specs.Hello.{hello_layout}
use Rattle.cx_control.specs.declared.auth.AuthDone.{AuthDone}
use Rattle.cx_control.specs.declared.auth.AuthReplyMore.{AuthReplyMore}
use Rattle.cx_control.specs.declared.hello.Hello.{Hello}
use Rattle.cx_dice.specs.Draws.{challenge_of}
use Rattle.cx_frame.specs.declared.frame.Frame.{Frame}
use Rattle.cx_journal.specs.declared.faults.BytesFault.{BytesFault}
use Rattle.cx_journal.specs.declared.faults.LoginFault.TheVariants.{Mode, NonceWrong}
use Rattle.cx_journal.specs.declared.outcomes.Reason.TheVariants as reason
use Rattle.std.specs.List.{AllByRecursion}
use Rattle.cx_cbc.specs.Opened.{opened}
use Rattle.cx_digest.specs.Code.{hmac}
use Rattle.cx_enc.specs.Forms.{Form}
use Rattle.cx_journal.specs.declared.premises.KeyKind.{KeyKind}
use Rattle.cx_journal.specs.declared.premises.KeyKind.TheVariants as kind
use Rattle.cx_laws_tickets.proofs.fetch.MonClientFacts.{HasHeard}
use Rattle.cx_laws_links.specs.cx_laws_keys.proofs.keys.Lists.{all-append}
use Rattle.cx_laws_links.specs.cx_laws_keys.proofs.series.Frames.{frame-sealed}
use Rattle.cx_laws_links.specs.cx_login.specs.Unlocking.{unlocked, unlocked_as}
use Rattle.cx_laws_links.specs.cx_sealed.specs.Records as records
use Rattle.cx_laws_links.specs.cx_sealed.specs.Unsealing.{unsealed_as}
use Rattle.cx_secure.specs.Plains.{plains}
use Rattle.cx_laws_links.proofs.answers.Given as given_words
use Rattle.cx_laws_links.proofs.answers.Given.{given_frame}
use Rattle.cx_laws_tickets.proofs.fetch.SameChallenge.{TellsReply, written-read}
use Rattle.cx_laws_tickets.proofs.fetch.WrittenFrames.{IsWritten, written-one, due-tag}
use Rattle.cx_laws_links.specs.cx_rules.specs.Greetings.{own_hello}
use Rattle.cx_laws_links.specs.cx_rules.specs.Links.{Link}
use Rattle.cx_laws_links.specs.cx_rules.specs.Payloads.{due, payload, whole}
use Rattle.cx_laws_links.specs.cx_rules.specs.Rows.{goes_on, refuses, unless_refused}
use Rattle.cx_laws_links.specs.cx_rules.specs.Secured.{SealedFrame, connector_keys, plain_frame, signed_frame, Keys, part_seals, secure_frame, signature, signing}
use Rattle.cx_laws_links.specs.cx_rules_session.specs.Envelopes.{authorize_content, session_sealed}
use Rattle.cx_laws_links.specs.cx_rules_session.specs.Presenter.{CallArrival, CallRow, CallStage, AwaitsBanner, AwaitsHello, AwaitsChallenge, AwaitsDone, AwaitsSignature, answers_challenge, authorizer_bytes, first_frame, on_authorize_reply, on_bad_method, on_banner, on_challenge, on_done, on_hello, on_reply_more, on_unlocked, presented, signs, while_answered, while_challenged}
use Rattle.cx_laws_links.specs.cx_rules_session.specs.Sessions.{Called, Callee}
use Rattle.cx_laws_links.specs.cx_sealed.specs.declared.authorize_challenge.AuthorizeChallenge.{AuthorizeChallenge}
use Rattle.cx_laws_links.specs.cx_sealed.specs.declared.authorize_reply.AuthorizeReply.{AuthorizeReply}
use Rattle.cx_steps.specs.declared.seals.DrawMark.TheVariants as draw
use Rattle.cx_steps.specs.declared.seals.SealEntry.{SealEntry}
use Rattle.cx_steps.specs.declared.seals.SealEntry.TheVariants.{Drawn}
use Rattle.cx_steps.specs.declared.seals.SealEntry.TheVariants as entry
use Rattle.cx_laws_tickets.specs.cx_wire.specs.Logins.{authorize_challenge_layout, authorize_reply_layout, authorizer_layout}
use Rattle.cx_laws_tickets.specs.cx_wire.specs.declared.authorizers.AuthorizeChallenge as shown_challenge
use Rattle.cx_laws_tickets.specs.cx_wire.specs.declared.authorizers.AuthorizeReply as shown_reply
use Rattle.cx_laws_tickets.specs.cx_wire.specs.declared.authorizers.Authorizer.{Authorizer}
use Rattle.cx_laws_links.proofs.answers.SameService.{HearsService, SentAuthorizer, more_frame, same-service}

-- an authorizer for this service was sent last
pub record SentFor (service : EntityType) (bytes : List ℕ) : Type 0 where
  pub authorizer : Authorizer
  pub sent : SentAuthorizer authorizer bytes
  pub service_is : authorizer.service ≡ service

-- the ticket that is shown is named for the daemon's service
abbrev pub NamedFor : Callee → Presented → Type 0
NamedFor callee p = p.held.service ≡ callee.daemon.kind

abbrev pub CallSent : CallStage → List ℕ → Type 0
CallSent (AwaitsBanner called) sent = IsWritten sent []
CallSent (AwaitsHello called) sent = (hello : Frame) × IsWritten sent (hello ∷ [])
CallSent (AwaitsChallenge callee p) sent = (hello : Frame) × (first : Frame) × IsWritten sent (hello ∷ first ∷ []) × NamedFor callee p
CallSent (AwaitsDone callee answered) sent = SentFor callee.daemon.kind sent
CallSent (AwaitsSignature s callee) sent = SentFor callee.daemon.kind s.covered
CallSent _ sent = Unit {0}

-- and what it took until then: a banner, and frames of these tags
abbrev pub CallRead : CallStage → List ℕ → ℕ → Type 0
CallRead (AwaitsBanner called) received taken = taken ≡ 0
CallRead (AwaitsHello called) received taken = HasHeard received taken []
CallRead (AwaitsChallenge callee p) received taken = HasHeard received taken (1 ∷ [])
CallRead (AwaitsDone callee answered) received taken = HasHeard received taken (1 ∷ 4 ∷ [])
CallRead _ received taken = Unit {0}

-- the daemon's signature wasn't found yet
abbrev pub IsUnsigned : CallStage → Type 0
IsUnsigned (AwaitsBanner called) = Unit {0}
IsUnsigned (AwaitsHello called) = Unit {0}
IsUnsigned (AwaitsChallenge callee p) = Unit {0}
IsUnsigned (AwaitsDone callee answered) = Unit {0}
IsUnsigned (AwaitsSignature s callee) = Unit {0}
IsUnsigned _ = ⊥

-- what is signed covers what was taken until AUTH_DONE
abbrev pub SignsReply : SealEntry → Type 0
SignsReply (entry.Signed mark) = TellsReply mark.content
SignsReply _ = Unit {0}

-- the link that goes on behind a row has sent and taken what its stage says; and so it is of what is signed
pub record RowSent (row : CallRow) : Type 0 where
  pub link : (link : Link CallStage) → row.link ≡ Some link → CallSent link.stage (link.sent ++ row.sends) × CallRead link.stage link.received link.taken × IsUnsigned link.stage
  pub signs : AllByRecursion SignsReply row.seals

-- what opens signs nothing
unlocked-signs : {X : Type 0} (form : Form X) (kind : KeyKind) (key bytes : List ℕ) → AllByRecursion SignsReply (unlocked form kind key bytes).seals
unlocked-signs {X} form kind key bytes = by_opened (opened key bytes)
  where
    by_opened : (o : Option (List ℕ)) → AllByRecursion SignsReply (unlocked_as kind key (unsealed_as form o)).seals
    by_opened None = tt
    by_opened (Some content) = (tt, tt)

part-signs : (key fixed : List ℕ) (counter : ℕ) (parts : List (List ℕ)) → AllByRecursion SignsReply (part_seals key fixed counter parts)
part-signs key fixed counter [] = tt
part-signs key fixed counter (part ∷ parts) = (tt, part-signs key fixed (counter + 1) parts)

module _ (a : CallArrival) where
  pub shut-sent : (row : CallRow) → AllByRecursion SignsReply row.seals → row.link ≡ None → RowSent row
  shut-sent row signs none = record { link = λ link is. none-there link (sym none ∙ is); signs = signs }
    where
      none-there : (link : Link CallStage) → (let o : Option (Link CallStage) = None in o ≡ Some link)
          → CallSent link.stage (link.sent ++ row.sends) × CallRead link.stage link.received link.taken × IsUnsigned link.stage
      none-there link e = absurd cc

  goes-sent : (stage : CallStage) (bytes : List ℕ) (seals : List SealEntry) → IsUnsigned stage → AllByRecursion SignsReply seals → CallSent stage (a.link.sent ++ bytes)
      → CallRead stage a.link.received a.link.taken → RowSent (goes_on a stage bytes seals)
  goes-sent stage bytes seals early signs sent read = record {
    link = λ link is.
        let it : record a.link { stage = stage } ≡ link = cc in
        subst (λ (l : Link CallStage). CallSent l.stage (l.sent ++ bytes) × CallRead l.stage l.received l.taken × IsUnsigned l.stage) it (sent, read, early);
    signs = signs;
  }

  -- a plain frame that is sent is written behind what was
  frame-sent : (frames : List Frame) (tag : ℕ) (text : List ℕ) (stage : CallStage) (before seals : List SealEntry) → IsUnsigned stage → AllByRecursion SignsReply before → AllByRecursion SignsReply seals → 1 ≤ tag → tag ≤ 20
      → IsWritten a.link.sent frames → CallRead stage a.link.received a.link.taken
      → ((bytes : List ℕ) → IsWritten (a.link.sent ++ bytes) (frames ++ record { tag = tag; segments = record { align = 8; bytes = text } ∷ [] } ∷ []) → CallSent stage (a.link.sent ++ bytes))
      → RowSent (unless_refused a before (plain_frame (record { tag = tag; segments = record { align = 8; bytes = text } ∷ [] })) (λ bytes. goes_on a stage bytes seals))
  frame-sent frames tag text stage before seals early quiet signs low high was read so = by_frame (plain_frame (record { tag = tag; segments = record { align = 8; bytes = text } ∷ [] })) refl
    where
      by_frame : (r : Result (List ℕ) BytesFault) → plain_frame (record { tag = tag; segments = record { align = 8; bytes = text } ∷ [] }) ≡ r
          → RowSent (unless_refused a before r (λ bytes. goes_on a stage bytes seals))
      by_frame (Err why) e = shut-sent (refuses a (reason.Bytes why) before) quiet refl
      by_frame (Ok bytes) e = goes-sent stage bytes seals early signs (so bytes (written-one a.link.sent bytes frames tag text low high e was).0) read

  pub banner-sent : (called : Called) → CallSent (AwaitsBanner called) a.link.sent → HasHeard a.link.received a.link.taken [] → RowSent (on_banner a called)
  banner-sent called was heard =
      frame-sent [] 1 (hello_layout.form.text _) (AwaitsHello called) [] [] tt tt tt (omega arith) (omega arith) was heard (λ bytes now. (own_hello a.own.mon_client.name.kind, now))

  pub hello-sent : (called : Called) → CallSent (AwaitsHello called) a.link.sent → NamedFor called.callee (presented called a.own.mon_client (challenge_of a.draw)) → (read : Result Hello BytesFault)
      → HasHeard a.link.received a.link.taken (1 ∷ []) → RowSent (on_hello a called read)
  hello-sent called was named (Err why) heard = shut-sent (refuses a (reason.Bytes why) []) tt refl
  hello-sent called was named (Ok hello) heard =
      let p : Presented = presented called a.own.mon_client (challenge_of a.draw) in
      let drew : List SealEntry = Drawn (draw.Nonce p.nonce) ∷ [] in
      frame-sent (was.0 ∷ []) 2 (auth_request_layout.form.text (record { method = 2; modes = a.own.mon_client.modes; payload = authorizer_bytes p None })) (AwaitsChallenge called.callee p) drew
      (drew ++ session_sealed p.held.session (authorize_content p.nonce None) ∷ []) tt (tt, tt) (tt, (tt, tt)) (omega arith) (omega arith) was.1 heard (λ bytes now. (was.0, first_frame a.own.mon_client p, now, named))

  -- ---- the daemon's challenge

  answers-sent : (callee : Callee) (p : Presented) (opened : List SealEntry) → AllByRecursion SignsReply opened → CallSent (AwaitsChallenge callee p) a.link.sent
      → HasHeard a.link.received a.link.taken (1 ∷ 4 ∷ []) → (asked : Option AuthorizeChallenge) → RowSent (answers_challenge a callee p opened asked)
  answers-sent callee p opened quiet was heard None = shut-sent (answers_challenge a callee p opened None) quiet refl
  answers-sent callee p opened quiet was heard (Some asked) =
      let w : Authorizer = authorizer_of p.held p.gid (sealed p.held.session (authorize_content p.nonce (Some asked.challenge))) in
      frame-sent (was.0 ∷ was.1 ∷ []) 5 (auth_request_more_layout.form.text (record { payload = authorizer_bytes p (Some asked.challenge) }))
      (AwaitsDone callee (record { session = p.held.session; nonce = p.nonce })) opened
      (opened ++ session_sealed p.held.session (authorize_content p.nonce (Some asked.challenge)) ∷ []) tt quiet
      (all-append SignsReply opened (session_sealed p.held.session (authorize_content p.nonce (Some asked.challenge)) ∷ []) quiet (tt, tt)) (omega arith) (omega arith) was.2 heard
      (λ bytes now. record { authorizer = w; sent = record { hello = was.0; first = was.1; written = now }; service_is = was.3 })

  pub challenged-sent : (callee : Callee) (p : Presented) → CallSent (AwaitsChallenge callee p) a.link.sent → (f : Frame) → HasHeard a.link.received a.link.taken (1 ∷ f.tag ∷ [])
      → RowSent (while_challenged a callee p f)
  challenged-sent callee p was f heard = by_test (f.tag == 3)
    where
      by_shown : f.tag ≡ 4 → (read : Result shown_challenge.AuthorizeChallenge BytesFault) → RowSent (on_challenge a callee p read)
      by_shown tag (Err why) = shut-sent (refuses a (reason.Bytes why) []) tt refl
      by_shown tag (Ok shown) =
          answers-sent callee p (challenge_in p.held.session shown.sealed).seals (unlocked-signs records.authorize_challenge_layout.form kind.Session p.held.session shown.sealed) was
          (subst (λ (t : ℕ). HasHeard a.link.received a.link.taken (1 ∷ t ∷ [])) tag heard) (challenge_in p.held.session shown.sealed).value

      by_more : (read : Result AuthReplyMore BytesFault) → due 4 auth_reply_more_layout.form f ≡ read → RowSent (on_reply_more a callee p read)
      by_more (Err why) is = shut-sent (refuses a (reason.Bytes why) []) tt refl
      by_more (Ok more) is = by_shown (due-tag 4 auth_reply_more_layout.form f more is) (whole authorize_challenge_layout.form more.payload)

      by_denied : (read : Result (ℕ × (ℕ × (List ℕ × List ℕ))) BytesFault) → RowSent (on_bad_method a read)
      by_denied (Err why) = shut-sent (on_bad_method a (Err why)) tt refl
      by_denied (Ok fields) = shut-sent (on_bad_method a (Ok fields)) tt refl

      by_test : (denied : Bool) → RowSent (if denied then on_bad_method a (payload bad_method_layout.form f) else on_reply_more a callee p (due 4 auth_reply_more_layout.form f))
      by_test true = by_denied (payload bad_method_layout.form f)
      by_test false = by_more (due 4 auth_reply_more_layout.form f) refl

  -- ---- the daemon's reply

  signs-sent : (callee : Callee) (answered : Answered) (opened : List SealEntry) → AllByRecursion SignsReply opened → CallSent (AwaitsDone callee answered) a.link.sent
      → HasHeard a.link.received a.link.taken (1 ∷ 4 ∷ 6 ∷ []) → (keys : Keys) (f : Frame) (r : Result SealedFrame BytesFault) → secure_frame keys f ≡ r
      → RowSent (signs a callee answered opened (signing answered.session (take a.link.taken a.link.received) r))
  signs-sent callee answered opened quiet was heard keys f (Err why) made = shut-sent (refuses a (reason.Bytes why) opened) quiet refl
  signs-sent callee answered opened quiet was heard keys f (Ok one) made =
      goes-sent (AwaitsSignature (record { keys = one.keys; session = answered.session; covered = a.link.sent }) callee) one.bytes
      (opened ++ (signature answered.session (take a.link.taken a.link.received) ∷ one.seals)) tt
      (all-append SignsReply opened (signature answered.session (take a.link.taken a.link.received) ∷ one.seals) quiet (
        record { received = a.link.received; taken = a.link.taken; heard = heard; bytes_are = refl },
        subst (λ (x : SealedFrame). AllByRecursion SignsReply x.seals) (sym (frame-sealed keys f one made).0) (part-signs keys.key keys.out.fixed keys.out.counter (plains f)),
      ))
      was tt

  unlocked-sent : (callee : Callee) (answered : Answered) (opened : List SealEntry) → AllByRecursion SignsReply opened → CallSent (AwaitsDone callee answered) a.link.sent
      → HasHeard a.link.received a.link.taken (1 ∷ 4 ∷ 6 ∷ []) → (reply : Option AuthorizeReply) → RowSent (on_unlocked a callee answered opened reply)
  unlocked-sent callee answered opened quiet was heard None = shut-sent (on_unlocked a callee answered opened None) quiet refl
  unlocked-sent callee answered opened quiet was heard (Some reply) = by_test (reply.nonce_plus_one == raised answered.nonce)
    where
      by_test : (same : Bool) → RowSent (if same then signs a callee answered opened (signed_frame (connector_keys reply.secret) answered.session (take a.link.taken a.link.received))
          else refuses a (reason.Login (NonceWrong (raised answered.nonce) reply.nonce_plus_one)) opened)
      by_test true =
          signs-sent callee answered opened quiet was heard (connector_keys reply.secret) (given_frame (given_words.Signs (hmac answered.session (take a.link.taken a.link.received))))
          (secure_frame (connector_keys reply.secret) (given_frame (given_words.Signs (hmac answered.session (take a.link.taken a.link.received))))) refl
      by_test false = shut-sent (refuses a (reason.Login (NonceWrong (raised answered.nonce) reply.nonce_plus_one)) opened) quiet refl

  pub answered-sent : (callee : Callee) (answered : Answered) → CallSent (AwaitsDone callee answered) a.link.sent → (f : Frame)
      → HasHeard a.link.received a.link.taken (1 ∷ 4 ∷ f.tag ∷ []) → RowSent (while_answered a callee answered f)
  answered-sent callee answered was f heard = by_test (f.tag == 3)
    where
      by_reply : f.tag ≡ 6 → (read : Result shown_reply.AuthorizeReply BytesFault) → RowSent (on_authorize_reply a callee answered read)
      by_reply tag (Err why) = shut-sent (refuses a (reason.Bytes why) []) tt refl
      by_reply tag (Ok shown) =
          unlocked-sent callee answered (reply_in answered.session shown.sealed).seals (unlocked-signs records.authorize_reply_layout.form kind.Session answered.session shown.sealed) was
          (subst (λ (t : ℕ). HasHeard a.link.received a.link.taken (1 ∷ 4 ∷ t ∷ [])) tag heard) (reply_in answered.session shown.sealed).value

      by_mode : f.tag ≡ 6 → (done : AuthDone) (other : Bool) → RowSent (if other then refuses a (reason.Login Mode) [] else on_authorize_reply a callee answered (whole authorize_reply_layout.form done.payload))
      by_mode tag done true = shut-sent (refuses a (reason.Login Mode) []) tt refl
      by_mode tag done false = by_reply tag (whole authorize_reply_layout.form done.payload)

      by_done : (read : Result AuthDone BytesFault) → due 6 auth_done_layout.form f ≡ read → RowSent (on_done a callee answered read)
      by_done (Err why) is = shut-sent (refuses a (reason.Bytes why) []) tt refl
      by_done (Ok done) is = by_mode (due-tag 6 auth_done_layout.form f done is) done (not (done.mode == 2))

      by_denied : (read : Result (ℕ × (ℕ × (List ℕ × List ℕ))) BytesFault) → RowSent (on_bad_method a read)
      by_denied (Err why) = shut-sent (on_bad_method a (Err why)) tt refl
      by_denied (Ok fields) = shut-sent (on_bad_method a (Ok fields)) tt refl

      by_test : (denied : Bool) → RowSent (if denied then on_bad_method a (payload bad_method_layout.form f) else on_done a callee answered (due 6 auth_done_layout.form f))
      by_test true = by_denied (payload bad_method_layout.form f)
      by_test false = by_done (due 6 auth_done_layout.form f) refl

-- ---- whose signature covers it

abbrev tags_of : List Frame → List ℕ
tags_of fs = map (λ (f : Frame). f.tag) fs

abbrev third_of : List ℕ → ℕ
third_of (x ∷ y ∷ z ∷ more) = z
third_of _ = 0

last-tag : (hello first : Frame) (bytes : List ℕ) (frames : List Frame) → tags_of frames ≡ 1 ∷ 4 ∷ 6 ∷ [] → frames ≡ hello ∷ first ∷ more_frame bytes ∷ [] → ⊥
last-tag hello first bytes frames tags same =
    let both : hello.tag ∷ first.tag ∷ 5 ∷ [] ≡ 1 ∷ 4 ∷ 6 ∷ [] = sym (ap tags_of same) ∙ tags in
    let last : third_of (hello.tag ∷ first.tag ∷ 5 ∷ []) ≡ third_of (1 ∷ 4 ∷ 6 ∷ []) = ap third_of both in
    omega (arith, last)

-- a signature that covers what was sent is that of a daemon which heard an authorizer for the service that was named, or of one that logs in, which it never is
pub covers-service : (service heard : EntityType) (bytes : List ℕ) → SentFor service bytes → HearsService heard bytes ⊎ TellsReply bytes → heard ≡ service
covers-service service heard bytes s (inl h) = same-service heard s.authorizer bytes h s.sent ∙ s.service_is
covers-service service heard bytes s (inr t) =
    absurd (last-tag s.sent.hello s.sent.first (authorizer_layout.form.text s.authorizer) t.heard.frames t.heard.tags_are
    (written-read t.received t.taken t.heard.frames (s.sent.hello ∷ s.sent.first ∷ more_frame (authorizer_layout.form.text s.authorizer) ∷ []) bytes t.heard.read s.sent.written t.bytes_are))
