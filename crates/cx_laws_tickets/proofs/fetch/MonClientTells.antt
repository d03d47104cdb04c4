-- What each row of one that logs in at the monitor leaves of what its link tells.
use Rattle.std.proofs.Common.{◌≡◌, ◌+◌, ◌==◌, ℕ, Bool, true, false, List, [], ◌∷◌, ◌++◌, drop, take, Option, Some, None, Result, Ok, Err, inl, inr, refl, sym, subst, arith}
use Rattle.std.specs.Prelude.{IfSome, not, if◌then◌else◌}
use Rattle.cx_base.specs.Names.{is_daemon_type}
use Rattle.cx_base.specs.declared.kinds.EntityType.{EntityType}
use Rattle.cx_control.specs.Auth.{auth_done_layout, auth_reply_more_layout, auth_signature_layout}
use Rattle.cx_control.specs.BadMethod.{bad_method_layout}
use Rattle.cx_control.specs.Hello.{hello_layout}
use Rattle.cx_control.specs.Idents.{ident_missing_features_layout, server_ident_layout}
use Rattle.cx_control.specs.Upkeep.{keepalive2_ack_layout, keepalive2_layout}
use Rattle.cx_control.specs.declared.auth.AuthDone.{AuthDone}
use Rattle.cx_control.specs.declared.auth.AuthReplyMore.{AuthReplyMore}
use Rattle.cx_control.specs.declared.auth.AuthSignature.{AuthSignature}
use Rattle.cx_control.specs.declared.hello.Hello.{Hello}
use Rattle.cx_control.specs.declared.idents.IdentMissingFeatures.{IdentMissingFeatures}
use Rattle.cx_control.specs.declared.idents.ServerIdent.{ServerIdent}
use Rattle.cx_control.specs.declared.upkeep.Keepalive2.{Keepalive2}
use Rattle.cx_control.specs.declared.upkeep.Keepalive2Ack.{Keepalive2Ack}
use Rattle.cx_dice.specs.Draws.{challenge_of, cookie_of}
use Rattle.cx_frame.specs.Banners.{banner_at}
use Rattle.cx_frame.specs.declared.banner.Banner.{Banner}
use Rattle.cx_frame.specs.declared.frame.Frame.{Frame}
use Rattle.cx_journal.specs.declared.faults.BytesFault.{BytesFault}
use Rattle.cx_journal.specs.declared.faults.LoginFault.TheVariants.{Mode, SignatureWrong}
use Rattle.cx_journal.specs.declared.outcomes.Reason.{Reason}
use Rattle.cx_journal.specs.declared.outcomes.Reason.TheVariants as reason
use Rattle.cx_laws_tickets.specs.cx_rules_session.specs.cx_rules.specs.Connector.{MonClientArrival, MonClientRow, Login, Stage, AwaitsBanner, AwaitsHello, AwaitsChallenge, AwaitsDone, AwaitsSignature, AwaitsIdent, Open, client_ident, holding, identifies, login_request, on_bad_method, on_banner, on_challenge, on_done, on_hello, on_login_done, on_missing_features, on_opened, on_reply_more, on_signature, proves, signs, turned_at, while_challenged, while_identified, while_proved}
use Rattle.cx_laws_tickets.specs.cx_rules_session.specs.cx_rules.specs.Fronts.{keys_behind, taking}
use Rattle.cx_laws_tickets.specs.cx_rules_session.specs.cx_rules.specs.Greetings.{own_hello}
use Rattle.cx_laws_tickets.specs.cx_rules_session.specs.cx_rules.specs.Holdings.{MonClient, held_login, unexpired}
use Rattle.cx_laws_tickets.specs.cx_rules_session.specs.cx_rules.specs.Links.{Link}
use Rattle.cx_laws_tickets.specs.cx_rules_session.specs.cx_rules.specs.Payloads.{due, payload, whole}
use Rattle.cx_laws_tickets.specs.cx_rules_session.specs.cx_rules.specs.Requests.{Requests, asks_rotating, no_requests, on_open, on_reply, on_server_ident, opens_to, sealed_request, sends_request, taken, takes}
use Rattle.cx_laws_tickets.specs.cx_rules_session.specs.cx_rules.specs.Rows.{at, goes_on, plain_sent, refuses, secure_sent, with_opened}
use Rattle.cx_laws_tickets.specs.cx_rules_session.specs.cx_rules.specs.Secured.{SealedFrame, Secured, connector_keys, is_signed, plain_frame, secure_frame, signature_found, signed_frame, under}
use Rattle.cx_laws_tickets.specs.cx_rules_session.specs.cx_rules.specs.Upkeep.{on_keepalive, on_keepalive_ack}
use Rattle.cx_laws_tickets.specs.cx_rules_session.specs.cx_rules.specs.declared.requests.Taken.{Taken}
use Rattle.cx_laws_tickets.specs.cx_rules_session.specs.cx_rules.specs.declared.requests.Taken.TheVariants as reply
use Rattle.cx_laws_tickets.specs.cx_rules_session.specs.cx_rules.specs.declared.requests.Waiting.{Waiting}
use Rattle.cx_laws_tickets.specs.cx_rules_session.specs.cx_rules.specs.declared.requests.Want.{Want}
use Rattle.cx_laws_tickets.specs.cx_rules_session.specs.cx_rules.specs.declared.requests.Want.TheVariants.{Rotating}
use Rattle.cx_laws_tickets.specs.cx_rules_session.specs.cx_rules.specs.cx_login.specs.Client.{Ask}
use Rattle.cx_laws_tickets.specs.cx_rules_session.specs.cx_rules.specs.cx_login.specs.Unlocking.{login_in}
use Rattle.cx_laws_tickets.specs.cx_rules_session.specs.cx_rules.specs.cx_login.specs.declared.client.LoggedIn.{LoggedIn}
use Rattle.cx_laws_tickets.specs.cx_rules_session.specs.cx_rules.specs.cx_steps.specs.declared.seals.DrawMark.TheVariants as draw
use Rattle.cx_laws_tickets.specs.cx_rules_session.specs.cx_rules.specs.cx_steps.specs.declared.seals.SealEntry.{SealEntry}
use Rattle.cx_laws_tickets.specs.cx_rules_session.specs.cx_rules.specs.cx_steps.specs.declared.seals.SealEntry.TheVariants.{Drawn}
use Rattle.cx_wire.specs.Logins.{login_done_layout, server_challenge_layout}
use Rattle.cx_wire.specs.declared.bodies.Request.TheVariants as asked
use Rattle.cx_wire.specs.declared.logins.LoginDone.{LoginDone}
use Rattle.cx_wire.specs.declared.logins.ServerChallenge.{ServerChallenge}
use Rattle.cx_laws_tickets.specs.cx_run.proofs.Taking.{EachRow}
use Rattle.cx_laws_tickets.specs.cx_laws_keys.proofs.keys.Lists.{all-append}
use Rattle.cx_laws_tickets.proofs.fetch.Banners.{IsRead, read-banner}
use Rattle.cx_laws_tickets.proofs.fetch.Turns.{banner-each, plain-each, secure-each}
use Rattle.cx_laws_tickets.proofs.fetch.WrittenFrames.{IsWritten, answer_frame, answer_text, due-tag, written-one}
use Rattle.cx_laws_tickets.proofs.fetch.MonClientFacts.{AreAskedAt, Covers, Drew, HasAnswered, HasHeard, HearsOne, IsAskedAt, StageTold, covers-more, heard-one, hears-one, later-asked, told-map}

-- ---- the rows

module _ (D : ℕ → Frame → Type 0) (A : ℕ → Type 0) where
  -- the link that a row leaves tells so much
  abbrev pub LeftTold : (ℕ → Frame → Type 0) → MonClientArrival → MonClientRow → Option (Link Stage) → Type 0
  LeftTold E a row left = IfSome left (λ (l : Link Stage). (l.number ≡ a.link.number) × StageTold E A l.received l.taken (l.sent ++ row.sends) l.stage)

  abbrev RowStill : MonClientArrival → MonClientRow → Type 0
  RowStill a row = LeftTold D a row row.link

  abbrev pub RowTold : MonClientArrival → MonClientRow → Type 0
  RowTold a row = LeftTold (Drew D a.draw row.seals row.sends) a row row.link

  still-told : (a : MonClientArrival) (row : MonClientRow) → RowStill a row → RowTold a row
  still-told a row = by_link row.link
    where
      by_link : (left : Option (Link Stage)) → LeftTold D a row left → LeftTold (Drew D a.draw row.seals row.sends) a row left
      by_link None h = tt
      by_link (Some l) h = (h.0, told-map D (Drew D a.draw row.seals row.sends) A A (λ challenge f d. inl d) (λ reading r. r) l.received l.taken (l.sent ++ row.sends) l.stage h.1)

  module _ (a : MonClientArrival) where
    abbrev came : List ℕ
    came = a.link.received

    abbrev so_far : ℕ
    so_far = a.link.taken

    banner-still : (asked : ℕ) → IsRead came [] so_far → IsWritten a.link.sent [] → RowStill a (on_banner a asked)
    banner-still asked read written = by_sent (plain_frame (own_hello a.own.name.kind)) refl
      where
        by_sent : (r : Result (List ℕ) BytesFault) → plain_frame (own_hello a.own.name.kind) ≡ r → RowStill a (plain_sent a (AwaitsHello asked) [] r)
        by_sent (Ok bytes) is = (refl, (read, (a.own.name.kind, (written-one a.link.sent bytes [] 1 _ (omega arith) (omega arith) is written).0)))
        by_sent (Err why) is = tt

    hello-still : (asked : ℕ) (f : Frame) (kind : EntityType) → HearsOne came so_far [] f → IsWritten a.link.sent (own_hello kind ∷ [])
        → (r : Result Hello BytesFault) → due 1 hello_layout.form f ≡ r → RowStill a (on_hello a asked r)
    hello-still asked f kind heard written (Err why) read = tt
    hello-still asked f kind heard written (Ok hello) read = by_sent (plain_frame (login_request a.own)) refl
      where
        by_sent : (r : Result (List ℕ) BytesFault) → plain_frame (login_request a.own) ≡ r → RowStill a (plain_sent a (AwaitsChallenge asked) [] r)
        by_sent (Ok bytes) is = (
          refl,
          (
            heard-one came so_far [] f 1 heard (due-tag 1 hello_layout.form f hello read),
            (kind, a.own, (written-one a.link.sent bytes (own_hello kind ∷ []) 2 _ (omega arith) (omega arith) is written).0),
          ),
        )
        by_sent (Err why) is = tt

    -- AUTH_REPLY_MORE
    module _ (asked : ℕ) (f : Frame) (kind : EntityType) (mon_client : MonClient) (heard : HearsOne came so_far (1 ∷ []) f)
        (written : IsWritten a.link.sent (own_hello kind ∷ login_request mon_client ∷ [])) where
      proves-told : (ask : Ask) (server : ℕ) → f.tag ≡ 4 → (r : Result (List ℕ) BytesFault) → plain_frame (answer_frame ask server (challenge_of a.draw)) ≡ r → RowTold a (proves a server r)
      proves-told ask server tag (Err why) is = tt
      proves-told ask server tag (Ok bytes) is =
          let w = written-one a.link.sent bytes (own_hello kind ∷ login_request mon_client ∷ []) 5 (answer_text ask server (challenge_of a.draw)) (omega arith) (omega arith) is written in (
            refl,
            (
              heard-one came so_far (1 ∷ []) f 4 heard tag,
              record {
                kind = kind;
                mon_client = mon_client;
                ask = ask;
                server = server;
                challenge = challenge_of a.draw;
                written = w.0;
                own = inr (refl, inl refl, w.1);
              },
            ),
          )

      challenge-told : f.tag ≡ 4 → (r : Result ServerChallenge BytesFault) → RowTold a (on_challenge a asked r)
      challenge-told tag (Err why) = tt
      challenge-told tag (Ok server) =
          let ask : Ask = record { secret = a.own.secret; old = unexpired a.reading a.own.holdings.auth; other_keys = asked } in
          proves-told ask server.challenge tag (plain_frame (answer_frame ask server.challenge (challenge_of a.draw))) refl

      reply_more-told : (r : Result AuthReplyMore BytesFault) → due 4 auth_reply_more_layout.form f ≡ r → RowTold a (on_reply_more a asked r)
      reply_more-told (Err why) read = tt
      reply_more-told (Ok more) read = challenge-told (due-tag 4 auth_reply_more_layout.form f more read) (whole server_challenge_layout.form more.payload)

      bad_method-told : (r : Result (ℕ × (ℕ × (List ℕ × List ℕ))) BytesFault) → RowTold a (on_bad_method a r)
      bad_method-told (Err why) = tt
      bad_method-told (Ok fields) = tt

      challenged-told : RowTold a (while_challenged a asked f)
      challenged-told = by_test (f.tag == 3)
        where
          by_test : (denied : Bool) → RowTold a (if denied then on_bad_method a (payload bad_method_layout.form f) else on_reply_more a asked (due 4 auth_reply_more_layout.form f))
          by_test true = bad_method-told (payload bad_method_layout.form f)
          by_test false = reply_more-told (due 4 auth_reply_more_layout.form f) refl

    -- AUTH_DONE
    module _ (f : Frame) (heard : HearsOne came so_far (1 ∷ 4 ∷ []) f) (answered : HasAnswered D a.link.sent) where
      signs-still : (login : Login) (opened : List SealEntry) → f.tag ≡ 6 → (r : Result SealedFrame BytesFault) → RowStill a (signs a login opened r)
      signs-still login opened tag (Err why) = tt
      signs-still login opened tag (Ok sealed) =
          (refl, (heard-one came so_far (1 ∷ 4 ∷ []) f 6 heard tag, record { answered = answered; more = sealed.bytes; first = refl }))

      opened-still : (gid : ℕ) (opened : List SealEntry) → f.tag ≡ 6 → (value : Option LoggedIn) → RowStill a (on_opened a gid opened value)
      opened-still gid opened tag None = tt
      opened-still gid opened tag (Some logged_in) =
          signs-still (record { gid = gid; opened = logged_in }) opened tag (signed_frame (connector_keys logged_in.secret) logged_in.auth.session (take so_far came))

      login_done-still : (gid : ℕ) → f.tag ≡ 6 → (r : Result LoginDone BytesFault) → RowStill a (on_login_done a gid r)
      login_done-still gid tag (Err why) = tt
      login_done-still gid tag (Ok done) = let unlocked = login_in a.own.secret done in opened-still gid unlocked.seals tag unlocked.value

      done-still : (r : Result AuthDone BytesFault) → due 6 auth_done_layout.form f ≡ r → RowStill a (on_done a r)
      done-still (Err why) read = tt
      done-still (Ok done) read = by_test (not (done.mode == 2))
        where
          by_test : (other : Bool) → RowStill a (if other then refuses a (reason.Login Mode) [] else on_login_done a done.gid (whole login_done_layout.form done.payload))
          by_test true = tt
          by_test false = login_done-still done.gid (due-tag 6 auth_done_layout.form f done read) (whole login_done_layout.form done.payload)

      refused-still : (r : Result (ℕ × (ℕ × (List ℕ × List ℕ))) BytesFault) → RowStill a (on_bad_method a r)
      refused-still (Err why) = tt
      refused-still (Ok fields) = tt

      proved-still : RowStill a (while_proved a f)
      proved-still = by_test (f.tag == 3)
        where
          by_test : (denied : Bool) → RowStill a (if denied then on_bad_method a (payload bad_method_layout.form f) else on_done a (due 6 auth_done_layout.form f))
          by_test true = refused-still (payload bad_method_layout.form f)
          by_test false = done-still (due 6 auth_done_layout.form f) refl

    -- a secure frame is sent
    secure-still : (s : Secured) (stage : Secured → Stage) (seals : List SealEntry) (r : Result SealedFrame BytesFault)
        → ((t : Secured) (bytes : List ℕ) → t.covered ≡ s.covered → StageTold D A came so_far (a.link.sent ++ bytes) (stage t)) → RowStill a (secure_sent a s stage seals r)
    secure-still s stage seals (Ok sealed) h = (refl, h (record s { keys = sealed.keys }) sealed.bytes refl)
    secure-still s stage seals (Err why) h = tt

    covers-still : (s t : Secured) (bytes : List ℕ) → t.covered ≡ s.covered → Covers D a.link.sent s.covered → Covers D (a.link.sent ++ bytes) t.covered
    covers-still s t bytes same c = subst (λ (covered : List ℕ). Covers D (a.link.sent ++ bytes) covered) (sym same) (covers-more D a.link.sent s.covered bytes c)

    -- a request is sent, where it can be
    request-still : (s : Secured) (r : Requests) (want : Want) (made : Result SealedFrame Reason) → Covers D a.link.sent s.covered → AreAskedAt A r.waiting → IsAskedAt A want
        → RowStill a (sends_request Open a s r want made)
    request-still s r want (Ok sealed) c h here =
        (refl, (covers-more D a.link.sent s.covered sealed.bytes c, all-append (λ (w : Waiting). IsAskedAt A w.want) r.waiting (record { tid = r.count + 1; want = want } ∷ []) h (here, tt)))
    request-still s r want (Err why) c h here = tt

-- ---- AUTH_SIGNATURE, and what is secure

module _ (D : ℕ → Frame → Type 0) (A : ℕ → Type 0) (a : MonClientArrival) where
  identifies-still : (s : Secured) (login : Login) → Covers D a.link.sent s.covered → RowStill D A a (identifies a s login)
  identifies-still s login c =
      secure-still D A (holding a (held_login a.own.holdings login.gid login.opened)) s (λ behind. AwaitsIdent behind login.opened.auth.session)
      (signature_found s ∷ Drawn (draw.Cookie (cookie_of a.draw)) ∷ []) (secure_frame s.keys (client_ident a.own login.gid 1 (cookie_of a.draw)))
      (λ t bytes same. covers-still D A a s t bytes same c)

  signature-still : (s : Secured) (login : Login) → Covers D a.link.sent s.covered → (found : Result AuthSignature BytesFault) → RowStill D A a (on_signature a s login found)
  signature-still s login c (Err why) = tt
  signature-still s login c (Ok found) = by_test (is_signed s found.signature)
    where
      by_test : (right : Bool) → RowStill D A a (if right then identifies a s login else refuses a (reason.Login SignatureWrong) [])
      by_test true = identifies-still s login c
      by_test false = tt

  -- SERVER_IDENT, IDENT_MISSING_FEATURES: a daemon asks at once
  opens_to-still : (s : Secured) (r : Requests) → A a.reading → Covers D a.link.sent s.covered → AreAskedAt A r.waiting → RowStill D A a (opens_to Open a s r)
  opens_to-still s r now c h = by_test (is_daemon_type a.own.name.kind)
    where
      by_test : (daemon : Bool) → RowStill D A a (if daemon then asks_rotating Open a s r else goes_on a (Open s r) [] [])
      by_test true = request-still D A a s r (Rotating a.reading) (sealed_request s.keys r asked.Rotating) c h now
      by_test false = (refl, (covers-more D a.link.sent s.covered [] c, h))

  server_ident-still : (s : Secured) (session : List ℕ) → A a.reading → Covers D a.link.sent s.covered → (r : Result ServerIdent BytesFault) → RowStill D A a (on_server_ident Open a s session r)
  server_ident-still s session now c (Err why) = tt
  server_ident-still s session now c (Ok ident) = opens_to-still s (no_requests session) now c tt

  missing-still : (r : Result IdentMissingFeatures BytesFault) → RowStill D A a (on_missing_features a r)
  missing-still (Err why) = tt
  missing-still (Ok missing) = tt

  identified-still : (s : Secured) (session : List ℕ) (f : Frame) → A a.reading → Covers D a.link.sent s.covered → RowStill D A a (while_identified a s session f)
  identified-still s session f now c = by_test (f.tag == 10)
    where
      by_test : (lacks : Bool) → RowStill D A a (if lacks then on_missing_features a (payload ident_missing_features_layout.form f)
          else on_server_ident Open a s session (due 9 server_ident_layout.form f))
      by_test true = missing-still (payload ident_missing_features_layout.form f)
      by_test false = server_ident-still s session now c (due 9 server_ident_layout.form f)

  -- a reply, and keepalives
  module _ (s : Secured) (r : Requests) (c : Covers D a.link.sent s.covered) (h : AreAskedAt A r.waiting) where
    takes-still : (t : Taken) → RowStill D A a (takes Open a s r t)
    takes-still (reply.Refuses why opened) = tt
    takes-still (reply.Holds held opened) = (refl, (covers-more D a.link.sent s.covered [] c, later-asked A r.waiting h))
    takes-still (reply.Views reading generations opened) = (refl, (covers-more D a.link.sent s.covered [] c, later-asked A r.waiting h))

    keepalive-still : (read : Result Keepalive2 BytesFault) → RowStill D A a (on_keepalive a s (λ behind. Open behind r) read)
    keepalive-still (Err why) = tt
    keepalive-still (Ok keepalive) = secure-still D A a s (λ behind. Open behind r) [] _ (λ t bytes same. (covers-still D A a s t bytes same c, h))

    keepalive_ack-still : (read : Result Keepalive2Ack BytesFault) → RowStill D A a (on_keepalive_ack a s (λ behind. Open behind r) read)
    keepalive_ack-still (Err why) = tt
    keepalive_ack-still (Ok ack) = (refl, (covers-more D a.link.sent s.covered [] c, h))

    open-still : (f : Frame) → RowStill D A a (on_open Open a s r f)
    open-still f = by_tests (f.tag == 18) (f.tag == 19)
      where
        by_tests : (ask ack : Bool) → RowStill D A a (if ask then on_keepalive a s (λ behind. Open behind r) (payload keepalive2_layout.form f)
            else if ack then on_keepalive_ack a s (λ behind. Open behind r) (payload keepalive2_ack_layout.form f) else on_reply Open a s r f)
        by_tests true ack = keepalive-still (payload keepalive2_layout.form f)
        by_tests false true = keepalive_ack-still (payload keepalive2_ack_layout.form f)
        by_tests false false = takes-still (taken a.own.secret r f)

-- ---- a turn

module _ (D : ℕ → Frame → Type 0) (A : ℕ → Type 0) (a : MonClientArrival) (now : A a.reading) where
  pub turned-told : (stage : Stage) → StageTold D A a.link.received a.link.taken a.link.sent stage → EachRow (RowTold D A a) (turned_at a stage)
  turned-told (AwaitsBanner asked) (start, written) = banner-each (RowTold D A a) a.link (λ link _. on_banner (at a link) asked) (λ b n read. by_read b n read)
    where
      by_read : (b : Banner) (n : ℕ) → banner_at (drop a.link.taken a.link.received) ≡ Ok (Some (b, n)) → RowTold D A a (on_banner (at a (taking a.link n)) asked)
      by_read b n read =
          let here : banner_at a.link.received ≡ Ok (Some (b, n)) = subst (λ (k : ℕ). banner_at (drop k a.link.received) ≡ Ok (Some (b, n))) start read in
          let none : a.link.taken ≡ 0 = start in
          let size : n ≡ a.link.taken + n = omega arith in
          let first : IsRead a.link.received [] (a.link.taken + n) = subst (λ (k : ℕ). IsRead a.link.received [] k) size (read-banner a.link.received b n here) in
          still-told D A (at a (taking a.link n)) (on_banner (at a (taking a.link n)) asked) (banner-still D A (at a (taking a.link n)) asked first written)
  turned-told (AwaitsHello asked) (read, (kind, written)) =
      plain-each (RowTold D A a) a.link (λ (link, f) _. on_hello (at a link) asked (due 1 hello_layout.form f)) (λ f n next.
      let b : MonClientArrival = at a (taking a.link n) in
      let heard : HasHeard a.link.received a.link.taken [] = record { frames = []; read = read; tags_are = refl } in
      still-told D A b (on_hello b asked (due 1 hello_layout.form f))
      (hello-still D A b asked f kind (hears-one a.link.received a.link.taken [] f n heard next) written (due 1 hello_layout.form f) refl))
  turned-told (AwaitsChallenge asked) (heard, (kind, mon_client, written)) =
      plain-each (RowTold D A a) a.link (λ (link, f) _. while_challenged (at a link) asked f) (λ f n next.
      challenged-told D A (at a (taking a.link n)) asked f kind mon_client (hears-one a.link.received a.link.taken (1 ∷ []) f n heard next) written)
  turned-told AwaitsDone (heard, answered) =
      plain-each (RowTold D A a) a.link (λ (link, f) _. while_proved (at a link) f) (λ f n next.
      let b : MonClientArrival = at a (taking a.link n) in
      still-told D A b (while_proved b f) (proved-still D A b f (hears-one a.link.received a.link.taken (1 ∷ 4 ∷ []) f n heard next) answered))
  turned-told (AwaitsSignature s login) (heard, c) =
      secure-each (RowTold D A a) s.keys a.link (λ (link, f, keys) opened. with_opened opened (on_signature (at a link) (under s keys) login (due 7 auth_signature_layout.form f)))
      (λ f n opened.
      let b : MonClientArrival = at a (taking a.link n) in
      let t : Secured = under s (keys_behind s.keys f) in
      still-told D A b (with_opened opened (on_signature b t login (due 7 auth_signature_layout.form f))) (signature-still D A b t login c (due 7 auth_signature_layout.form f)))
  turned-told (AwaitsIdent s session) c =
      secure-each (RowTold D A a) s.keys a.link (λ (link, f, keys) opened. with_opened opened (while_identified (at a link) (under s keys) session f))
      (λ f n opened.
      let b : MonClientArrival = at a (taking a.link n) in
      let t : Secured = under s (keys_behind s.keys f) in
      still-told D A b (with_opened opened (while_identified b t session f)) (identified-still D A b t session f now c))
  turned-told (Open s requests) (c, h) =
      secure-each (RowTold D A a) s.keys a.link (λ (link, f, keys) opened. with_opened opened (on_open Open (at a link) (under s keys) requests f))
      (λ f n opened.
      let b : MonClientArrival = at a (taking a.link n) in
      let t : Secured = under s (keys_behind s.keys f) in
      still-told D A b (with_opened opened (on_open Open b t requests f)) (open-still D A b t requests c h f))
