-- Each row of one that logs in.
use Rattle.std.proofs.Common.{◌≡◌, ℕ, ◌==◌, Bool, true, false, List, [], ◌∷◌, ◌++◌, take, Option, Some, None, Result, Ok, Err, refl, sym, subst, ◌+◌, ◌-◌, ◌^◌}
use Rattle.std.specs.Prelude.{not, if◌then◌else◌}
use Rattle.cx_base.specs.Names.{Name, is_daemon_type}
use Rattle.cx_rules.specs.cx_control.specs.Auth.{auth_done_layout, auth_reply_more_layout, auth_request_more_layout}
use Rattle.cx_rules.specs.cx_control.specs.BadMethod.{bad_method_layout, kept_method}
use Rattle.cx_rules.specs.cx_control.specs.Idents.{ident_missing_features_layout, server_ident_layout}
use Rattle.cx_rules.specs.cx_control.specs.Upkeep.{keepalive2_layout, keepalive2_ack_layout}
use Rattle.cx_rules.specs.cx_control.specs.declared.auth.AuthDone.{AuthDone}
use Rattle.cx_rules.specs.cx_control.specs.declared.auth.AuthReplyMore.{AuthReplyMore}
use Rattle.cx_rules.specs.cx_control.specs.declared.auth.AuthSignature.{AuthSignature}
use Rattle.cx_rules.specs.cx_control.specs.declared.hello.Hello.{Hello}
use Rattle.cx_rules.specs.cx_control.specs.declared.idents.IdentMissingFeatures.{IdentMissingFeatures}
use Rattle.cx_rules.specs.cx_control.specs.declared.idents.ServerIdent.{ServerIdent}
use Rattle.cx_rules.specs.cx_control.specs.declared.upkeep.Keepalive2.{Keepalive2}
use Rattle.cx_rules.specs.cx_control.specs.declared.upkeep.Keepalive2Ack.{Keepalive2Ack}
use Rattle.cx_rules.specs.cx_dice.specs.Draws.{challenge_of, cookie_of}
use Rattle.cx_rules.specs.cx_frame.specs.declared.frame.Frame.{Frame}
use Rattle.cx_laws_keys.specs.cx_journal.specs.declared.entries.Entry.{Entry}
use Rattle.cx_laws_keys.specs.cx_journal.specs.declared.faults.BytesFault.{BytesFault}
use Rattle.cx_laws_keys.specs.cx_journal.specs.declared.faults.BytesFault.TheVariants.{Features, Unexpected}
use Rattle.cx_laws_keys.specs.cx_journal.specs.declared.faults.LoginFault.TheVariants.{Mode, SignatureWrong, Unopened}
use Rattle.cx_base.specs.declared.nodes.NodeName.{NodeName}
use Rattle.cx_base.specs.declared.nodes.NodeName.TheVariants as node
use Rattle.cx_laws_keys.specs.cx_journal.specs.declared.outcomes.Reason.TheVariants as reason
use Rattle.cx_laws_keys.specs.cx_journal.specs.declared.premises.KeyKind.{KeyKind}
use Rattle.cx_laws_keys.specs.cx_journal.specs.declared.premises.KeyKind.TheVariants as kind
use Rattle.cx_rules.specs.cx_login.specs.Client.{Ask, authenticate}
use Rattle.cx_rules.specs.cx_login.specs.Held.{Held, held_as}
use Rattle.cx_rules.specs.cx_login.specs.Unlocking.{Unlocked, ◌>>=◌, going_on, login_in, login_of_parts, made, told, told_each, unlocked}
use Rattle.cx_rules.specs.cx_login.specs.declared.client.LoggedIn.{LoggedIn}
use Rattle.cx_rules.specs.Connector.{Stage, AwaitsHello, AwaitsChallenge, AwaitsDone, AwaitsSignature, AwaitsIdent, Open, MonClientArrival, MonClientRow, Login as Opening, client_ident, holding, identifies, login_request, on_bad_method, on_banner, on_challenge, on_denial, on_done, on_hello, on_login_done, on_missing_features, on_opened, on_reply_more, on_signature, proof_made, proves, signs, while_challenged, while_identified, while_proved}
use Rattle.cx_rules.specs.Greetings.{own_hello}
use Rattle.cx_rules.specs.Holdings.{MonClient, held_login, holds_nothing, unexpired}
use Rattle.cx_rules.specs.Payloads.{control, due, payload, whole}
use Rattle.cx_rules.specs.Rows.{refuses, refuses_bytes, goes_on, Arrival}
use Rattle.cx_rules.specs.Secured.{Keys, SealedFrame, Secured, connector_keys, is_signed, plain_frame, secure_frame, signature_found, signed_frame, under}
use Rattle.cx_rules.specs.Upkeep.{on_keepalive, on_keepalive_ack}
use Rattle.cx_laws_keys.specs.cx_sealed.specs.Records.{connection_secret_layout, ticket_info_layout, rotating_reply_layout}
use Rattle.cx_laws_keys.specs.cx_sealed.specs.declared.connection_secret.ConnectionSecret.{ConnectionSecret}
use Rattle.cx_laws_keys.specs.cx_sealed.specs.declared.ticket_info.TicketInfo.{TicketInfo}
use Rattle.cx_rules.specs.cx_steps.specs.Premises.{IsExcepted}
use Rattle.cx_rules.specs.cx_steps.specs.declared.seals.DrawMark.TheVariants as draw
use Rattle.cx_rules.specs.cx_steps.specs.declared.seals.Logged.{Logged}
use Rattle.cx_rules.specs.cx_steps.specs.declared.seals.SealEntry.{SealEntry}
use Rattle.cx_rules.specs.cx_steps.specs.declared.seals.SealEntry.TheVariants as entry
use Rattle.cx_rules.specs.cx_wire.specs.Logins.{authenticate_layout, login_done_layout, server_challenge_layout}
use Rattle.cx_rules.specs.cx_wire.specs.declared.logins.LoginDone.{LoginDone}
use Rattle.cx_rules.specs.cx_wire.specs.declared.logins.ServerChallenge.{ServerChallenge}
use Rattle.cx_rules.specs.cx_wire.specs.declared.tickets.TicketPart.{TicketPart}
use Rattle.cx_laws_keys.proofs.keys.Known.{AreToldOf, HasLogin, Inv, IsAllowed}
use Rattle.cx_laws_keys.proofs.keys.Lists.{all-append}
use Rattle.cx_laws_keys.proofs.keys.Premises.{AreGranted, behind, granted-first, granted-rest}
use Rattle.cx_laws_keys.proofs.keys.Steps.{inv-all}
use Rattle.cx_laws_keys.proofs.keys.Uses.{Login, Means, Secret, Uses, WholeRun, AreGenerated, IsSavedIn, Use, whose}
use Rattle.cx_laws_keys.proofs.login.Facts.{AreFetched, MonClientOk, MonClientStageOk, HasMonitorKey, mon_client-entered, mon_client_stage-grows, seals-monitor}
use Rattle.cx_laws_keys.proofs.login.Opens.{unlocked-allowed, unlocked_says}
use Rattle.cx_laws_keys.proofs.login.Rows.{AfterRow, Allowed, FrameOk, Saying, Simple, after-simple, frame-ok, signing-ok, simple-goes_on, simple-plain, simple-refuses, simple-refuses_bytes, simple-secure}
use Rattle.cx_rules.specs.Requests.{Requests, asks_rotating, behind_reply, behind_request, body_taken, having, message_taken, no_requests, on_open, on_reply, on_server_ident, opens_to, reply_taken, request_message, sends_request, takes, tickets_taken, unless_unsealed, waiting_taken, with_tickets, rotating_taken, sealed_request}
use Rattle.cx_rules.specs.Messages.{Message, body_as, message_in}
use Rattle.cx_rules.specs.declared.requests.Taken.{Taken}
use Rattle.cx_rules.specs.declared.requests.Taken.TheVariants as taken
use Rattle.cx_rules.specs.declared.requests.Waiting.{Waiting}
use Rattle.cx_rules.specs.declared.requests.Want.{Want}
use Rattle.cx_rules.specs.declared.requests.Want.TheVariants as want
use Rattle.cx_rules.specs.declared.messages.Body.{Body}
use Rattle.cx_rules.specs.declared.messages.Body.TheVariants as body
use Rattle.cx_rules.specs.cx_wire.specs.declared.bodies.Reply.{Reply}
use Rattle.cx_rules.specs.cx_wire.specs.declared.bodies.Reply.TheVariants as given
use Rattle.cx_rules.specs.cx_wire.specs.declared.bodies.Request.TheVariants as asked
use Rattle.cx_rules.specs.cx_wire.specs.Bodies.{reply_layout}
use Rattle.cx_laws_keys.proofs.keys.Journal.{IsOfLogin}
use Rattle.std.specs.List.{AllByRecursion}
use Rattle.cx_base.specs.declared.kinds.EntityType.{EntityType}
use Rattle.cx_laws_keys.specs.cx_sealed.specs.declared.rotating_reply.RotatingReply.{RotatingReply}
use Rattle.cx_rules.specs.cx_wire.specs.declared.bodies.Request.{Request}
use Rattle.cx_rules.specs.cx_rotate.specs.declared.generations.Generation.{Generation}

abbrev pub mon_client_says : WholeRun → List Entry → NodeName → Saying MonClient Stage
mon_client_says run before n = record {
  Owns = MonClientOk run before;
  Stands = λ us stage. MonClientStageOk us n stage;
  own_enters = mon_client-entered run before;
  stage_grows = λ us vs stage f st. mon_client_stage-grows us vs n stage f st;
}

-- ---- what a login opens

-- nothing is excepted here under a key of this entity
abbrev pub NeverExcepted : WholeRun → List Logged → NodeName → Uses → Name → Type 0
NeverExcepted run whole_log n us name = (key : List ℕ) (u : Use) → Means us key u → whose u ≡ Some name → IsExcepted run.leaked whole_log n key → ⊥

module _ (run : WholeRun) (whole_log : List Logged) (n : NodeName) (line : ℕ) (us : Uses) (J : List Entry) (name : Name)
    (free : NeverExcepted run whole_log n us name) where
  -- what is said of a value that opened, wherever that is
  abbrev pub Tells : {X : Type 0} → Unlocked X → (X → Type 0) → Type 0
  Tells {X} u P = (log : List Logged) → Inv run whole_log us log J → AreGranted run.leaked whole_log n line log u.seals → (x : X) → u.value ≡ Some x → P x

  pub allowed-then : {A B : Type 0} (first : Unlocked A) (next : A → Unlocked B) → Allowed us J n first.seals → ((a : A) → Allowed us J n (next a).seals) → Allowed us J n (first >>= next).seals
  allowed-then {A} {B} first next al more = by_value first.value
    where
      by_value : (v : Option A) → Allowed us J n (going_on first.seals v next).seals
      by_value None = al
      by_value (Some a) = all-append (IsAllowed us J n) first.seals (next a).seals al (more a)

  pub tells-then : {A B : Type 0} (first : Unlocked A) (next : A → Unlocked B) (P : A → Type 0) (Q : B → Type 0) → Allowed us J n first.seals → Tells first P
      → ((a : A) → P a → Tells (next a) Q) → Tells (first >>= next) Q
  tells-then {A} {B} first next P Q al says more log i g x e = by_value first.value refl g e
    where
      by_value : (v : Option A) → first.value ≡ v → AreGranted run.leaked whole_log n line log (going_on first.seals v next).seals → (going_on first.seals v next).value ≡ Some x → Q x
      by_value None is g e = absurd cc
      by_value (Some a) is g e =
          more a (says log i (granted-first run.leaked whole_log n line log first.seals (next a).seals g) a is) (behind n line first.seals log)
          (inv-all run whole_log us log J n line first.seals i al) (granted-rest run.leaked whole_log n line log first.seals (next a).seals g) x e

  pub told-allowed : (k : KeyKind) (key : List ℕ) (part : TicketPart) → Allowed us J n (told k key part).seals
  told-allowed k key part =
      allowed-then (unlocked ticket_info_layout.form k key part.info) (λ info. made (held_as part info)) (unlocked-allowed run whole_log n line us [] J ticket_info_layout.form k key part.info) (λ info. tt)

  pub each-allowed : (key : List ℕ) (parts : List TicketPart) → Allowed us J n (told_each key parts).seals
  each-allowed key [] = tt
  each-allowed key (part ∷ parts) =
      allowed-then (told kind.Session key part) (λ held. told_each key parts >>= λ rest. made (held ∷ rest)) (told-allowed kind.Session key part)
      (λ held. allowed-then (told_each key parts) (λ rest. made (held ∷ rest)) (each-allowed key parts) (λ rest. tt))

  -- the ticket for AUTH, told under the entity's own secret
  pub auth-tells : (secret : List ℕ) (part : TicketPart) → Means us secret (Secret name) → Tells (told kind.Principal secret part) (λ held. Means us held.session (Login name))
  auth-tells secret part means =
      tells-then (unlocked ticket_info_layout.form kind.Principal secret part.info) (λ info. made (held_as part info)) (λ info. Means us info.session (Login name)) (λ held. Means us held.session (Login name))
      (unlocked-allowed run whole_log n line us [] J ticket_info_layout.form kind.Principal secret part.info)
      (λ log i g x e. let s = unlocked_says run whole_log n line us log J ticket_info_layout.form kind.Principal secret part.info (Secret name) i means (free secret (Secret name) means refl) g x e in s.2.0 x s.1)
      (λ info m log i g x e. held_means info x m e)
    where
      held_means : (info : TicketInfo) (x : Held) → Means us info.session (Login name) → Some (held_as part info) ≡ Some x → Means us x.session (Login name)
      held_means info x m e = let same : held_as part info ≡ x = cc in subst (λ (h : Held). Means us h.session (Login name)) same m

  -- the secret of the connection, under the session key of that ticket
  abbrev IsLogin : LoggedIn → Type 0
  IsLogin login = Means us login.auth.session (Login name) × HasLogin us name (take 16 login.secret)

  connection-tells : (auth : Held) (tickets : List Held) (connection : List ℕ) → Means us auth.session (Login name)
      → Tells (unlocked connection_secret_layout.form kind.Session auth.session connection >>= λ opened. made (record { auth = auth; tickets = tickets; secret = opened.secret })) IsLogin
  connection-tells auth tickets connection means =
      tells-then (unlocked connection_secret_layout.form kind.Session auth.session connection) (λ opened. made (record { auth = auth; tickets = tickets; secret = opened.secret }))
      (λ opened. HasLogin us name (take 16 opened.secret)) IsLogin
      (unlocked-allowed run whole_log n line us [] J connection_secret_layout.form kind.Session auth.session connection)
      (λ log i g x e. let s = unlocked_says run whole_log n line us log J connection_secret_layout.form kind.Session auth.session connection (Login name) i means (free auth.session (Login name) means refl) g x e in s.2.1 x s.1)
      (λ opened m log i g x e. login_means opened x m e)
    where
      login_means : (opened : ConnectionSecret) (x : LoggedIn) → HasLogin us name (take 16 opened.secret)
          → Some (record { auth = auth; tickets = tickets; secret = opened.secret }) ≡ Some x → IsLogin x
      login_means opened x m e =
          let login : LoggedIn = record { auth = auth; tickets = tickets; secret = opened.secret } in
          let same : login ≡ x = cc in
          subst IsLogin same (means, m)

  login-allowed : (secret : List ℕ) (parts : List TicketPart) (connection : List ℕ) → Allowed us J n (login_of_parts secret parts connection).seals
  login-allowed secret [] connection = tt
  login-allowed secret (first ∷ parts) connection =
      allowed-then (told kind.Principal secret first)
      (λ auth. told_each auth.session parts >>= λ tickets. unlocked connection_secret_layout.form kind.Session auth.session connection >>= λ opened. made (record { auth = auth; tickets = tickets; secret = opened.secret }))
      (told-allowed kind.Principal secret first)
      (λ auth. allowed-then (told_each auth.session parts)
      (λ tickets. unlocked connection_secret_layout.form kind.Session auth.session connection >>= λ opened. made (record { auth = auth; tickets = tickets; secret = opened.secret }))
      (each-allowed auth.session parts)
      (λ tickets. allowed-then (unlocked connection_secret_layout.form kind.Session auth.session connection) (λ opened. made (record { auth = auth; tickets = tickets; secret = opened.secret }))
      (unlocked-allowed run whole_log n line us [] J connection_secret_layout.form kind.Session auth.session connection) (λ opened. tt)))

  login-tells : (secret : List ℕ) (parts : List TicketPart) (connection : List ℕ) → Means us secret (Secret name) → Tells (login_of_parts secret parts connection) IsLogin
  login-tells secret [] connection means = λ log i g x e. absurd cc
  login-tells secret (first ∷ parts) connection means =
      tells-then (told kind.Principal secret first)
      (λ auth. told_each auth.session parts >>= λ tickets. unlocked connection_secret_layout.form kind.Session auth.session connection >>= λ opened. made (record { auth = auth; tickets = tickets; secret = opened.secret }))
      (λ auth. Means us auth.session (Login name)) IsLogin (told-allowed kind.Principal secret first) (auth-tells secret first means)
      (λ auth m. tells-then (told_each auth.session parts)
      (λ tickets. unlocked connection_secret_layout.form kind.Session auth.session connection >>= λ opened. made (record { auth = auth; tickets = tickets; secret = opened.secret }))
      (λ tickets. Unit {0}) IsLogin (each-allowed auth.session parts) (λ log i g x e. tt) (λ tickets _. connection-tells auth tickets connection m))

-- ---- rows

module _ (run : WholeRun) (whole_log : List Logged) (n : NodeName) (line : ℕ) (us : Uses) (log : List Logged) (J before : List Entry) where
  abbrev IsSimple : MonClientRow → Type 0
  IsSimple row = Simple (mon_client_says run before n) us J n row

  -- nothing is excepted here under its keys
  abbrev Free : Name → Type 0
  Free name = NeverExcepted run whole_log n us name

  -- it stands at its own node
  abbrev pub IsAt : MonClient → Type 0
  IsAt mon_client = n ≡ node.Entity mon_client.name

  refuses-simple : (a : MonClientArrival) (why : BytesFault) (seals : List SealEntry) → MonClientOk run before us J a.own → Allowed us J n seals → IsSimple (refuses_bytes a why seals)
  refuses-simple a why seals ok al = simple-refuses_bytes (mon_client_says run before n) us J n a why seals ok al

  pub banner-simple : (a : MonClientArrival) (asked : ℕ) → MonClientOk run before us J a.own → IsSimple (on_banner a asked)
  banner-simple a asked ok = simple-plain (mon_client_says run before n) us J n a (AwaitsHello asked) [] (own_hello a.own.name.kind) ok tt tt

  pub hello-simple : (a : MonClientArrival) (asked : ℕ) (hello : Result Hello BytesFault) → MonClientOk run before us J a.own → IsSimple (on_hello a asked hello)
  hello-simple a asked (Err why) ok = refuses-simple a why [] ok tt
  hello-simple a asked (Ok hello) ok = simple-plain (mon_client_says run before n) us J n a (AwaitsChallenge asked) [] (login_request a.own) ok tt tt

  -- ---- AUTH_REPLY_MORE, AUTH_BAD_METHOD

  proves-simple : (a : MonClientArrival) (server : ℕ) (bytes : Result (List ℕ) BytesFault) → MonClientOk run before us J a.own → IsAt a.own → IsSimple (proves a server bytes)
  proves-simple a server (Err why) ok here = refuses-simple a why (entry.Drawn (draw.Challenge (challenge_of a.draw)) ∷ []) ok (tt, tt)
  proves-simple a server (Ok bytes) ok here =
      simple-goes_on (mon_client_says run before n) us J n a AwaitsDone bytes (entry.Drawn (draw.Challenge (challenge_of a.draw)) ∷ proof_made a.own.secret server (challenge_of a.draw) ∷ []) ok tt
      (tt, ((Secret a.own.name, ok.known.own, here), tt))

  challenge-simple : (a : MonClientArrival) (asked : ℕ) (server : Result ServerChallenge BytesFault) → MonClientOk run before us J a.own → IsAt a.own → IsSimple (on_challenge a asked server)
  challenge-simple a asked (Err why) ok here = refuses-simple a why [] ok tt
  challenge-simple a asked (Ok server) ok here =
      let ask : Ask = record { secret = a.own.secret; old = unexpired a.reading a.own.holdings.auth; other_keys = asked } in
      let f : Frame = control 5 auth_request_more_layout.form (record { payload = authenticate_layout.form.text (authenticate ask server.challenge (challenge_of a.draw)) }) in
      proves-simple a server.challenge (plain_frame f) ok here

  reply_more-simple : (a : MonClientArrival) (asked : ℕ) (more : Result AuthReplyMore BytesFault) → MonClientOk run before us J a.own → IsAt a.own → IsSimple (on_reply_more a asked more)
  reply_more-simple a asked (Err why) ok here = refuses-simple a why [] ok tt
  reply_more-simple a asked (Ok more) ok here = challenge-simple a asked (whole server_challenge_layout.form more.payload) ok here

  denial-simple : (a : MonClientArrival) (code : ℕ) → MonClientOk run before us J a.own → IsSimple (on_denial a code)
  denial-simple a code ok = by_test (code == 13)
    where
      by_test : (t : Bool) → IsSimple (refuses (if t then holding a holds_nothing else a) (reason.Denied code) [])
      by_test true = simple-refuses (mon_client_says run before n) us J n (holding a holds_nothing) (reason.Denied code) [] tt (record { known = ok.known; quiet = ok.quiet; count = ok.count }) tt
      by_test false = simple-refuses (mon_client_says run before n) us J n a (reason.Denied code) [] tt ok tt

  bad_method-simple : (a : MonClientArrival) (r : Result (ℕ × (ℕ × (List ℕ × List ℕ))) BytesFault) → MonClientOk run before us J a.own → IsSimple (on_bad_method a r)
  bad_method-simple a (Err why) ok = refuses-simple a why [] ok tt
  bad_method-simple a (Ok fields) ok = denial-simple a (kept_method fields).result ok

  pub challenged-simple : (a : MonClientArrival) (asked : ℕ) (f : Frame) → MonClientOk run before us J a.own → IsAt a.own → IsSimple (while_challenged a asked f)
  challenged-simple a asked f ok here = by_test (f.tag == 3)
    where
      by_test : (t : Bool) → IsSimple (if t then on_bad_method a (payload bad_method_layout.form f) else on_reply_more a asked (due 4 auth_reply_more_layout.form f))
      by_test true = bad_method-simple a (payload bad_method_layout.form f) ok
      by_test false = reply_more-simple a asked (due 4 auth_reply_more_layout.form f) ok here

  -- ---- AUTH_DONE

  abbrev AfterMonClient : MonClientRow → Type 0
  AfterMonClient row = AfterRow (mon_client_says run before n) run whole_log n line us log J row

  abbrev Grants : List SealEntry → Type 0
  Grants es = AreGranted run.leaked whole_log n line log es

  signs-simple : (a : MonClientArrival) (login : Opening) (opened : List SealEntry) (r : Result SealedFrame BytesFault) (keys : Keys) → MonClientOk run before us J a.own → Allowed us J n opened
      → HasMonitorKey us n keys.key → FrameOk us J n keys r → IsSimple (signs a login opened r)
  signs-simple a login opened (Err why) keys ok al has f = refuses-simple a why opened ok al
  signs-simple a login opened (Ok sealed) keys ok al has f =
      simple-goes_on (mon_client_says run before n) us J n a (AwaitsSignature (record { keys = sealed.keys; session = login.opened.auth.session; covered = a.link.sent }) login) sealed.bytes (opened ++ sealed.seals) ok
      (subst (λ (k : List ℕ). HasMonitorKey us n k) (sym f.1.key) has) (all-append (IsAllowed us J n) opened sealed.seals al f.0)

  opened-simple : (a : MonClientArrival) (gid : ℕ) (name : Name) (opened : List SealEntry) (value : Option LoggedIn) → MonClientOk run before us J a.own → Allowed us J n opened
      → ((x : LoggedIn) → value ≡ Some x → Means us x.auth.session (Login name) × HasLogin us name (take 16 x.secret)) → n ≡ node.Entity name → IsSimple (on_opened a gid opened value)
  opened-simple a gid name opened None ok al says here = simple-refuses (mon_client_says run before n) us J n a (reason.Login Unopened) opened tt ok al
  opened-simple a gid name opened (Some x) ok al says here =
      let m = says x refl in
      let keys : Keys = connector_keys x.secret in
      let has : HasMonitorKey us n keys.key = record { name = name; login = m.1; own = here } in
      signs-simple a (record { gid = gid; opened = x }) opened (signed_frame keys x.auth.session (take a.link.taken a.link.received)) keys ok al has
      (signing-ok us J n name keys x.auth.session (take a.link.taken a.link.received) (secure_frame keys _) m.0 (frame-ok us J n keys _ (seals-monitor us n keys has)))

  -- what opened is granted, whatever comes of it
  opened-granted : (a : MonClientArrival) (gid : ℕ) (opened : List SealEntry) (value : Option LoggedIn) → Grants (on_opened a gid opened value).seals → Grants opened
  opened-granted a gid opened None g = g
  opened-granted a gid opened (Some x) g = by_signed (signed_frame (connector_keys x.secret) x.auth.session (take a.link.taken a.link.received)) g
    where
      by_signed : (r : Result SealedFrame BytesFault) → Grants (signs a (record { gid = gid; opened = x }) opened r).seals → Grants opened
      by_signed (Err why) g = g
      by_signed (Ok sealed) g = granted-first run.leaked whole_log n line log opened sealed.seals g

  login_done-after : (a : MonClientArrival) (gid : ℕ) (done : Result LoginDone BytesFault) → Free a.own.name → Inv run whole_log us log J
      → MonClientOk run before us J a.own → IsAt a.own → Grants (on_login_done a gid done).seals → AfterMonClient (on_login_done a gid done)
  login_done-after a gid (Err why) free i ok here g = after-simple (mon_client_says run before n) run whole_log n line us log J (refuses_bytes a why []) i (refuses-simple a why [] ok tt)
  login_done-after a gid (Ok done) free i ok here g =
      let u : Unlocked LoggedIn = login_in a.own.secret done in
      let al : Allowed us J n u.seals = login-allowed run whole_log n line us J a.own.name free a.own.secret done.tickets done.connection_secret in
      let granted : Grants u.seals = opened-granted a gid u.seals u.value g in
      after-simple (mon_client_says run before n) run whole_log n line us log J (on_opened a gid u.seals u.value) i
      (opened-simple a gid a.own.name u.seals u.value ok al
      (λ x e. login-tells run whole_log n line us J a.own.name free a.own.secret done.tickets done.connection_secret ok.known.own log i granted x e) here)

  done-after : (a : MonClientArrival) (done : Result AuthDone BytesFault) → Free a.own.name → Inv run whole_log us log J
      → MonClientOk run before us J a.own → IsAt a.own → Grants (on_done a done).seals → AfterMonClient (on_done a done)
  done-after a (Err why) free i ok here g = after-simple (mon_client_says run before n) run whole_log n line us log J (refuses_bytes a why []) i (refuses-simple a why [] ok tt)
  done-after a (Ok done) free i ok here g = by_test (not (done.mode == 2)) g
    where
      by_test : (t : Bool) → Grants (if t then refuses a (reason.Login Mode) [] else on_login_done a done.gid (whole login_done_layout.form done.payload)).seals
          → AfterMonClient (if t then refuses a (reason.Login Mode) [] else on_login_done a done.gid (whole login_done_layout.form done.payload))
      by_test true g =
          after-simple (mon_client_says run before n) run whole_log n line us log J (refuses a (reason.Login Mode) []) i (simple-refuses (mon_client_says run before n) us J n a (reason.Login Mode) [] tt ok tt)
      by_test false g = login_done-after a done.gid (whole login_done_layout.form done.payload) free i ok here g

  pub proved-after : (a : MonClientArrival) (f : Frame) → Free a.own.name → Inv run whole_log us log J → MonClientOk run before us J a.own → IsAt a.own
      → Grants (while_proved a f).seals → AfterMonClient (while_proved a f)
  proved-after a f free i ok here g = by_test (f.tag == 3) g
    where
      by_test : (t : Bool) → Grants (if t then on_bad_method a (payload bad_method_layout.form f) else on_done a (due 6 auth_done_layout.form f)).seals
          → AfterMonClient (if t then on_bad_method a (payload bad_method_layout.form f) else on_done a (due 6 auth_done_layout.form f))
      by_test true g =
          after-simple (mon_client_says run before n) run whole_log n line us log J (on_bad_method a (payload bad_method_layout.form f)) i (bad_method-simple a (payload bad_method_layout.form f) ok)
      by_test false g = done-after a (due 6 auth_done_layout.form f) free i ok here g

  -- ---- AUTH_SIGNATURE, SERVER_IDENT, KEEPALIVE2

  same_connection : (key other : List ℕ) → other ≡ key → HasMonitorKey us n key → HasMonitorKey us n other
  same_connection key other same h = subst (λ (k : List ℕ). HasMonitorKey us n k) (sym same) h

  identifies-simple : (a : MonClientArrival) (s : Secured) (login : Opening) → MonClientOk run before us J a.own → HasMonitorKey us n s.keys.key → IsSimple (identifies a s login)
  identifies-simple a s login ok has =
      simple-secure (mon_client_says run before n) us J n (holding a (held_login a.own.holdings login.gid login.opened)) s (λ behind. AwaitsIdent behind login.opened.auth.session) (signature_found s ∷ entry.Drawn (draw.Cookie (cookie_of a.draw)) ∷ [])
      (client_ident a.own login.gid 1 (cookie_of a.draw)) (record { known = ok.known; quiet = ok.quiet; count = ok.count }) (seals-monitor us n s.keys has) (λ t same. same_connection s.keys.key t.keys.key same.key has) (tt, (tt, tt))

  pub signature-simple : (a : MonClientArrival) (s : Secured) (login : Opening) (found : Result AuthSignature BytesFault) → MonClientOk run before us J a.own → HasMonitorKey us n s.keys.key
      → IsSimple (on_signature a s login found)
  signature-simple a s login (Err why) ok has = refuses-simple a why [] ok tt
  signature-simple a s login (Ok found) ok has = by_test (is_signed s found.signature)
    where
      by_test : (t : Bool) → IsSimple (if t then identifies a s login else refuses a (reason.Login SignatureWrong) [])
      by_test true = identifies-simple a s login ok has
      by_test false = simple-refuses (mon_client_says run before n) us J n a (reason.Login SignatureWrong) [] tt ok tt

  -- ---- requests

  -- a request is sent, whatever it asks for and however the open stage is called
  module _ {Stage : Type 0} (say : Saying MonClient Stage) (open_with : Secured → Requests → Stage) where
    pub request-sends : (a : Arrival MonClient Stage) (s : Secured) (requests : Requests) (asked : Want) (request : Request) → say.Owns us J a.own → HasMonitorKey us n s.keys.key
        → ((t : Secured) (r : Requests) → HasMonitorKey us n t.keys.key → say.Stands us (open_with t r))
        → Simple say us J n (sends_request open_with a s requests asked (sealed_request s.keys requests request))
    request-sends a s requests asked request ok has stands = by_count (requests.count == 2 ^ 64 - 1)
      where
        f : Frame
        f = request_message (requests.count + 1) request

        by_sent : (r : Result SealedFrame BytesFault) → FrameOk us J n s.keys r → Simple say us J n (sends_request open_with a s requests asked (unless_unsealed r))
        by_sent (Ok sealed) h =
            simple-goes_on say us J n a (open_with (under s sealed.keys) (behind_request requests asked)) sealed.bytes sealed.seals ok
            (stands (under s sealed.keys) (behind_request requests asked) (subst (λ (k : List ℕ). HasMonitorKey us n k) (sym h.1.key) has)) h.0
        by_sent (Err why) h = simple-refuses say us J n a (reason.Bytes why) [] tt ok tt

        by_count : (t : Bool) → Simple say us J n (sends_request open_with a s requests asked (if t then Err reason.Spent else unless_unsealed (secure_frame s.keys f)))
        by_count true = simple-refuses say us J n a reason.Spent [] tt ok tt
        by_count false = by_sent (secure_frame s.keys f) (frame-ok us J n s.keys f (seals-monitor us n s.keys has))

  request-simple : (a : MonClientArrival) (s : Secured) (requests : Requests) (asked : Want) (request : Request) → MonClientOk run before us J a.own → HasMonitorKey us n s.keys.key
      → IsSimple (sends_request Open a s requests asked (sealed_request s.keys requests request))
  request-simple a s requests asked request ok has = request-sends (mon_client_says run before n) Open a s requests asked request ok has (λ t r h. h)

  -- a daemon asks for generations
  pub rotating-simple : (a : MonClientArrival) (s : Secured) (requests : Requests) → MonClientOk run before us J a.own → HasMonitorKey us n s.keys.key → IsSimple (asks_rotating Open a s requests)
  rotating-simple a s requests ok has = request-simple a s requests (want.Rotating a.reading) asked.Rotating ok has

  -- as its link opens a daemon does, and a client asks for nothing
  opens_to-simple : (a : MonClientArrival) (s : Secured) (session : List ℕ) → MonClientOk run before us J a.own → HasMonitorKey us n s.keys.key → IsSimple (opens_to Open a s (no_requests session))
  opens_to-simple a s session ok has = by_test (is_daemon_type a.own.name.kind)
    where
      by_test : (t : Bool) → IsSimple (if t then asks_rotating Open a s (no_requests session) else goes_on a (Open s (no_requests session)) [] [])
      by_test true = rotating-simple a s (no_requests session) ok has
      by_test false = simple-goes_on (mon_client_says run before n) us J n a (Open s (no_requests session)) [] [] ok has tt

  server_ident-simple : (a : MonClientArrival) (s : Secured) (session : List ℕ) (ident : Result ServerIdent BytesFault) → MonClientOk run before us J a.own → HasMonitorKey us n s.keys.key
      → IsSimple (on_server_ident Open a s session ident)
  server_ident-simple a s session (Err why) ok has = refuses-simple a why [] ok tt
  server_ident-simple a s session (Ok ident) ok has = opens_to-simple a s session ok has

  missing-simple : (a : MonClientArrival) (missing : Result IdentMissingFeatures BytesFault) → MonClientOk run before us J a.own → IsSimple (on_missing_features a missing)
  missing-simple a (Err why) ok = refuses-simple a why [] ok tt
  missing-simple a (Ok missing) ok = refuses-simple a (Features missing.features) [] ok tt

  pub identified-simple : (a : MonClientArrival) (s : Secured) (session : List ℕ) (f : Frame) → MonClientOk run before us J a.own → HasMonitorKey us n s.keys.key → IsSimple (while_identified a s session f)
  identified-simple a s session f ok has = by_test (f.tag == 10)
    where
      by_test : (t : Bool) → IsSimple (if t then on_missing_features a (payload ident_missing_features_layout.form f) else on_server_ident Open a s session (due 9 server_ident_layout.form f))
      by_test true = missing-simple a (payload ident_missing_features_layout.form f) ok
      by_test false = server_ident-simple a s session (due 9 server_ident_layout.form f) ok has

  -- ---- on an open link

  keepalive-simple : (a : MonClientArrival) (s : Secured) (requests : Requests) (keepalive : Result Keepalive2 BytesFault) → MonClientOk run before us J a.own → HasMonitorKey us n s.keys.key
      → IsSimple (on_keepalive a s (λ behind. Open behind requests) keepalive)
  keepalive-simple a s requests (Err why) ok has = refuses-simple a why [] ok tt
  keepalive-simple a s requests (Ok keepalive) ok has =
      simple-secure (mon_client_says run before n) us J n a s (λ behind. Open behind requests) [] (control 19 keepalive2_ack_layout.form (record { time = keepalive.time })) ok
      (seals-monitor us n s.keys has) (λ t same. same_connection s.keys.key t.keys.key same.key has) tt

  keepalive_ack-simple : (a : MonClientArrival) (s : Secured) (requests : Requests) (ack : Result Keepalive2Ack BytesFault) → MonClientOk run before us J a.own → HasMonitorKey us n s.keys.key
      → IsSimple (on_keepalive_ack a s (λ behind. Open behind requests) ack)
  keepalive_ack-simple a s requests (Err why) ok has = refuses-simple a why [] ok tt
  keepalive_ack-simple a s requests (Ok ack) ok has = simple-goes_on (mon_client_says run before n) us J n a (Open s requests) [] [] ok has tt

  -- what is taken of a reply: all that is logged of it opened, and generations that it tells are of this service and were saved, where what opened is
  -- granted
  abbrev IsTaken : EntityType → Taken → Type 0
  IsTaken service (taken.Refuses why opened) = IsOfLogin why × Allowed us J n opened
  IsTaken service (taken.Holds held opened) = Allowed us J n opened
  IsTaken service (taken.Views reading generations opened) = Allowed us J n opened × (Grants opened → AreFetched run us service generations)

  tickets-of : (service : EntityType) (opened : List SealEntry) (value : Option (List Held)) → Allowed us J n opened → IsTaken service (tickets_taken opened value)
  tickets-of service opened None al = (tt, al)
  tickets-of service opened (Some held) al = al

  rotating-of : (service : EntityType) (reading : ℕ) (opened : List SealEntry) (value : Option RotatingReply) → Allowed us J n opened
      → ((x : RotatingReply) → value ≡ Some x → Grants opened → AreFetched run us service x.generations) → IsTaken service (rotating_taken reading opened value)
  rotating-of service reading opened None al says = (tt, al)
  rotating-of service reading opened (Some x) al says = (al, says x refl)

  -- of an entity with this name and secret
  module _ (name : Name) (secret : List ℕ) (free : Free name) (i : Inv run whole_log us log J) (own : Means us secret (Secret name)) where
    told-fetched : (sealed : List ℕ) (x : RotatingReply) → (unlocked rotating_reply_layout.form kind.Principal secret sealed).value ≡ Some x
        → Grants (unlocked rotating_reply_layout.form kind.Principal secret sealed).seals → AreFetched run us name.kind x.generations
    told-fetched sealed x e g =
        let s = unlocked_says run whole_log n line us log J rotating_reply_layout.form kind.Principal secret sealed (Secret name) i own (free secret (Secret name) own refl) g x e in
        let told : AreToldOf us name x = s.2.1 x s.1 in
        record {
          generated = subst (λ (k : EntityType). AreGenerated us k x.generations) told.service_is told.generated;
          saved = subst (λ (saved : List (EntityType × Generation)). AllByRecursion (IsSavedIn saved name.kind) x.generations) i.told
              (subst (λ (k : EntityType). AllByRecursion (IsSavedIn us.saved k) x.generations) told.service_is told.saved);
        }

    reply-of : (session : List ℕ) (asked : Want) (reply : Reply) → IsTaken name.kind (reply_taken secret session asked reply)
    reply-of session want.Tickets (given.Tickets parts) =
        tickets-of name.kind (told_each session parts).seals (told_each session parts).value (each-allowed run whole_log n line us J name free session parts)
    reply-of session want.Tickets (given.Rotating sealed) = (tt, tt)
    reply-of session (want.Rotating reading) (given.Rotating sealed) =
        let told = unlocked rotating_reply_layout.form kind.Principal secret sealed in
        rotating-of name.kind reading told.seals told.value (unlocked-allowed run whole_log n line us [] J rotating_reply_layout.form kind.Principal secret sealed) (told-fetched sealed)
    reply-of session (want.Rotating reading) (given.Tickets parts) = (tt, tt)

    waiting-of : (session : List ℕ) (waiting : List Waiting) (tid : ℕ) (reply : Reply) → IsTaken name.kind (waiting_taken secret session waiting tid reply)
    waiting-of session [] tid reply = (tt, tt)
    waiting-of session (first ∷ rest) tid reply = by_test (tid == first.tid)
      where
        by_test : (t : Bool) → IsTaken name.kind (if t then reply_taken secret session first.want reply else taken.Refuses reason.BadReply [])
        by_test true = reply-of session first.want reply
        by_test false = (tt, tt)

    body-of : (requests : Requests) (tid : ℕ) (b : Body Reply) → IsTaken name.kind (body_taken secret requests tid b)
    body-of requests tid (body.Spelled reply) = waiting-of requests.session requests.waiting tid reply
    body-of requests tid body.OtherCode = (tt, tt)
    body-of requests tid (body.Misspelled why) = (tt, tt)

    message-of : (requests : Requests) (m : Result Message BytesFault) → IsTaken name.kind (message_taken secret requests m)
    message-of requests (Err why) = (tt, tt)
    message-of requests (Ok m) = by_test (m.header.type_ == 18)
      where
        by_test : (t : Bool)
            → IsTaken name.kind (if t then body_taken secret requests m.header.tid (body_as reply_layout.form m.body) else taken.Refuses (reason.Bytes (Unexpected 17)) [])
        by_test true = body-of requests m.header.tid (body_as reply_layout.form m.body)
        by_test false = (tt, tt)

  takes-simple : (a : MonClientArrival) (s : Secured) (requests : Requests) (t : Taken) → MonClientOk run before us J a.own → HasMonitorKey us n s.keys.key → IsTaken a.own.name.kind t
      → Grants (takes Open a s requests t).seals → IsSimple (takes Open a s requests t)
  takes-simple a s requests (taken.Refuses why opened) ok has of g = simple-refuses (mon_client_says run before n) us J n a why opened of.0 ok of.1
  takes-simple a s requests (taken.Holds held opened) ok has of g =
      simple-goes_on (mon_client_says run before n) us J n (having a (with_tickets a.own held)) (Open s (behind_reply requests)) [] opened
      (record { known = ok.known; quiet = ok.quiet; count = ok.count }) has of
  takes-simple a s requests (taken.Views reading generations opened) ok has of g = record {
    seals = of.0;
    entries = ((tt, tt), tt);
    own = record { known = record { trusted = ok.known.trusted; own = ok.known.own; fetched = of.1 g }; quiet = ok.quiet; count = ok.count };
    link = has;
  }

  pub open-simple : (a : MonClientArrival) (s : Secured) (requests : Requests) (f : Frame) → Free a.own.name → Inv run whole_log us log J → MonClientOk run before us J a.own
      → HasMonitorKey us n s.keys.key → Grants (on_open Open a s requests f).seals → IsSimple (on_open Open a s requests f)
  open-simple a s requests f free i ok has g = by_tests (f.tag == 18) (f.tag == 19) g
    where
      by_tests : (ask ack : Bool) → Grants (if ask then on_keepalive a s (λ behind. Open behind requests) (payload keepalive2_layout.form f)
          else if ack then on_keepalive_ack a s (λ behind. Open behind requests) (payload keepalive2_ack_layout.form f) else on_reply Open a s requests f).seals
          → IsSimple (if ask then on_keepalive a s (λ behind. Open behind requests) (payload keepalive2_layout.form f)
          else if ack then on_keepalive_ack a s (λ behind. Open behind requests) (payload keepalive2_ack_layout.form f) else on_reply Open a s requests f)
      by_tests true ack g = keepalive-simple a s requests (payload keepalive2_layout.form f) ok has
      by_tests false true g = keepalive_ack-simple a s requests (payload keepalive2_ack_layout.form f) ok has
      by_tests false false g =
          takes-simple a s requests (message_taken a.own.secret requests (message_in f)) ok has (message-of a.own.name a.own.secret free i ok.known.own requests (message_in f)) g
