-- What one that logs in signs on its link to the monitor: a proof under its own secret, and a signature under the session key of its ticket for AUTH; so nothing under the session
-- key of a ticket for another service.
use Rattle.std.proofs.Common.{◌≡◌, ℕ, ◌==◌, Bool, true, false, List, [], ◌∷◌, ◌++◌, take, Option, Some, None, Result, Ok, Err, inl, refl}
use Rattle.std.specs.Prelude.{not, if◌then◌else◌}
use Rattle.std.specs.List.{AllByRecursion}
use Rattle.cx_base.specs.Names.{Name}
use Rattle.cx_base.specs.declared.nodes.NodeName.{NodeName}
use Rattle.cx_base.specs.declared.nodes.NodeName.TheVariants as node
use Rattle.cx_control.specs.Auth.{auth_done_layout, auth_reply_more_layout, auth_signature_layout}
use Rattle.cx_control.specs.BadMethod.{bad_method_layout}
use Rattle.cx_control.specs.Hello.{hello_layout}
use Rattle.cx_control.specs.declared.auth.AuthDone.{AuthDone}
use Rattle.cx_control.specs.declared.auth.AuthReplyMore.{AuthReplyMore}
use Rattle.cx_control.specs.declared.hello.Hello.{Hello}
use Rattle.cx_digest.specs.Code.{hmac}
use Rattle.cx_frame.specs.declared.frame.Frame.{Frame}
use Rattle.cx_journal.specs.declared.entries.Entry.{Entry}
use Rattle.cx_journal.specs.declared.faults.BytesFault.{BytesFault}
use Rattle.cx_journal.specs.declared.faults.LoginFault.TheVariants.{Mode}
use Rattle.cx_journal.specs.declared.outcomes.Reason.TheVariants as reason
use Rattle.cx_laws_run.specs.cx_laws_tickets.proofs.fetch.MonClientPlain.{identified-plain, open-plain, request-plain, signature-plain}
use Rattle.cx_laws_run.specs.cx_laws_tickets.proofs.fetch.Handed.{IsNoLogin, IsPlain}
use Rattle.cx_laws_run.specs.cx_laws_tickets.proofs.fetch.Opens.{login-opened, opened-all}
use Rattle.cx_laws_run.specs.cx_laws_keys.proofs.keys.Known.{Inv}
use Rattle.cx_laws_run.specs.cx_laws_keys.proofs.keys.Lists.{all-append}
use Rattle.cx_laws_run.specs.cx_laws_keys.proofs.keys.Premises.{AreGranted, granted-first}
use Rattle.cx_laws_run.specs.cx_laws_keys.proofs.keys.Uses.{AtMonitor, Connected, Grows, Login, Means, Secret, Use, Uses, WholeRun}
use Rattle.cx_laws_run.specs.cx_laws_keys.proofs.login.MonClientRows.{NeverExcepted}
use Rattle.cx_laws_run.specs.cx_laws_keys.proofs.login.Facts.{MonClientStageOk, HasMonitorKey, monitor_key-grows}
use Rattle.cx_laws_run.specs.cx_laws_tickets.proofs.calling.Told.{login-told}
use Rattle.cx_laws_run.specs.cx_login.specs.Unlocking.{Unlocked, login_in}
use Rattle.cx_laws_run.specs.cx_login.specs.declared.client.LoggedIn.{LoggedIn}
use Rattle.cx_laws_run.specs.cx_rules.specs.Connector.{MonClientArrival, MonClientRow, AwaitsBanner, AwaitsChallenge, AwaitsDone, AwaitsHello, AwaitsIdent, AwaitsSignature, Open, Stage, login_request, on_bad_method, on_banner, on_challenge, on_done, on_hello, on_login_done, on_opened, on_reply_more, on_signature, proves, signs, turned_at, while_challenged, while_identified, while_proved}
use Rattle.cx_laws_run.specs.cx_rules.specs.Fronts.{keys_behind, opened_parts, sealed_ahead, taking}
use Rattle.cx_laws_run.specs.cx_rules.specs.Greetings.{own_hello}
use Rattle.cx_laws_run.specs.cx_rules.specs.Holdings.{MonClient}
use Rattle.cx_laws_run.specs.cx_rules.specs.Payloads.{control, due, payload, whole}
use Rattle.cx_laws_run.specs.cx_rules.specs.Requests.{Requests, on_open, sealed_request, sends_request}
use Rattle.cx_laws_run.specs.cx_rules.specs.Rows.{Arrival, Row, at, plain_sent, refuses, with_opened}
use Rattle.cx_laws_run.specs.cx_rules.specs.Secured.{SealedFrame, Secured, connector_keys, plain_frame, secure_frame, signature, signing, under}
use Rattle.cx_laws_run.specs.cx_rules.specs.declared.requests.Want.{Want}
use Rattle.cx_steps.specs.declared.seals.Logged.{Logged}
use Rattle.cx_steps.specs.declared.seals.SealEntry.{SealEntry}
use Rattle.cx_laws_run.specs.cx_wire.specs.Logins.{login_done_layout, server_challenge_layout}
use Rattle.cx_laws_run.specs.cx_wire.specs.declared.bodies.Request.{Request}
use Rattle.cx_laws_run.specs.cx_wire.specs.declared.logins.LoginDone.{LoginDone}
use Rattle.cx_laws_run.specs.cx_wire.specs.declared.logins.ServerChallenge.{ServerChallenge}
use Rattle.cx_laws_run.specs.cx_laws_links.proofs.answers.Signed.{SignedSo}
use Rattle.cx_laws_run.proofs.truth.Signing.{AllSigned, TurnSigns, alone, banner-turn, frame-signed, link-no_ticket, login-no_ticket, parts-signed, plain-signed, plain-turn, secret-no_ticket, secure-turn, under-signed}

module _ (vs : Uses) (one : (k : List ℕ) (u v : Use) → Means vs k u → Means vs k v → u ≡ v) where
  -- ---- behind its signature

  module _ (n : NodeName) (s : Secured) (has : HasMonitorKey vs n s.keys.key) where
    abbrev linked : Use
    linked = Connected node.Monitor has.login.number has.name (AtMonitor has.login.challenge)

    no-login : IsNoLogin linked
    no-login = λ name e. cc

    known : Means (alone s.keys.key linked) s.keys.key linked
    known = inl (refl, refl)

    pub all-plain : (es : List SealEntry) → AllByRecursion (IsPlain (alone s.keys.key linked)) es → AllSigned vs es
    all-plain es h = plain-signed vs one s.keys.key linked (link-no_ticket node.Monitor has.login.number has.name (AtMonitor has.login.challenge)) has.login.means es h

    -- a request, however the open stage is called
    pub request-signs : {S : Type 0} (open_with : Secured → Requests → S) (a : Arrival MonClient S) (requests : Requests) (asks : Want) (request : Request)
        → AllSigned vs (sends_request open_with a s requests asks (sealed_request s.keys requests request)).seals
    request-signs {S} open_with a requests asks request = all-plain _ (request-plain (alone s.keys.key linked) s linked known no-login open_with a requests asks request)

  -- ---- before it

  sent-signs : (a : MonClientArrival) (stage : Stage) (r : Result (List ℕ) BytesFault) → AllSigned vs (plain_sent a stage [] r).seals
  sent-signs a stage (Ok bytes) = tt
  sent-signs a stage (Err why) = tt

  hello-signs : (a : MonClientArrival) (asked : ℕ) (read : Result Hello BytesFault) → AllSigned vs (on_hello a asked read).seals
  hello-signs a asked (Err why) = tt
  hello-signs a asked (Ok hello) = sent-signs a (AwaitsChallenge asked) (plain_frame (login_request a.own))

  bad_method-signs : (a : MonClientArrival) (read : Result (ℕ × (ℕ × (List ℕ × List ℕ))) BytesFault) → AllSigned vs (on_bad_method a read).seals
  bad_method-signs a (Err why) = tt
  bad_method-signs a (Ok fields) = tt

  module _ (name : Name) (a : MonClientArrival) (secret : Means vs a.own.secret (Secret name)) where
    proves-signs : (server : ℕ) (r : Result (List ℕ) BytesFault) → AllSigned vs (proves a server r).seals
    proves-signs server (Err why) = (tt, tt)
    proves-signs server (Ok bytes) = (tt, (under-signed vs one (Secret name) a.own.secret _ (secret-no_ticket name) secret, tt))

    challenge-signs : (asked : ℕ) (read : Result ServerChallenge BytesFault) → AllSigned vs (on_challenge a asked read).seals
    challenge-signs asked (Err why) = tt
    challenge-signs asked (Ok server) = proves-signs server.challenge _

    reply_more-signs : (asked : ℕ) (read : Result AuthReplyMore BytesFault) → AllSigned vs (on_reply_more a asked read).seals
    reply_more-signs asked (Err why) = tt
    reply_more-signs asked (Ok more) = challenge-signs asked (whole server_challenge_layout.form more.payload)

    challenged-signs : (asked : ℕ) (f : Frame) → AllSigned vs (while_challenged a asked f).seals
    challenged-signs asked f = by_test (f.tag == 3)
      where
        by_test : (denied : Bool) → AllSigned vs (let row : MonClientRow = (if denied then on_bad_method a (payload bad_method_layout.form f) else on_reply_more a asked (due 4 auth_reply_more_layout.form f)) in row.seals)
        by_test true = bad_method-signs a (payload bad_method_layout.form f)
        by_test false = reply_more-signs asked (due 4 auth_reply_more_layout.form f)

  -- ---- AUTH_DONE

  opened-signs : (a : MonClientArrival) (gid : ℕ) (opened : List SealEntry) (value : Option LoggedIn) → AllSigned vs opened
      → ((x : LoggedIn) → value ≡ Some x → (name : Name) × Means vs x.auth.session (Login name)) → AllSigned vs (on_opened a gid opened value).seals
  opened-signs a gid opened None quiet says = quiet
  opened-signs a gid opened (Some x) quiet says = by_sealed (secure_frame (connector_keys x.secret) signed) refl
    where
      received : List ℕ
      received = take a.link.taken a.link.received

      signed : Frame
      signed = control 7 auth_signature_layout.form (record { signature = hmac x.auth.session (take a.link.taken a.link.received) })

      by_sealed : (r : Result SealedFrame BytesFault) → secure_frame (connector_keys x.secret) signed ≡ r
          → AllSigned vs (signs a (record { gid = gid; opened = x }) opened (signing x.auth.session (take a.link.taken a.link.received) r)).seals
      by_sealed (Err why) e = quiet
      by_sealed (Ok sealed) e =
          let whose = says x refl in
          all-append (SignedSo vs) opened (signature x.auth.session (take a.link.taken a.link.received) ∷ sealed.seals) quiet
          (under-signed vs one (Login whose.0) x.auth.session _ (login-no_ticket whose.0) whose.1, frame-signed vs (connector_keys x.secret) signed sealed e)

  module _ (run : WholeRun) (whole_log : List Logged) (n : NodeName) (line : ℕ) (us : Uses) (log : List Logged) (J : List Entry) (name : Name) (free : NeverExcepted run whole_log n us name)
      (here : n ≡ node.Entity name) (i : Inv run whole_log us log J) (f : Grows us vs) where
    abbrev Grants : List SealEntry → Type 0
    Grants es = AreGranted run.leaked whole_log n line log es

    opened-granted : (a : MonClientArrival) (gid : ℕ) (opened : List SealEntry) (value : Option LoggedIn) → Grants (on_opened a gid opened value).seals → Grants opened
    opened-granted a gid opened None g = g
    opened-granted a gid opened (Some x) g = by_sealed (secure_frame (connector_keys x.secret) (control 7 auth_signature_layout.form (record { signature = hmac x.auth.session (take a.link.taken a.link.received) }))) g
      where
        by_sealed : (r : Result SealedFrame BytesFault) → Grants (signs a (record { gid = gid; opened = x }) opened (signing x.auth.session (take a.link.taken a.link.received) r)).seals → Grants opened
        by_sealed (Err why) g = g
        by_sealed (Ok sealed) g = granted-first run.leaked whole_log n line log opened (signature x.auth.session (take a.link.taken a.link.received) ∷ sealed.seals) g

    module _ (a : MonClientArrival) (secret : Means us a.own.secret (Secret name)) where
      login_done-signs : (gid : ℕ) (read : Result LoginDone BytesFault) → Grants (on_login_done a gid read).seals → AllSigned vs (on_login_done a gid read).seals
      login_done-signs gid (Err why) g = tt
      login_done-signs gid (Ok done) g =
          let u : Unlocked LoggedIn = login_in a.own.secret done in
          let granted : Grants u.seals = opened-granted a gid u.seals u.value g in
          opened-signs a gid u.seals u.value (opened-all (SignedSo vs) (λ mark. tt) u.seals (login-opened a.own.secret done.tickets done.connection_secret))
          (λ x e.
          let key = (login-told run whole_log n line us J name free here a.own.secret done.tickets done.connection_secret secret log i granted x e).0 in
          (key.name, f.means x.auth.session (Login key.name) key.means))

      done-signs : (read : Result AuthDone BytesFault) → Grants (on_done a read).seals → AllSigned vs (on_done a read).seals
      done-signs (Err why) g = tt
      done-signs (Ok done) g = by_test (not (done.mode == 2)) g
        where
          by_test : (t : Bool) → Grants (let row : MonClientRow = (if t then refuses a (reason.Login Mode) [] else on_login_done a done.gid (whole login_done_layout.form done.payload)) in row.seals)
              → AllSigned vs (let row : MonClientRow = (if t then refuses a (reason.Login Mode) [] else on_login_done a done.gid (whole login_done_layout.form done.payload)) in row.seals)
          by_test true g = tt
          by_test false g = login_done-signs done.gid (whole login_done_layout.form done.payload) g

      proved-signs : (fr : Frame) → Grants (while_proved a fr).seals → AllSigned vs (while_proved a fr).seals
      proved-signs fr g = by_test (fr.tag == 3) g
        where
          by_test : (t : Bool) → Grants (let row : MonClientRow = (if t then on_bad_method a (payload bad_method_layout.form fr) else on_done a (due 6 auth_done_layout.form fr)) in row.seals)
              → AllSigned vs (let row : MonClientRow = (if t then on_bad_method a (payload bad_method_layout.form fr) else on_done a (due 6 auth_done_layout.form fr)) in row.seals)
          by_test true g = bad_method-signs a (payload bad_method_layout.form fr)
          by_test false g = done-signs (due 6 auth_done_layout.form fr) g

    -- ---- a turn

    -- where what a row logs is granted
    abbrev pub RowSigns : {Own S : Type 0} → Row Own S → Type 0
    RowSigns row = AreGranted run.leaked whole_log n line log row.seals → AllSigned vs row.seals

    behind-signs : (a : MonClientArrival) (s : Secured) (es : List SealEntry) → AllSigned vs es → AllSigned vs (opened_parts (sealed_ahead s.keys a.link) ++ es)
    behind-signs a s es h = all-append (SignedSo vs) (opened_parts (sealed_ahead s.keys a.link)) es (parts-signed vs (sealed_ahead s.keys a.link)) h

    pub mon_client-signs : (a : MonClientArrival) (stage : Stage) → Means us a.own.secret (Secret name) → MonClientStageOk us n stage → TurnSigns vs RowSigns (turned_at a stage)
    mon_client-signs a (AwaitsBanner asked) secret ok =
        banner-turn vs RowSigns a.link (λ link _. on_banner (at a link) asked) (λ x m e g. sent-signs (at a (taking a.link m)) (AwaitsHello asked) (plain_frame (own_hello a.own.name.kind)))
    mon_client-signs a (AwaitsHello asked) secret ok =
        plain-turn vs RowSigns a.link (λ (link, fr) _. on_hello (at a link) asked (due 1 hello_layout.form fr)) (λ fr m e g. hello-signs (at a (taking a.link m)) asked (due 1 hello_layout.form fr))
    mon_client-signs a (AwaitsChallenge asked) secret ok =
        plain-turn vs RowSigns a.link (λ (link, fr) _. while_challenged (at a link) asked fr)
        (λ fr m e g. challenged-signs name (at a (taking a.link m)) (f.means a.own.secret (Secret name) secret) asked fr)
    mon_client-signs a AwaitsDone secret ok =
        plain-turn vs RowSigns a.link (λ (link, fr) _. while_proved (at a link) fr) (λ fr m e g. proved-signs (at a (taking a.link m)) secret fr g)
    mon_client-signs a (AwaitsSignature s login) secret ok =
        let has : HasMonitorKey vs n s.keys.key = monitor_key-grows us vs n s.keys.key f ok in
        secure-turn vs RowSigns a.link s.keys (λ (link, fr, keys) opened. with_opened opened (on_signature (at a link) (under s keys) login (due 7 auth_signature_layout.form fr)))
        (λ fr m g. behind-signs a s _ (all-plain n (under s (keys_behind s.keys fr)) has _
        (signature-plain (alone s.keys.key (linked n s has)) (under s (keys_behind s.keys fr)) (linked n s has) (known n s has) (no-login n s has) (at a (taking a.link m)) login (due 7 auth_signature_layout.form fr))))
    mon_client-signs a (AwaitsIdent s session) secret ok =
        let has : HasMonitorKey vs n s.keys.key = monitor_key-grows us vs n s.keys.key f ok in
        secure-turn vs RowSigns a.link s.keys (λ (link, fr, keys) opened. with_opened opened (while_identified (at a link) (under s keys) session fr))
        (λ fr m g. behind-signs a s _ (all-plain n (under s (keys_behind s.keys fr)) has _
        (identified-plain (alone s.keys.key (linked n s has)) (under s (keys_behind s.keys fr)) (linked n s has) (known n s has) (no-login n s has) (at a (taking a.link m)) session fr)))
    mon_client-signs a (Open s requests) secret ok =
        let has : HasMonitorKey vs n s.keys.key = monitor_key-grows us vs n s.keys.key f ok in
        secure-turn vs RowSigns a.link s.keys (λ (link, fr, keys) opened. with_opened opened (on_open Open (at a link) (under s keys) requests fr))
        (λ fr m g. behind-signs a s _ (all-plain n (under s (keys_behind s.keys fr)) has _
        (open-plain (alone s.keys.key (linked n s has)) (under s (keys_behind s.keys fr)) (linked n s has) (known n s has) (no-login n s has) (at a (taking a.link m)) requests fr)))
