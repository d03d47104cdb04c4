-- What the rows of one that logs in keep of its tickets: each session key that it holds, and each that a stage of its link has, is that of a ticket of
-- its own.
use Rattle.std.proofs.Common.{◌≡◌, ℕ, ◌==◌, Bool, true, false, List, [], ◌∷◌, take, Option, Some, None, Result, Ok, Err, refl, subst}
use Rattle.std.specs.Prelude.{not, if◌then◌else◌}
use Rattle.cx_base.specs.Names.{Name, is_daemon_type}
use Rattle.cx_base.specs.declared.nodes.NodeName.{NodeName}
use Rattle.cx_base.specs.declared.nodes.NodeName.TheVariants as node
use Rattle.cx_control.specs.Auth.{auth_done_layout, auth_reply_more_layout, auth_signature_layout}
use Rattle.cx_control.specs.BadMethod.{bad_method_layout, kept_method}
use Rattle.cx_control.specs.Hello.{hello_layout}
use Rattle.cx_control.specs.Idents.{ident_missing_features_layout, server_ident_layout}
use Rattle.cx_control.specs.Upkeep.{keepalive2_layout, keepalive2_ack_layout}
use Rattle.cx_control.specs.declared.auth.AuthDone.{AuthDone}
use Rattle.cx_control.specs.declared.auth.AuthReplyMore.{AuthReplyMore}
use Rattle.cx_control.specs.declared.auth.AuthSignature.{AuthSignature}
use Rattle.cx_control.specs.declared.hello.Hello.{Hello}
use Rattle.cx_control.specs.declared.idents.IdentMissingFeatures.{IdentMissingFeatures}
use Rattle.cx_control.specs.declared.idents.ServerIdent.{ServerIdent}
use Rattle.cx_control.specs.declared.upkeep.Keepalive2.{Keepalive2}
use Rattle.cx_control.specs.declared.upkeep.Keepalive2Ack.{Keepalive2Ack}
use Rattle.cx_dice.specs.Draws.{cookie_of}
use Rattle.cx_frame.specs.declared.frame.Frame.{Frame}
use Rattle.cx_laws_keys.specs.cx_journal.specs.declared.entries.Entry.{Entry}
use Rattle.cx_laws_keys.specs.cx_journal.specs.declared.faults.BytesFault.{BytesFault}
use Rattle.cx_laws_keys.specs.cx_journal.specs.declared.faults.BytesFault.TheVariants.{Unexpected}
use Rattle.cx_laws_keys.specs.cx_journal.specs.declared.faults.LoginFault.TheVariants.{Mode, SignatureWrong}
use Rattle.cx_laws_keys.specs.cx_journal.specs.declared.outcomes.Reason.{Reason}
use Rattle.cx_laws_keys.specs.cx_journal.specs.declared.outcomes.Reason.TheVariants as reason
use Rattle.cx_laws_keys.specs.cx_login.specs.Held.{Held}
use Rattle.cx_laws_keys.specs.cx_login.specs.Unlocking.{Unlocked, login_in, told_each, unlocked}
use Rattle.cx_laws_keys.specs.cx_login.specs.declared.client.LoggedIn.{LoggedIn}
use Rattle.cx_laws_keys.specs.cx_rules.specs.Connector.{MonClientArrival, MonClientRow, Login as Opening, Stage, AwaitsBanner, AwaitsHello, AwaitsChallenge, AwaitsDone, AwaitsSignature, AwaitsIdent, Open, client_ident, holding, identifies, on_bad_method, on_banner, on_challenge, on_denial, on_done, on_hello, on_login_done, on_missing_features, on_opened, on_reply_more, on_signature, proves, signs, turned_at, while_challenged, while_identified, while_proved}
use Rattle.cx_laws_keys.specs.cx_rules.specs.Fronts.{banner_next, plain_next, opened_parts, sealed_ahead, secure_next, secure_read}
use Rattle.cx_laws_keys.specs.cx_rules.specs.Greetings.{own_hello}
use Rattle.cx_laws_keys.specs.cx_rules.specs.Holdings.{held_login, holds_nothing}
use Rattle.cx_laws_keys.specs.cx_rules.specs.Links.{Link}
use Rattle.cx_laws_keys.specs.cx_rules.specs.Messages.{Message, body_as, message_in}
use Rattle.cx_laws_keys.specs.cx_rules.specs.Payloads.{due, payload, whole}
use Rattle.cx_laws_keys.specs.cx_rules.specs.Requests.{Requests, asks_rotating, body_taken, message_taken, no_requests, on_open, on_reply, on_server_ident, reply_taken, rotating_taken, sends_request, takes, tickets_taken, waiting_taken}
use Rattle.cx_laws_keys.specs.cx_rules.specs.Rows.{Row, at, goes_on, plain_sent, refuses, secure_sent, turned_by, with_opened}
use Rattle.cx_laws_keys.specs.cx_rules.specs.Secured.{Keys, SealedFrame, Secured, connector_keys, is_signed, plain_frame, secure_frame, signature_found, signed_frame, under}
use Rattle.cx_laws_keys.specs.cx_rules.specs.Upkeep.{on_keepalive, on_keepalive_ack}
use Rattle.cx_laws_keys.specs.cx_rules.specs.declared.messages.Body.{Body}
use Rattle.cx_laws_keys.specs.cx_rules.specs.declared.messages.Body.TheVariants as body
use Rattle.cx_laws_keys.specs.cx_rules.specs.declared.requests.Taken.{Taken}
use Rattle.cx_laws_keys.specs.cx_rules.specs.declared.requests.Taken.TheVariants as taken
use Rattle.cx_laws_keys.specs.cx_rules.specs.declared.requests.Waiting.{Waiting}
use Rattle.cx_laws_keys.specs.cx_rules.specs.declared.requests.Want.{Want}
use Rattle.cx_laws_keys.specs.cx_rules.specs.declared.requests.Want.TheVariants as want
use Rattle.cx_laws_keys.specs.cx_sealed.specs.Records.{rotating_reply_layout}
use Rattle.cx_laws_keys.specs.cx_sealed.specs.declared.rotating_reply.RotatingReply.{RotatingReply}
use Rattle.cx_laws_keys.specs.cx_secure.specs.declared.refusals.SecureRefusal.{SecureRefusal}
use Rattle.cx_laws_keys.specs.cx_journal.specs.declared.premises.KeyKind.TheVariants as kind
use Rattle.cx_laws_keys.specs.cx_steps.specs.declared.seals.DrawMark.TheVariants as draw
use Rattle.cx_laws_keys.specs.cx_steps.specs.declared.seals.Logged.{Logged}
use Rattle.cx_laws_keys.specs.cx_steps.specs.declared.seals.SealEntry.{SealEntry}
use Rattle.cx_laws_keys.specs.cx_steps.specs.declared.seals.SealEntry.TheVariants.{Drawn}
use Rattle.cx_laws_keys.specs.cx_stream.specs.SecureStreams.{secure_frame_at}
use Rattle.cx_laws_keys.specs.cx_wire.specs.Bodies.{reply_layout}
use Rattle.cx_laws_keys.specs.cx_wire.specs.Logins.{login_done_layout}
use Rattle.cx_laws_keys.specs.cx_wire.specs.declared.bodies.Reply.{Reply}
use Rattle.cx_laws_keys.specs.cx_wire.specs.declared.bodies.Reply.TheVariants as given
use Rattle.cx_laws_keys.specs.cx_wire.specs.declared.logins.LoginDone.{LoginDone}
use Rattle.cx_laws_keys.specs.cx_wire.specs.declared.logins.ServerChallenge.{ServerChallenge}
use Rattle.cx_run.proofs.Taking.{EachRow, each-turned}
use Rattle.cx_laws_tickets.proofs.calling.Sessions.{AreSessions, HoldingsOk, IsLoginKey, SessionsIn, login-ok, nothing-ok, same-entity, tickets-ok}
use Rattle.cx_laws_tickets.proofs.calling.Told.{each-tells, login-told}
use Rattle.cx_laws_keys.proofs.keys.Known.{Inv}
use Rattle.cx_laws_keys.proofs.keys.Premises.{AreGranted, behind, granted-first, granted-rest}
use Rattle.cx_laws_keys.proofs.keys.Steps.{inv-all}
use Rattle.cx_laws_keys.proofs.keys.Uses.{Login, Means, Secret, Uses, WholeRun}
use Rattle.cx_laws_keys.proofs.login.MonClientRows.{NeverExcepted}
use Rattle.cx_laws_keys.proofs.login.Facts.{IsSameWay}
use Rattle.cx_laws_keys.proofs.login.Rows.{Allowed, opened-allowed}

-- ---- a secure front, with what opened of it

module _ {Own S : Type 0} (P : Row Own S → Type 0) (us : Uses) (J : List Entry) (n : NodeName) where
  pub each-opened : (keys : Keys) (row : Link S → Keys → Frame → Row Own S) (link : Link S)
      → ((l : Link S) (k : Keys) (f : Frame) (opened : List SealEntry) → IsSameWay k keys → Allowed us J n opened → P (with_opened opened (row l k f)))
      → EachRow P (turned_by (λ (l, f, k) opened. with_opened opened (row l k f)) (secure_next keys link))
  each-opened keys row link each =
      by_read (opened_parts (sealed_ahead keys link)) (opened-allowed us J n (sealed_ahead keys link)) (secure_frame_at (sealed_ahead keys link))
    where
      by_read : (opened : List SealEntry) → Allowed us J n opened → (r : Result (Option (Frame × ℕ)) SecureRefusal)
          → EachRow P (turned_by (λ (l, f, k) opened. with_opened opened (row l k f)) (secure_read keys link opened r))
      by_read opened al (Ok None) = tt
      by_read opened al (Ok (Some (f, m))) = each _ _ f opened (record { key = refl; out = refl; into = refl }) al
      by_read opened al (Err e) = tt

-- ---- rows

module _ (us : Uses) (n : NodeName) where
  abbrev pub LinkSessions : Option (Link Stage) → Type 0
  LinkSessions (Some link) = SessionsIn us n link.stage
  LinkSessions None = Unit {0}

  -- what is held behind a row, and what its link has
  pub record Holds (row : MonClientRow) : Type 0 where
    pub holds : HoldingsOk us n row.own.holdings
    pub link : LinkSessions row.link

  module _ (a : MonClientArrival) where
    goes-holds : (stage : Stage) (bytes : List ℕ) (seals : List SealEntry) → HoldingsOk us n a.own.holdings → SessionsIn us n stage → Holds (goes_on a stage bytes seals)
    goes-holds stage bytes seals ok st = record { holds = ok; link = st }

    refuses-holds : (why : Reason) (seals : List SealEntry) → HoldingsOk us n a.own.holdings → Holds (refuses a why seals)
    refuses-holds why seals ok = record { holds = ok; link = tt }

    plain-holds : (stage : Stage) (seals : List SealEntry) (r : Result (List ℕ) BytesFault) → HoldingsOk us n a.own.holdings → SessionsIn us n stage → Holds (plain_sent a stage seals r)
    plain-holds stage seals (Ok bytes) ok st = goes-holds stage bytes seals ok st
    plain-holds stage seals (Err why) ok st = refuses-holds (reason.Bytes why) seals ok

    secure-holds : (s : Secured) (stage : Secured → Stage) (seals : List SealEntry) (r : Result SealedFrame BytesFault) → HoldingsOk us n a.own.holdings
        → ((t : Secured) → SessionsIn us n (stage t)) → Holds (secure_sent a s stage seals r)
    secure-holds s stage seals (Ok sealed) ok st = goes-holds (stage (record s { keys = sealed.keys })) sealed.bytes _ ok (st (record s { keys = sealed.keys }))
    secure-holds s stage seals (Err why) ok st = refuses-holds (reason.Bytes why) seals ok

  behind-holds : (opened : List SealEntry) (row : MonClientRow) → Holds row → Holds (with_opened opened row)
  behind-holds opened row h = record { holds = h.holds; link = h.link }

  module _ (a : MonClientArrival) (ok : HoldingsOk us n a.own.holdings) where
    hello-holds : (asked : ℕ) (read : Result Hello BytesFault) → Holds (on_hello a asked read)
    hello-holds asked (Err why) = refuses-holds a _ [] ok
    hello-holds asked (Ok hello) = plain-holds a (AwaitsChallenge asked) [] _ ok tt

    proves-holds : (server : ℕ) (made : Result (List ℕ) BytesFault) → Holds (proves a server made)
    proves-holds server (Err why) = refuses-holds a _ _ ok
    proves-holds server (Ok bytes) = record { holds = ok; link = tt }

    challenge-holds : (asked : ℕ) (read : Result ServerChallenge BytesFault) → Holds (on_challenge a asked read)
    challenge-holds asked (Err why) = refuses-holds a _ [] ok
    challenge-holds asked (Ok server) = proves-holds server.challenge _

    reply_more-holds : (asked : ℕ) (read : Result AuthReplyMore BytesFault) → Holds (on_reply_more a asked read)
    reply_more-holds asked (Err why) = refuses-holds a _ [] ok
    reply_more-holds asked (Ok more) = challenge-holds asked _

    denial-holds : (code : ℕ) → Holds (on_denial a code)
    denial-holds code = by_test (code == 13)
      where
        by_test : (forgets : Bool) → Holds (refuses (if forgets then holding a holds_nothing else a) (reason.Denied code) [])
        by_test true = refuses-holds (holding a holds_nothing) (reason.Denied code) [] (nothing-ok us n)
        by_test false = refuses-holds a (reason.Denied code) [] ok

    bad_method-holds : (read : Result (ℕ × (ℕ × (List ℕ × List ℕ))) BytesFault) → Holds (on_bad_method a read)
    bad_method-holds (Err why) = refuses-holds a _ [] ok
    bad_method-holds (Ok fields) = denial-holds (kept_method fields).result

    challenged-holds : (asked : ℕ) (f : Frame) → Holds (while_challenged a asked f)
    challenged-holds asked f = by_test (f.tag == 3)
      where
        by_test : (denied : Bool) → Holds (if denied then on_bad_method a (payload bad_method_layout.form f) else on_reply_more a asked (due 4 auth_reply_more_layout.form f))
        by_test true = bad_method-holds (payload bad_method_layout.form f)
        by_test false = reply_more-holds asked (due 4 auth_reply_more_layout.form f)

    signs-holds : (login : Opening) (opened : List SealEntry) (made : Result SealedFrame BytesFault) → IsLoginKey us n login.opened.auth.session
        → AreSessions us n login.opened.tickets → Holds (signs a login opened made)
    signs-holds login opened (Err why) auth are = refuses-holds a _ opened ok
    signs-holds login opened (Ok sealed) auth are = record { holds = ok; link = (auth, are) }

    identifies-holds : (s : Secured) (login : Opening) → IsLoginKey us n login.opened.auth.session → AreSessions us n login.opened.tickets → Holds (identifies a s login)
    identifies-holds s login auth are =
        secure-holds (holding a (held_login a.own.holdings login.gid login.opened)) s (λ behind. AwaitsIdent behind login.opened.auth.session)
        (signature_found s ∷ Drawn (draw.Cookie (cookie_of a.draw)) ∷ []) (secure_frame s.keys (client_ident a.own login.gid 1 (cookie_of a.draw)))
        (login-ok us n a.own.holdings login.gid login.opened ok auth are) (λ t. auth)

    signature-holds : (s : Secured) (login : Opening) (read : Result AuthSignature BytesFault) → IsLoginKey us n login.opened.auth.session
        → AreSessions us n login.opened.tickets → Holds (on_signature a s login read)
    signature-holds s login (Err why) auth are = refuses-holds a _ [] ok
    signature-holds s login (Ok found) auth are = by_test (is_signed s found.signature)
      where
        by_test : (right : Bool) → Holds (if right then identifies a s login else refuses a (reason.Login SignatureWrong) [])
        by_test true = identifies-holds s login auth are
        by_test false = refuses-holds a _ [] ok

    request-holds : (s : Secured) (requests : Requests) (asked : Want) (sealed : Result SealedFrame Reason) → IsLoginKey us n requests.session
        → Holds (sends_request Open a s requests asked sealed)
    request-holds s requests asked (Ok sealed) auth = record { holds = ok; link = auth }
    request-holds s requests asked (Err why) auth = refuses-holds a why [] ok

    server_ident-holds : (s : Secured) (session : List ℕ) (read : Result ServerIdent BytesFault) → IsLoginKey us n session → Holds (on_server_ident Open a s session read)
    server_ident-holds s session (Err why) auth = refuses-holds a _ [] ok
    server_ident-holds s session (Ok ident) auth = by_test (is_daemon_type a.own.name.kind)
      where
        by_test : (daemon : Bool) → Holds (if daemon then asks_rotating Open a s (no_requests session) else goes_on a (Open s (no_requests session)) [] [])
        by_test true = request-holds s (no_requests session) _ _ auth
        by_test false = record { holds = ok; link = auth }

    missing-holds : (read : Result IdentMissingFeatures BytesFault) → Holds (on_missing_features a read)
    missing-holds (Err why) = refuses-holds a _ [] ok
    missing-holds (Ok missing) = refuses-holds a _ [] ok

    identified-holds : (s : Secured) (session : List ℕ) (f : Frame) → IsLoginKey us n session → Holds (while_identified a s session f)
    identified-holds s session f auth = by_test (f.tag == 10)
      where
        by_test : (lacks : Bool) → Holds (if lacks then on_missing_features a (payload ident_missing_features_layout.form f)
            else on_server_ident Open a s session (due 9 server_ident_layout.form f))
        by_test true = missing-holds (payload ident_missing_features_layout.form f)
        by_test false = server_ident-holds s session (due 9 server_ident_layout.form f) auth

    keepalive-holds : (s : Secured) (requests : Requests) (read : Result Keepalive2 BytesFault) → IsLoginKey us n requests.session → Holds (on_keepalive a s (λ behind. Open behind requests) read)
    keepalive-holds s requests (Err why) auth = refuses-holds a _ [] ok
    keepalive-holds s requests (Ok keepalive) auth = secure-holds a s (λ behind. Open behind requests) [] _ ok (λ t. auth)

    keepalive_ack-holds : (s : Secured) (requests : Requests) (read : Result Keepalive2Ack BytesFault) → IsLoginKey us n requests.session
        → Holds (on_keepalive_ack a s (λ behind. Open behind requests) read)
    keepalive_ack-holds s requests (Err why) auth = refuses-holds a _ [] ok
    keepalive_ack-holds s requests (Ok ack) auth = record { holds = ok; link = auth }

-- ---- what opens

module _ (run : WholeRun) (whole_log : List Logged) (n : NodeName) (line : ℕ) (us : Uses) (log : List Logged) (J : List Entry) where
  abbrev Grants : List SealEntry → Type 0
  Grants es = AreGranted run.leaked whole_log n line log es

  module _ (name : Name) (free : NeverExcepted run whole_log n us name) (here : n ≡ node.Entity name) (i : Inv run whole_log us log J) where
    -- what a reply brings is told under the session key of the login
    abbrev Brings : Taken → Type 0
    Brings (taken.Refuses why opened) = Unit {0}
    Brings (taken.Holds held opened) = Grants opened → AreSessions us n held
    Brings (taken.Views reading generations opened) = Unit {0}

    tickets-bring : (opened : List SealEntry) (value : Option (List Held)) → ((x : List Held) → value ≡ Some x → Grants opened → AreSessions us n x) → Brings (tickets_taken opened value)
    tickets-bring opened None says = tt
    tickets-bring opened (Some held) says = says held refl

    rotating-bring : (reading : ℕ) (opened : List SealEntry) (value : Option RotatingReply) → Brings (rotating_taken reading opened value)
    rotating-bring reading opened None = tt
    rotating-bring reading opened (Some reply) = tt

    module _ (secret : List ℕ) where
      reply-brings : (session : List ℕ) (asked : Want) (reply : Reply) → IsLoginKey us n session → Brings (reply_taken secret session asked reply)
      reply-brings session want.Tickets (given.Tickets parts) auth =
          tickets-bring (told_each session parts).seals (told_each session parts).value
          (λ x e g. each-tells run whole_log n line us J name free here session parts (own-key session auth) log i g x e)
        where
          own-key : (session : List ℕ) → IsLoginKey us n session → Means us session (Login name)
          own-key session auth = by_name auth.name auth.own auth.means
            where
              by_name : (m : Name) → n ≡ node.Entity m → Means us session (Login m) → Means us session (Login name)
              by_name m own means = let same : m ≡ name = same-entity n m name own here in subst (λ (k : Name). Means us session (Login k)) same means
      reply-brings session want.Tickets (given.Rotating sealed) auth = tt
      reply-brings session (want.Rotating reading) (given.Rotating sealed) auth =
          let told = unlocked rotating_reply_layout.form kind.Principal secret sealed in rotating-bring reading told.seals told.value
      reply-brings session (want.Rotating reading) (given.Tickets parts) auth = tt

      waiting-brings : (session : List ℕ) (waiting : List Waiting) (tid : ℕ) (reply : Reply) → IsLoginKey us n session → Brings (waiting_taken secret session waiting tid reply)
      waiting-brings session [] tid reply auth = tt
      waiting-brings session (first ∷ rest) tid reply auth = by_test (tid == first.tid)
        where
          by_test : (t : Bool) → Brings (if t then reply_taken secret session first.want reply else taken.Refuses reason.BadReply [])
          by_test true = reply-brings session first.want reply auth
          by_test false = tt

      body-brings : (requests : Requests) (tid : ℕ) (b : Body Reply) → IsLoginKey us n requests.session → Brings (body_taken secret requests tid b)
      body-brings requests tid (body.Spelled reply) auth = waiting-brings requests.session requests.waiting tid reply auth
      body-brings requests tid body.OtherCode auth = tt
      body-brings requests tid (body.Misspelled why) auth = tt

      message-brings : (requests : Requests) (m : Result Message BytesFault) → IsLoginKey us n requests.session → Brings (message_taken secret requests m)
      message-brings requests (Err why) auth = tt
      message-brings requests (Ok m) auth = by_test (m.header.type_ == 18)
        where
          by_test : (t : Bool) → Brings (if t then body_taken secret requests m.header.tid (body_as reply_layout.form m.body) else taken.Refuses (reason.Bytes (Unexpected 17)) [])
          by_test true = body-brings requests m.header.tid (body_as reply_layout.form m.body) auth
          by_test false = tt

    -- ---- rows behind what opened

    module _ (a : MonClientArrival) (ok : HoldingsOk us n a.own.holdings) where
      takes-holds : (s : Secured) (requests : Requests) (t : Taken) → IsLoginKey us n requests.session → Brings t → Grants (takes Open a s requests t).seals
          → Holds us n (takes Open a s requests t)
      takes-holds s requests (taken.Refuses why opened) auth brings g = refuses-holds us n a why opened ok
      takes-holds s requests (taken.Holds held opened) auth brings g =
          record { holds = tickets-ok us n a.own.holdings held ok (brings g); link = auth }
      takes-holds s requests (taken.Views reading generations opened) auth brings g = record { holds = ok; link = auth }

      open-holds : (s : Secured) (requests : Requests) (f : Frame) → IsLoginKey us n requests.session → Grants (on_open Open a s requests f).seals → Holds us n (on_open Open a s requests f)
      open-holds s requests f auth g = by_tests (f.tag == 18) (f.tag == 19) g
        where
          by_tests : (ask ack : Bool) → Grants (if ask then on_keepalive a s (λ behind. Open behind requests) (payload keepalive2_layout.form f)
              else if ack then on_keepalive_ack a s (λ behind. Open behind requests) (payload keepalive2_ack_layout.form f) else on_reply Open a s requests f).seals
              → Holds us n (if ask then on_keepalive a s (λ behind. Open behind requests) (payload keepalive2_layout.form f)
              else if ack then on_keepalive_ack a s (λ behind. Open behind requests) (payload keepalive2_ack_layout.form f) else on_reply Open a s requests f)
          by_tests true ack g = keepalive-holds us n a ok s requests (payload keepalive2_layout.form f) auth
          by_tests false true g = keepalive_ack-holds us n a ok s requests (payload keepalive2_ack_layout.form f) auth
          by_tests false false g =
              takes-holds s requests (message_taken a.own.secret requests (message_in f)) auth (message-brings a.own.secret requests (message_in f) auth) g

      -- what opened is granted, whatever comes of it
      opened-granted : (gid : ℕ) (opened : List SealEntry) (value : Option LoggedIn) → Grants (on_opened a gid opened value).seals → Grants opened
      opened-granted gid opened None g = g
      opened-granted gid opened (Some x) g = by_signed (signed_frame (connector_keys x.secret) x.auth.session (take a.link.taken a.link.received)) g
        where
          by_signed : (r : Result SealedFrame BytesFault) → Grants (signs a (record { gid = gid; opened = x }) opened r).seals → Grants opened
          by_signed (Err why) g = g
          by_signed (Ok sealed) g = granted-first run.leaked whole_log n line log opened sealed.seals g

      opened-holds : (gid : ℕ) (opened : List SealEntry) (value : Option LoggedIn) → ((x : LoggedIn) → value ≡ Some x → IsLoginKey us n x.auth.session × AreSessions us n x.tickets)
          → Holds us n (on_opened a gid opened value)
      opened-holds gid opened None says = refuses-holds us n a _ opened ok
      opened-holds gid opened (Some x) says =
          let ours = says x refl in
          signs-holds us n a ok (record { gid = gid; opened = x }) opened (signed_frame (connector_keys x.secret) x.auth.session (take a.link.taken a.link.received)) ours.0 ours.1

      module _ (secret : Means us a.own.secret (Secret name)) where
        login_done-holds : (gid : ℕ) (read : Result LoginDone BytesFault) → Grants (on_login_done a gid read).seals → Holds us n (on_login_done a gid read)
        login_done-holds gid (Err why) g = refuses-holds us n a _ [] ok
        login_done-holds gid (Ok done) g =
            let u : Unlocked LoggedIn = login_in a.own.secret done in
            let granted : Grants u.seals = opened-granted gid u.seals u.value g in
            opened-holds gid u.seals u.value
            (λ x e. login-told run whole_log n line us J name free here a.own.secret done.tickets done.connection_secret secret log i granted x e)

        done-holds : (read : Result AuthDone BytesFault) → Grants (on_done a read).seals → Holds us n (on_done a read)
        done-holds (Err why) g = refuses-holds us n a _ [] ok
        done-holds (Ok done) g = by_test (not (done.mode == 2)) g
          where
            by_test : (t : Bool) → Grants (if t then refuses a (reason.Login Mode) [] else on_login_done a done.gid (whole login_done_layout.form done.payload)).seals
                → Holds us n (if t then refuses a (reason.Login Mode) [] else on_login_done a done.gid (whole login_done_layout.form done.payload))
            by_test true g = refuses-holds us n a _ [] ok
            by_test false g = login_done-holds done.gid (whole login_done_layout.form done.payload) g

        proved-holds : (f : Frame) → Grants (while_proved a f).seals → Holds us n (while_proved a f)
        proved-holds f g = by_test (f.tag == 3) g
          where
            by_test : (t : Bool) → Grants (if t then on_bad_method a (payload bad_method_layout.form f) else on_done a (due 6 auth_done_layout.form f)).seals
                → Holds us n (if t then on_bad_method a (payload bad_method_layout.form f) else on_done a (due 6 auth_done_layout.form f))
            by_test true g = bad_method-holds us n a ok (payload bad_method_layout.form f)
            by_test false g = done-holds (due 6 auth_done_layout.form f) g

-- ---- a turn

-- where what a row logs is granted, this is held behind it
abbrev pub HoldsWhere : WholeRun → List Logged → NodeName → ℕ → Uses → List Logged → MonClientRow → Type 0
HoldsWhere run whole_log n line us log row = AreGranted run.leaked whole_log n line log row.seals → Holds us n row

module _ (run : WholeRun) (whole_log : List Logged) (n : NodeName) (line : ℕ) (us : Uses) (log : List Logged) (J : List Entry) (name : Name)
    (free : NeverExcepted run whole_log n us name) (here : n ≡ node.Entity name) (i : Inv run whole_log us log J) where
  abbrev P : MonClientRow → Type 0
  P row = HoldsWhere run whole_log n line us log row

  -- a frame on an open link, behind the parts of it that opened
  behind-open : (b : MonClientArrival) (t : Secured) (requests : Requests) (f : Frame) (opened : List SealEntry) → HoldingsOk us n b.own.holdings → IsLoginKey us n requests.session
      → Allowed us J n opened → P (with_opened opened (on_open Open b t requests f))
  behind-open b t requests f opened ok auth al g =
      let later : List Logged = behind n line opened log in
      let j : Inv run whole_log us later J = inv-all run whole_log us log J n line opened i al in
      behind-holds us n opened (on_open Open b t requests f)
      (open-holds run whole_log n line us later J name free here j b ok t requests f auth (granted-rest run.leaked whole_log n line log opened (on_open Open b t requests f).seals g))

  pub mon_client-holds : (a : MonClientArrival) (stage : Stage) → Means us a.own.secret (Secret name) → HoldingsOk us n a.own.holdings → SessionsIn us n stage → EachRow P (turned_at a stage)
  mon_client-holds a (AwaitsBanner asked) secret ok st =
      each-turned P (λ link _. on_banner (at a link) asked) (λ link opened g. plain-holds us n (at a link) (AwaitsHello asked) [] (plain_frame (own_hello a.own.name.kind)) ok tt) (banner_next a.link)
  mon_client-holds a (AwaitsHello asked) secret ok st =
      each-turned P (λ (link, f) _. on_hello (at a link) asked (due 1 hello_layout.form f)) (λ (link, f) opened g. hello-holds us n (at a link) ok asked (due 1 hello_layout.form f)) (plain_next a.link)
  mon_client-holds a (AwaitsChallenge asked) secret ok st =
      each-turned P (λ (link, f) _. while_challenged (at a link) asked f) (λ (link, f) opened g. challenged-holds us n (at a link) ok asked f) (plain_next a.link)
  mon_client-holds a AwaitsDone secret ok st =
      each-turned P (λ (link, f) _. while_proved (at a link) f) (λ (link, f) opened g. proved-holds run whole_log n line us log J name free here i (at a link) ok secret f g) (plain_next a.link)
  mon_client-holds a (AwaitsSignature s login) secret ok st =
      each-opened P us J n s.keys (λ l k f. on_signature (at a l) (under s k) login (due 7 auth_signature_layout.form f)) a.link
      (λ l k f opened same al g. behind-holds us n opened _ (signature-holds us n (at a l) ok (under s k) login (due 7 auth_signature_layout.form f) st.0 st.1))
  mon_client-holds a (AwaitsIdent s session) secret ok st =
      each-opened P us J n s.keys (λ l k f. while_identified (at a l) (under s k) session f) a.link
      (λ l k f opened same al g. behind-holds us n opened _ (identified-holds us n (at a l) ok (under s k) session f st))
  mon_client-holds a (Open s requests) secret ok st =
      each-opened P us J n s.keys (λ l k f. on_open Open (at a l) (under s k) requests f) a.link
      (λ l k f opened same al g. behind-open (at a l) (under s k) requests f opened ok st al g)
