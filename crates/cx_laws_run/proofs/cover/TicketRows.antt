-- Each row of a client's link to the monitor leaves it so that it asks for tickets alone, and enters no fetch.
use Rattle.std.proofs.Common.{◌≡◌, ◌==◌, ℕ, Bool, true, false, List, [], ◌∷◌, take, Option, Some, None, Result, Ok, Err, sym, subst}
use Rattle.std.specs.Prelude.{IfSome, if◌then◌else◌, not}
use Rattle.std.specs.List.{AllByRecursion}
use Rattle.cx_base.specs.Names.{is_daemon_type}
use Rattle.cx_control.specs.Auth.{auth_done_layout, auth_reply_more_layout, auth_signature_layout}
use Rattle.cx_control.specs.BadMethod.{bad_method_layout}
use Rattle.cx_control.specs.Hello.{hello_layout}
use Rattle.cx_control.specs.Idents.{ident_missing_features_layout, server_ident_layout}
use Rattle.cx_control.specs.Upkeep.{keepalive2_ack_layout, keepalive2_layout}
use Rattle.cx_control.specs.declared.auth.AuthDone.{AuthDone}
use Rattle.cx_control.specs.declared.auth.AuthReplyMore.{AuthReplyMore}
use Rattle.cx_control.specs.declared.auth.AuthSignature.{AuthSignature}
use Rattle.cx_control.specs.declared.hello.Hello.{Hello}
use Rattle.cx_control.specs.declared.idents.IdentMissingFeatures.{IdentMissingFeatures}
use Rattle.cx_control.specs.declared.idents.ServerIdent.{ServerIdent}
use Rattle.cx_control.specs.declared.upkeep.Keepalive2.{Keepalive2}
use Rattle.cx_control.specs.declared.upkeep.Keepalive2Ack.{Keepalive2Ack}
use Rattle.cx_dice.specs.Draws.{cookie_of}
use Rattle.cx_frame.specs.declared.frame.Frame.{Frame}
use Rattle.cx_journal.specs.declared.faults.BytesFault.{BytesFault}
use Rattle.cx_journal.specs.declared.faults.BytesFault.TheVariants.{Unexpected}
use Rattle.cx_journal.specs.declared.faults.LoginFault.TheVariants.{Mode, SignatureWrong}
use Rattle.cx_journal.specs.declared.outcomes.Reason.{Reason}
use Rattle.cx_journal.specs.declared.outcomes.Reason.TheVariants as reason
use Rattle.cx_laws_run.specs.cx_login.specs.Held.{Held}
use Rattle.cx_laws_run.specs.cx_login.specs.Unlocking.{login_in, told_each}
use Rattle.cx_laws_run.specs.cx_login.specs.declared.client.LoggedIn.{LoggedIn}
use Rattle.cx_laws_run.specs.cx_rules.specs.Connector.{MonClientArrival, MonClientRow, Stage, AwaitsBanner, AwaitsHello, AwaitsChallenge, AwaitsDone, AwaitsSignature, AwaitsIdent, Login, Open, client_ident, holding, identifies, login_request, on_bad_method, on_banner, on_challenge, on_done, on_hello, on_login_done, on_missing_features, on_opened, on_reply_more, on_signature, proves, signs, turned_at, while_challenged, while_identified, while_proved}
use Rattle.cx_laws_run.specs.cx_rules.specs.Fronts.{banner_next, plain_next, secure_next}
use Rattle.cx_laws_run.specs.cx_rules.specs.Greetings.{own_hello}
use Rattle.cx_laws_run.specs.cx_rules.specs.Holdings.{held_login}
use Rattle.cx_laws_run.specs.cx_rules.specs.Links.{Link}
use Rattle.cx_laws_run.specs.cx_rules.specs.Messages.{Message, body_as, message_in}
use Rattle.cx_laws_run.specs.cx_rules.specs.Payloads.{due, payload, whole}
use Rattle.cx_laws_run.specs.cx_rules.specs.Requests.{Requests, body_taken, later, message_taken, no_requests, on_open, on_reply, on_server_ident, opens_to, reply_taken, sealed_request, sends_request, takes, tickets_taken, waiting_taken}
use Rattle.cx_laws_run.specs.cx_rules.specs.Rows.{at, goes_on, refuses, secure_sent, unless_refused, with_opened}
use Rattle.cx_laws_run.specs.cx_rules.specs.Secured.{SealedFrame, Secured, connector_keys, is_signed, plain_frame, secure_frame, signature_found, signed_frame, under}
use Rattle.cx_laws_run.specs.cx_rules.specs.Upkeep.{on_keepalive, on_keepalive_ack}
use Rattle.cx_laws_run.specs.cx_rules.specs.declared.messages.Body.{Body}
use Rattle.cx_laws_run.specs.cx_rules.specs.declared.messages.Body.TheVariants as body
use Rattle.cx_laws_run.specs.cx_rules.specs.declared.requests.Taken.{Taken}
use Rattle.cx_laws_run.specs.cx_rules.specs.declared.requests.Taken.TheVariants as taken
use Rattle.cx_laws_run.specs.cx_rules.specs.declared.requests.Waiting.{Waiting}
use Rattle.cx_laws_run.specs.cx_rules.specs.declared.requests.Want.{Want}
use Rattle.cx_laws_run.specs.cx_rules.specs.declared.requests.Want.TheVariants.{Rotating, Tickets}
use Rattle.cx_laws_run.specs.cx_run.proofs.Taking.{EachRow, each-turned}
use Rattle.cx_steps.specs.declared.seals.DrawMark.TheVariants as draw
use Rattle.cx_steps.specs.declared.seals.SealEntry.{SealEntry}
use Rattle.cx_steps.specs.declared.seals.SealEntry.TheVariants as entry
use Rattle.cx_laws_run.specs.cx_wire.specs.Bodies.{reply_layout}
use Rattle.cx_laws_run.specs.cx_wire.specs.Logins.{login_done_layout, server_challenge_layout}
use Rattle.cx_laws_run.specs.cx_wire.specs.declared.bodies.Reply.{Reply}
use Rattle.cx_laws_run.specs.cx_wire.specs.declared.bodies.Reply.TheVariants as given
use Rattle.cx_laws_run.specs.cx_wire.specs.declared.bodies.Request.TheVariants as asked
use Rattle.cx_laws_run.specs.cx_wire.specs.declared.logins.LoginDone.{LoginDone}
use Rattle.cx_laws_run.specs.cx_wire.specs.declared.logins.ServerChallenge.{ServerChallenge}
use Rattle.cx_laws_run.proofs.cover.ClientAsks.{AskTickets, IsNoFetch, StageAsks, WantsTickets}

-- a link that goes on asks for tickets alone, and nothing is fetched
pub record RowAsks (row : MonClientRow) : Type 0 where
  pub link : IfSome row.link (λ (l : Link Stage). StageAsks l.stage)
  pub entries : AllByRecursion IsNoFetch row.entries

-- ---- rows

module _ (a : MonClientArrival) where
  refuses-asks : (why : Reason) (seals : List SealEntry) → RowAsks (refuses a why seals)
  refuses-asks why seals = record { link = tt; entries = (tt, tt) }

  sent-asks : (stage : Stage) (before seals : List SealEntry) → StageAsks stage → (r : Result (List ℕ) BytesFault) → RowAsks (unless_refused a before r (λ bytes. goes_on a stage bytes seals))
  sent-asks stage before seals asks (Ok bytes) = record { link = asks; entries = tt }
  sent-asks stage before seals asks (Err why) = record { link = tt; entries = (tt, tt) }

  secure-asks : (s : Secured) (stage : Secured → Stage) (before : List SealEntry) → ((t : Secured) → StageAsks (stage t)) → (r : Result SealedFrame BytesFault) → RowAsks (secure_sent a s stage before r)
  secure-asks s stage before asks (Ok sealed) = record { link = asks (record s { keys = sealed.keys }); entries = tt }
  secure-asks s stage before asks (Err why) = record { link = tt; entries = (tt, tt) }

  banner-asks : (asked : ℕ) → RowAsks (on_banner a asked)
  banner-asks asked = sent-asks (AwaitsHello asked) [] [] tt (plain_frame (own_hello a.own.name.kind))

  hello-asks : (asked : ℕ) (read : Result Hello BytesFault) → RowAsks (on_hello a asked read)
  hello-asks asked (Err why) = refuses-asks (reason.Bytes why) []
  hello-asks asked (Ok hello) = sent-asks (AwaitsChallenge asked) [] [] tt (plain_frame (login_request a.own))

  denied-asks : (read : Result (ℕ × (ℕ × (List ℕ × List ℕ))) BytesFault) → RowAsks (on_bad_method a read)
  denied-asks (Err why) = record { link = tt; entries = (tt, tt) }
  denied-asks (Ok fields) = record { link = tt; entries = (tt, tt) }

  proves-asks : (server : ℕ) (made : Result (List ℕ) BytesFault) → RowAsks (proves a server made)
  proves-asks server (Ok bytes) = record { link = tt; entries = tt }
  proves-asks server (Err why) = record { link = tt; entries = (tt, tt) }

  challenge-asks : (asked : ℕ) (read : Result ServerChallenge BytesFault) → RowAsks (on_challenge a asked read)
  challenge-asks asked (Err why) = refuses-asks (reason.Bytes why) []
  challenge-asks asked (Ok server) = proves-asks server.challenge _

  more-asks : (asked : ℕ) (read : Result AuthReplyMore BytesFault) → RowAsks (on_reply_more a asked read)
  more-asks asked (Err why) = refuses-asks (reason.Bytes why) []
  more-asks asked (Ok more) = challenge-asks asked (whole server_challenge_layout.form more.payload)

  challenged-asks : (asked : ℕ) (f : Frame) → RowAsks (while_challenged a asked f)
  challenged-asks asked f = by_test (f.tag == 3)
    where
      by_test : (denied : Bool) → RowAsks (if denied then on_bad_method a (payload bad_method_layout.form f) else on_reply_more a asked (due 4 auth_reply_more_layout.form f))
      by_test true = denied-asks (payload bad_method_layout.form f)
      by_test false = more-asks asked (due 4 auth_reply_more_layout.form f)

  signs-asks : (login : Login) (opened : List SealEntry) (made : Result SealedFrame BytesFault) → RowAsks (signs a login opened made)
  signs-asks login opened (Ok sealed) = record { link = tt; entries = tt }
  signs-asks login opened (Err why) = record { link = tt; entries = (tt, tt) }

  opened-asks : (gid : ℕ) (opened : List SealEntry) (value : Option LoggedIn) → RowAsks (on_opened a gid opened value)
  opened-asks gid opened None = record { link = tt; entries = (tt, tt) }
  opened-asks gid opened (Some x) = signs-asks (record { gid = gid; opened = x }) opened (signed_frame (connector_keys x.secret) x.auth.session (take a.link.taken a.link.received))

  login_done-asks : (gid : ℕ) (read : Result LoginDone BytesFault) → RowAsks (on_login_done a gid read)
  login_done-asks gid (Err why) = refuses-asks (reason.Bytes why) []
  login_done-asks gid (Ok done) = opened-asks gid (login_in a.own.secret done).seals (login_in a.own.secret done).value

  done-asks : (read : Result AuthDone BytesFault) → RowAsks (on_done a read)
  done-asks (Err why) = refuses-asks (reason.Bytes why) []
  done-asks (Ok done) = by_test (not (done.mode == 2))
    where
      by_test : (other : Bool) → RowAsks (if other then refuses a (reason.Login Mode) [] else on_login_done a done.gid (whole login_done_layout.form done.payload))
      by_test true = refuses-asks (reason.Login Mode) []
      by_test false = login_done-asks done.gid (whole login_done_layout.form done.payload)

  proved-asks : (f : Frame) → RowAsks (while_proved a f)
  proved-asks f = by_test (f.tag == 3)
    where
      by_test : (denied : Bool) → RowAsks (if denied then on_bad_method a (payload bad_method_layout.form f) else on_done a (due 6 auth_done_layout.form f))
      by_test true = denied-asks (payload bad_method_layout.form f)
      by_test false = done-asks (due 6 auth_done_layout.form f)

  signature-asks : (s : Secured) (login : Login) (read : Result AuthSignature BytesFault) → RowAsks (on_signature a s login read)
  signature-asks s login (Err why) = refuses-asks (reason.Bytes why) []
  signature-asks s login (Ok found) = by_test (is_signed s found.signature)
    where
      sends : (r : Result SealedFrame BytesFault) → RowAsks (secure_sent (holding a (held_login a.own.holdings login.gid login.opened)) s (λ behind. AwaitsIdent behind login.opened.auth.session)
          (signature_found s ∷ entry.Drawn (draw.Cookie (cookie_of a.draw)) ∷ []) r)
      sends (Ok sealed) = record { link = tt; entries = tt }
      sends (Err why) = record { link = tt; entries = (tt, tt) }

      by_test : (right : Bool) → RowAsks (if right then identifies a s login else refuses a (reason.Login SignatureWrong) [])
      by_test true = sends (secure_frame s.keys (client_ident a.own login.gid 1 (cookie_of a.draw)))
      by_test false = refuses-asks (reason.Login SignatureWrong) []

  -- a client asks nothing of itself
  opens-asks : is_daemon_type a.own.name.kind ≡ false → (s : Secured) (session : List ℕ) → RowAsks (opens_to Open a s (no_requests session))
  opens-asks client s session =
      subst (λ (t : Bool). RowAsks (if t then sends_request Open a s (no_requests session) (Rotating a.reading) (sealed_request s.keys (no_requests session) asked.Rotating) else goes_on a (Open s (no_requests session)) [] [])) (sym client)
      (record { link = tt; entries = tt })

  server_ident-asks : is_daemon_type a.own.name.kind ≡ false → (s : Secured) (session : List ℕ) (read : Result ServerIdent BytesFault) → RowAsks (on_server_ident Open a s session read)
  server_ident-asks client s session (Err why) = refuses-asks (reason.Bytes why) []
  server_ident-asks client s session (Ok ident) = opens-asks client s session

  missing-asks : (read : Result IdentMissingFeatures BytesFault) → RowAsks (on_missing_features a read)
  missing-asks (Err why) = record { link = tt; entries = (tt, tt) }
  missing-asks (Ok missing) = record { link = tt; entries = (tt, tt) }

  identified-asks : is_daemon_type a.own.name.kind ≡ false → (s : Secured) (session : List ℕ) (f : Frame) → RowAsks (while_identified a s session f)
  identified-asks client s session f = by_test (f.tag == 10)
    where
      by_test : (lacks : Bool) → RowAsks (if lacks then on_missing_features a (payload ident_missing_features_layout.form f)
          else on_server_ident Open a s session (due 9 server_ident_layout.form f))
      by_test true = missing-asks (payload ident_missing_features_layout.form f)
      by_test false = server_ident-asks client s session (due 9 server_ident_layout.form f)

  -- ---- a reply

  -- it is taken for no generations
  abbrev HoldsAtMost : Taken → Type 0
  HoldsAtMost (taken.Refuses why opened) = Unit {0}
  HoldsAtMost (taken.Holds held opened) = Unit {0}
  HoldsAtMost (taken.Views reading generations opened) = ⊥

  tickets-holds : (opened : List SealEntry) (value : Option (List Held)) → HoldsAtMost (tickets_taken opened value)
  tickets-holds opened None = tt
  tickets-holds opened (Some held) = tt

  module _ (secret : List ℕ) where
    reply-holds : (session : List ℕ) (want : Want) (reply : Reply) → WantsTickets want → HoldsAtMost (reply_taken secret session want reply)
    reply-holds session Tickets (given.Tickets parts) wants = tickets-holds (told_each session parts).seals (told_each session parts).value
    reply-holds session Tickets (given.Rotating sealed) wants = tt
    reply-holds session (Rotating reading) reply wants = absurd wants

    waiting-holds : (session : List ℕ) (waiting : List Waiting) (tid : ℕ) (reply : Reply) → AskTickets waiting → HoldsAtMost (waiting_taken secret session waiting tid reply)
    waiting-holds session [] tid reply asks = tt
    waiting-holds session (first ∷ rest) tid reply asks = by_test (tid == first.tid)
      where
        by_test : (t : Bool) → HoldsAtMost (if t then reply_taken secret session first.want reply else taken.Refuses reason.BadReply [])
        by_test true = reply-holds session first.want reply asks.0
        by_test false = tt

    body-holds : (r : Requests) (tid : ℕ) (b : Body Reply) → AskTickets r.waiting → HoldsAtMost (body_taken secret r tid b)
    body-holds r tid (body.Spelled reply) asks = waiting-holds r.session r.waiting tid reply asks
    body-holds r tid body.OtherCode asks = tt
    body-holds r tid (body.Misspelled why) asks = tt

    message-holds : (r : Requests) (m : Result Message BytesFault) → AskTickets r.waiting → HoldsAtMost (message_taken secret r m)
    message-holds r (Err why) asks = tt
    message-holds r (Ok m) asks = by_test (m.header.type_ == 18)
      where
        by_test : (t : Bool) → HoldsAtMost (if t then body_taken secret r m.header.tid (body_as reply_layout.form m.body) else taken.Refuses (reason.Bytes (Unexpected 17)) [])
        by_test true = body-holds r m.header.tid (body_as reply_layout.form m.body) asks
        by_test false = tt

  later-asks : (waiting : List Waiting) → AskTickets waiting → AskTickets (later waiting)
  later-asks [] asks = tt
  later-asks (first ∷ rest) asks = asks.1

  takes-asks : (s : Secured) (r : Requests) (t : Taken) → AskTickets r.waiting → HoldsAtMost t → RowAsks (takes Open a s r t)
  takes-asks s r (taken.Refuses why opened) asks holds = record { link = tt; entries = (tt, tt) }
  takes-asks s r (taken.Holds held opened) asks holds = record { link = later-asks r.waiting asks; entries = tt }
  takes-asks s r (taken.Views reading generations opened) asks holds = absurd holds

  keepalive-asks : (s : Secured) (r : Requests) → AskTickets r.waiting → (read : Result Keepalive2 BytesFault) → RowAsks (on_keepalive a s (λ behind. Open behind r) read)
  keepalive-asks s r asks (Err why) = refuses-asks (reason.Bytes why) []
  keepalive-asks s r asks (Ok keepalive) = secure-asks s (λ behind. Open behind r) [] (λ t. asks) _

  keepalive_ack-asks : (s : Secured) (r : Requests) → AskTickets r.waiting → (read : Result Keepalive2Ack BytesFault) → RowAsks (on_keepalive_ack a s (λ behind. Open behind r) read)
  keepalive_ack-asks s r asks (Err why) = refuses-asks (reason.Bytes why) []
  keepalive_ack-asks s r asks (Ok ack) = record { link = asks; entries = tt }

  open-asks : (s : Secured) (r : Requests) (f : Frame) → AskTickets r.waiting → RowAsks (on_open Open a s r f)
  open-asks s r f asks = by_tests (f.tag == 18) (f.tag == 19)
    where
      by_tests : (ask ack : Bool) → RowAsks (if ask then on_keepalive a s (λ behind. Open behind r) (payload keepalive2_layout.form f)
          else if ack then on_keepalive_ack a s (λ behind. Open behind r) (payload keepalive2_ack_layout.form f) else on_reply Open a s r f)
      by_tests true ack = keepalive-asks s r asks (payload keepalive2_layout.form f)
      by_tests false true = keepalive_ack-asks s r asks (payload keepalive2_ack_layout.form f)
      by_tests false false = takes-asks s r (message_taken a.own.secret r (message_in f)) asks (message-holds a.own.secret r (message_in f) asks)

-- ---- a turn

with-asks : (opened : List SealEntry) (row : MonClientRow) → RowAsks row → RowAsks (with_opened opened row)
with-asks opened row h = record { link = h.link; entries = h.entries }

pub turned-asks : (a : MonClientArrival) → is_daemon_type a.own.name.kind ≡ false → (stage : Stage) → StageAsks stage → EachRow RowAsks (turned_at a stage)
turned-asks a client (AwaitsBanner asked) asks = each-turned RowAsks (λ link _. on_banner (at a link) asked) (λ link opened. banner-asks (at a link) asked) (banner_next a.link)
turned-asks a client (AwaitsHello asked) asks =
    each-turned RowAsks (λ (link, f) _. on_hello (at a link) asked (due 1 hello_layout.form f)) (λ (link, f) opened. hello-asks (at a link) asked (due 1 hello_layout.form f)) (plain_next a.link)
turned-asks a client (AwaitsChallenge asked) asks =
    each-turned RowAsks (λ (link, f) _. while_challenged (at a link) asked f) (λ (link, f) opened. challenged-asks (at a link) asked f) (plain_next a.link)
turned-asks a client AwaitsDone asks = each-turned RowAsks (λ (link, f) _. while_proved (at a link) f) (λ (link, f) opened. proved-asks (at a link) f) (plain_next a.link)
turned-asks a client (AwaitsSignature s login) asks =
    each-turned RowAsks (λ (link, f, keys) opened. with_opened opened (on_signature (at a link) (under s keys) login (due 7 auth_signature_layout.form f)))
    (λ (link, f, keys) opened. with-asks opened _ (signature-asks (at a link) (under s keys) login (due 7 auth_signature_layout.form f))) (secure_next s.keys a.link)
turned-asks a client (AwaitsIdent s session) asks =
    each-turned RowAsks (λ (link, f, keys) opened. with_opened opened (while_identified (at a link) (under s keys) session f))
    (λ (link, f, keys) opened. with-asks opened _ (identified-asks (at a link) client (under s keys) session f)) (secure_next s.keys a.link)
turned-asks a client (Open s r) asks =
    each-turned RowAsks (λ (link, f, keys) opened. with_opened opened (on_open Open (at a link) (under s keys) r f))
    (λ (link, f, keys) opened. with-asks opened _ (open-asks (at a link) (under s keys) r f asks)) (secure_next s.keys a.link)
