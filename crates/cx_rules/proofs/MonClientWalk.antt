-- A walk over the rows of one that logs in at the monitor: what is closed under the ways in which a row is made holds of each row.
use Rattle.std.proofs.Common.{◌≡◌, ℕ, ◌+◌, ◌==◌, inl, inr, Bool, true, false, List, [], ◌∷◌, ◌++◌, take, Option, Some, None, Result, Ok, Err, refl}
use Rattle.std.specs.Prelude.{◌-◌, ◌^◌, not, if◌then◌else◌}
use Rattle.cx_login.specs.cx_control.specs.Auth.{auth_done_layout, auth_reply_more_layout, auth_request_more_layout, auth_signature_layout}
use Rattle.cx_login.specs.cx_control.specs.Hello.{hello_layout}
use Rattle.cx_login.specs.cx_control.specs.Idents.{ident_missing_features_layout, server_ident_layout}
use Rattle.cx_login.specs.cx_control.specs.Upkeep.{keepalive2_layout, keepalive2_ack_layout}
use Rattle.cx_login.specs.cx_control.specs.declared.auth.AuthDone.{AuthDone}
use Rattle.cx_login.specs.cx_control.specs.declared.auth.AuthReplyMore.{AuthReplyMore}
use Rattle.cx_login.specs.cx_control.specs.declared.auth.AuthSignature.{AuthSignature}
use Rattle.cx_login.specs.cx_control.specs.declared.hello.Hello.{Hello}
use Rattle.cx_login.specs.cx_control.specs.declared.idents.IdentMissingFeatures.{IdentMissingFeatures}
use Rattle.cx_login.specs.cx_control.specs.declared.idents.ServerIdent.{ServerIdent}
use Rattle.cx_login.specs.cx_control.specs.declared.upkeep.Keepalive2.{Keepalive2}
use Rattle.cx_login.specs.cx_control.specs.declared.upkeep.Keepalive2Ack.{Keepalive2Ack}
use Rattle.cx_keyserver.specs.cx_dice.specs.Draws.{challenge_of, cookie_of}
use Rattle.cx_stream.specs.cx_frame.specs.declared.frame.Frame.{Frame}
use Rattle.cx_login.specs.cx_journal.specs.declared.faults.BytesFault.{BytesFault}
use Rattle.cx_login.specs.cx_journal.specs.declared.outcomes.Reason.{Reason}
use Rattle.cx_login.specs.cx_journal.specs.declared.outcomes.Reason.TheVariants as reason
use Rattle.cx_login.specs.Client.{Ask, authenticate}
use Rattle.cx_login.specs.declared.client.LoggedIn.{LoggedIn}
use Rattle.cx_login.specs.cx_steps.specs.declared.seals.DrawMark.TheVariants as draw
use Rattle.cx_login.specs.cx_steps.specs.declared.seals.SealEntry.{SealEntry}
use Rattle.cx_login.specs.cx_steps.specs.declared.seals.SealEntry.TheVariants.{Drawn}
use Rattle.cx_login.specs.cx_wire.specs.Logins.{authenticate_layout, login_done_layout, server_challenge_layout}
use Rattle.cx_login.specs.cx_wire.specs.declared.logins.LoginDone.{LoginDone}
use Rattle.cx_login.specs.cx_wire.specs.declared.logins.ServerChallenge.{ServerChallenge}
use Rattle.cx_rules.specs.Fronts.{banner_next, plain_next, secure_next}
use Rattle.cx_rules.specs.Greetings.{own_hello}
use Rattle.cx_rules.specs.Links.{Link}
use Rattle.cx_rules.specs.Payloads.{control, due, payload, whole}
use Rattle.cx_rules.specs.Rows.{at, goes_on, plain_sent, refuses, secure_sent, with_opened}
use Rattle.cx_rules.specs.Secured.{Keys, SealedFrame, Secured, connector_keys, is_signed, plain_frame, secure_frame, signature_found, signed_frame, under}
use Rattle.cx_rules.specs.Upkeep.{on_keepalive, on_keepalive_ack}
use Rattle.cx_base.specs.Names.{is_daemon_type}
use Rattle.cx_login.specs.cx_wire.specs.declared.bodies.Request.TheVariants as asked
use Rattle.cx_rules.specs.declared.requests.Taken.{Taken}
use Rattle.cx_rules.specs.declared.requests.Taken.TheVariants as taken
use Rattle.cx_rules.specs.declared.requests.Want.{Want}
use Rattle.cx_login.specs.cx_control.specs.BadMethod.{bad_method_layout, kept_method}
use Rattle.cx_login.specs.cx_journal.specs.declared.faults.BytesFault.TheVariants as bytes
use Rattle.cx_login.specs.cx_journal.specs.declared.faults.LoginFault.TheVariants.{Mode, SignatureWrong, Unopened}
use Rattle.cx_login.specs.cx_journal.specs.declared.premises.KeyKind.TheVariants as kind
use Rattle.cx_rotate.specs.declared.generations.Generation.{Generation}
use Rattle.cx_login.specs.Held.{Held}
use Rattle.cx_login.specs.Unlocking.{login_in, told_each, unlocked}
use Rattle.cx_keyserver.specs.cx_sealed.specs.Records.{rotating_reply_layout}
use Rattle.cx_keyserver.specs.cx_sealed.specs.declared.rotating_reply.RotatingReply.{RotatingReply}
use Rattle.cx_login.specs.cx_wire.specs.Bodies.{reply_layout}
use Rattle.cx_login.specs.cx_wire.specs.declared.bodies.Reply.{Reply}
use Rattle.cx_login.specs.cx_wire.specs.declared.bodies.Reply.TheVariants as given
use Rattle.cx_login.specs.cx_wire.specs.declared.bodies.Request.{Request}
use Rattle.cx_rules.specs.Holdings.{Holdings, held_login, holds_nothing, put_tickets, unexpired}
use Rattle.cx_rules.specs.Judged.{MonClientLogsStage}
use Rattle.cx_rules.specs.Messages.{Message, body_as, message_in}
use Rattle.cx_rules.specs.Connector.{MonClientArrival, MonClientRow, Login, Stage, AwaitsBanner, AwaitsHello, AwaitsChallenge, AwaitsDone, AwaitsSignature, AwaitsIdent, Open, client_ident, holding, identifies, is_open, login_request, on_bad_method, on_banner, on_challenge, on_denial, on_done, on_hello, on_login_done, on_missing_features, on_opened, on_reply_more, on_signature, proof_made, proves, signs, turned_at, while_challenged, while_identified, while_proved}
use Rattle.cx_rules.specs.Requests.{Requests, asks_rotating, behind_reply, behind_request, body_taken, message_taken, no_requests, on_open, on_reply, on_server_ident, opens_to, reply_taken, request_message, rotating_taken, sealed_request, sends_request, taken as reply_in, takes, tickets_taken, unless_unsealed, waiting_taken}
use Rattle.cx_rules.specs.declared.messages.Body.{Body}
use Rattle.cx_rules.specs.declared.messages.Body.TheVariants as body
use Rattle.cx_rules.specs.declared.requests.Waiting.{Waiting}
use Rattle.cx_rules.specs.declared.requests.Want.TheVariants as want
use Rattle.cx_rules.proofs.RowWalk.{EachRow, each-turned}

-- ---- reasons

-- a link to the monitor is refused for no ticket
abbrev pub IsNoTicket : Reason → Type 0
IsNoTicket (reason.Ticket why blob) = ⊥
IsNoTicket _ = Unit {0}

-- nor is a request that can't be sealed
abbrev pub MadeOrNoTicket : Result SealedFrame Reason → Type 0
MadeOrNoTicket (Ok sealed) = Unit {0}
MadeOrNoTicket (Err why) = IsNoTicket why

pub request-no_ticket : (keys : Keys) (r : Requests) (request : Request) → MadeOrNoTicket (sealed_request keys r request)
request-no_ticket keys r request = by_count (r.count == 2 ^ 64 - 1)
  where
    by_sealed : (made : Result SealedFrame BytesFault) → MadeOrNoTicket (unless_unsealed made)
    by_sealed (Ok sealed) = tt
    by_sealed (Err why) = tt

    by_count : (spent : Bool) → MadeOrNoTicket (if spent then Err reason.Spent else unless_unsealed (secure_frame keys (request_message (r.count + 1) request)))
    by_count true = tt
    by_count false = by_sealed (secure_frame keys (request_message (r.count + 1) request))

-- nor is a reply
abbrev TakenOrNoTicket : Taken → Type 0
TakenOrNoTicket (taken.Refuses why opened) = IsNoTicket why
TakenOrNoTicket _ = Unit {0}

taken-no_ticket : (secret : List ℕ) (r : Requests) (found : Result Message BytesFault) → TakenOrNoTicket (message_taken secret r found)
taken-no_ticket secret r (Err why) = tt
taken-no_ticket secret r (Ok m) = by_type (m.header.type_ == 18)
  where
    by_tickets : (opened : List SealEntry) (held : Option (List Held)) → TakenOrNoTicket (tickets_taken opened held)
    by_tickets opened None = tt
    by_tickets opened (Some held) = tt

    by_rotating : (reading : ℕ) (opened : List SealEntry) (told : Option RotatingReply) → TakenOrNoTicket (rotating_taken reading opened told)
    by_rotating reading opened None = tt
    by_rotating reading opened (Some told) = tt

    by_reply : (wanted : Want) (x : Reply) → TakenOrNoTicket (reply_taken secret r.session wanted x)
    by_reply want.Tickets (given.Tickets parts) = by_tickets (told_each r.session parts).seals (told_each r.session parts).value
    by_reply want.Tickets (given.Rotating sealed) = tt
    by_reply (want.Rotating reading) (given.Tickets parts) = tt
    by_reply (want.Rotating reading) (given.Rotating sealed) =
        let told = unlocked rotating_reply_layout.form kind.Principal secret sealed in by_rotating reading told.seals told.value

    by_tid : (first : Waiting) (x : Reply) (same : Bool) → TakenOrNoTicket (if same then reply_taken secret r.session first.want x else taken.Refuses reason.BadReply [])
    by_tid first x true = by_reply first.want x
    by_tid first x false = tt

    by_waiting : (waiting : List Waiting) (x : Reply) → TakenOrNoTicket (waiting_taken secret r.session waiting m.header.tid x)
    by_waiting [] x = tt
    by_waiting (first ∷ later) x = by_tid first x (m.header.tid == first.tid)

    by_body : (spelled : Body Reply) → TakenOrNoTicket (body_taken secret r m.header.tid spelled)
    by_body (body.Spelled x) = by_waiting r.waiting x
    by_body body.OtherCode = tt
    by_body (body.Misspelled why) = tt

    by_type : (due_type : Bool) → TakenOrNoTicket (if due_type then body_taken secret r m.header.tid (body_as reply_layout.form m.body) else taken.Refuses (reason.Bytes (bytes.Unexpected 17)) [])
    by_type true = by_body (body_as reply_layout.form m.body)
    by_type false = tt

-- ---- ways

-- the ways in which a row is made of an arrival, but for a view that is told: what is closed under them holds of each row
pub record MonClientWays (P : MonClientArrival → MonClientRow → Type 0) : Type 0 where
  -- the link is refused
  pub refused : (a : MonClientArrival) (why : Reason) (seals : List SealEntry) → IsNoTicket why → P a (refuses a why seals)
  -- it goes on, and what its stage drew is logged
  pub gone_on : (a : MonClientArrival) (stage : Stage) (bytes : List ℕ) (seals : List SealEntry) → MonClientLogsStage a seals stage → P a (goes_on a stage bytes seals)
  -- by then this is held
  pub held : (a : MonClientArrival) (holdings : Holdings) (row : MonClientRow) → P (holding a holdings) row → P a row
  -- this opened before
  pub behind : (a : MonClientArrival) (opened : List SealEntry) (row : MonClientRow) → P a row → P a (with_opened opened row)

-- ---- rows

module _ (P : MonClientArrival → MonClientRow → Type 0) (ways : MonClientWays P) where
  plain-row : (a : MonClientArrival) (stage : Stage) (seals : List SealEntry) (r : Result (List ℕ) BytesFault) → MonClientLogsStage a seals stage → P a (plain_sent a stage seals r)
  plain-row a stage seals (Ok bytes) logs = ways.gone_on a stage bytes seals logs
  plain-row a stage seals (Err why) logs = ways.refused a (reason.Bytes why) seals tt

  secure-row : (a : MonClientArrival) (s : Secured) (stage : Secured → Stage) (seals : List SealEntry) (r : Result SealedFrame BytesFault)
      → ((t : Secured) (more : List SealEntry) → MonClientLogsStage a (seals ++ more) (stage t)) → P a (secure_sent a s stage seals r)
  secure-row a s stage seals (Ok sealed) logs =
      ways.gone_on a (stage (record s { keys = sealed.keys })) sealed.bytes (seals ++ sealed.seals) (logs (record s { keys = sealed.keys }) sealed.seals)
  secure-row a s stage seals (Err why) logs = ways.refused a (reason.Bytes why) seals tt

  pub banner-row : (a : MonClientArrival) (asked : ℕ) → P a (on_banner a asked)
  banner-row a asked = plain-row a (AwaitsHello asked) [] (plain_frame (own_hello a.own.name.kind)) tt

  pub hello-row : (a : MonClientArrival) (asked : ℕ) (hello : Result Hello BytesFault) → P a (on_hello a asked hello)
  hello-row a asked (Err why) = ways.refused a (reason.Bytes why) [] tt
  hello-row a asked (Ok hello) = plain-row a (AwaitsChallenge asked) [] (plain_frame (login_request a.own)) tt

  proves-row : (a : MonClientArrival) (server : ℕ) (r : Result (List ℕ) BytesFault) → P a (proves a server r)
  proves-row a server (Err why) = ways.refused a (reason.Bytes why) (Drawn (draw.Challenge (challenge_of a.draw)) ∷ []) tt
  proves-row a server (Ok bytes) =
      ways.gone_on a AwaitsDone bytes (Drawn (draw.Challenge (challenge_of a.draw)) ∷ proof_made a.own.secret server (challenge_of a.draw) ∷ []) (inl refl)

  challenge-row : (a : MonClientArrival) (asked : ℕ) (server : Result ServerChallenge BytesFault) → P a (on_challenge a asked server)
  challenge-row a asked (Err why) = ways.refused a (reason.Bytes why) [] tt
  challenge-row a asked (Ok server) =
      let ask : Ask = record { secret = a.own.secret; old = unexpired a.reading a.own.holdings.auth; other_keys = asked } in
      proves-row a server.challenge (plain_frame (control 5 auth_request_more_layout.form
      (record { payload = authenticate_layout.form.text (authenticate ask server.challenge (challenge_of a.draw)) })))

  more-row : (a : MonClientArrival) (asked : ℕ) (more : Result AuthReplyMore BytesFault) → P a (on_reply_more a asked more)
  more-row a asked (Err why) = ways.refused a (reason.Bytes why) [] tt
  more-row a asked (Ok more) = challenge-row a asked (whole server_challenge_layout.form more.payload)

  denial-row : (a : MonClientArrival) (code : ℕ) → P a (on_denial a code)
  denial-row a code = by_test (code == 13)
    where
      by_test : (forgets : Bool) → P a (refuses (if forgets then holding a holds_nothing else a) (reason.Denied code) [])
      by_test true = ways.held a holds_nothing (refuses (holding a holds_nothing) (reason.Denied code) []) (ways.refused (holding a holds_nothing) (reason.Denied code) [] tt)
      by_test false = ways.refused a (reason.Denied code) [] tt

  bad_method-row : (a : MonClientArrival) (fields : Result (ℕ × (ℕ × (List ℕ × List ℕ))) BytesFault) → P a (on_bad_method a fields)
  bad_method-row a (Err why) = ways.refused a (reason.Bytes why) [] tt
  bad_method-row a (Ok fields) = denial-row a (kept_method fields).result

  pub challenged-row : (a : MonClientArrival) (asked : ℕ) (f : Frame) → P a (while_challenged a asked f)
  challenged-row a asked f = by_test (f.tag == 3)
    where
      by_test : (denied : Bool) → P a (if denied then on_bad_method a (payload bad_method_layout.form f) else on_reply_more a asked (due 4 auth_reply_more_layout.form f))
      by_test true = bad_method-row a (payload bad_method_layout.form f)
      by_test false = more-row a asked (due 4 auth_reply_more_layout.form f)

  signs-row : (a : MonClientArrival) (login : Login) (opened : List SealEntry) (r : Result SealedFrame BytesFault) → P a (signs a login opened r)
  signs-row a login opened (Err why) = ways.refused a (reason.Bytes why) opened tt
  signs-row a login opened (Ok sealed) =
      ways.gone_on a (AwaitsSignature (record { keys = sealed.keys; session = login.opened.auth.session; covered = a.link.sent }) login) sealed.bytes (opened ++ sealed.seals) tt

  opened-row : (a : MonClientArrival) (gid : ℕ) (opened : List SealEntry) (value : Option LoggedIn) → P a (on_opened a gid opened value)
  opened-row a gid opened None = ways.refused a (reason.Login Unopened) opened tt
  opened-row a gid opened (Some x) =
      signs-row a (record { gid = gid; opened = x }) opened (signed_frame (connector_keys x.secret) x.auth.session (take a.link.taken a.link.received))

  login_done-row : (a : MonClientArrival) (gid : ℕ) (done : Result LoginDone BytesFault) → P a (on_login_done a gid done)
  login_done-row a gid (Err why) = ways.refused a (reason.Bytes why) [] tt
  login_done-row a gid (Ok done) = let found = login_in a.own.secret done in opened-row a gid found.seals found.value

  done-row : (a : MonClientArrival) (done : Result AuthDone BytesFault) → P a (on_done a done)
  done-row a (Err why) = ways.refused a (reason.Bytes why) [] tt
  done-row a (Ok done) = by_test (not (done.mode == 2))
    where
      by_test : (other : Bool) → P a (if other then refuses a (reason.Login Mode) [] else on_login_done a done.gid (whole login_done_layout.form done.payload))
      by_test true = ways.refused a (reason.Login Mode) [] tt
      by_test false = login_done-row a done.gid (whole login_done_layout.form done.payload)

  pub proved-row : (a : MonClientArrival) (f : Frame) → P a (while_proved a f)
  proved-row a f = by_test (f.tag == 3)
    where
      by_test : (denied : Bool) → P a (if denied then on_bad_method a (payload bad_method_layout.form f) else on_done a (due 6 auth_done_layout.form f))
      by_test true = bad_method-row a (payload bad_method_layout.form f)
      by_test false = done-row a (due 6 auth_done_layout.form f)

  identifies-row : (a : MonClientArrival) (s : Secured) (login : Login) → P a (identifies a s login)
  identifies-row a s login =
      let holdings = held_login a.own.holdings login.gid login.opened in
      let stage : Secured → Stage = λ behind. AwaitsIdent behind login.opened.auth.session in
      let seals = signature_found s ∷ Drawn (draw.Cookie (cookie_of a.draw)) ∷ [] in
      let made = secure_frame s.keys (client_ident a.own login.gid 1 (cookie_of a.draw)) in
      ways.held a holdings (secure_sent (holding a holdings) s stage seals made) (secure-row (holding a holdings) s stage seals made (λ t more. inr (inl refl)))

  pub signature-row : (a : MonClientArrival) (s : Secured) (login : Login) (found : Result AuthSignature BytesFault) → P a (on_signature a s login found)
  signature-row a s login (Err why) = ways.refused a (reason.Bytes why) [] tt
  signature-row a s login (Ok found) = by_test (is_signed s found.signature)
    where
      by_test : (right : Bool) → P a (if right then identifies a s login else refuses a (reason.Login SignatureWrong) [])
      by_test true = identifies-row a s login
      by_test false = ways.refused a (reason.Login SignatureWrong) [] tt

  request-row : (a : MonClientArrival) (s : Secured) (r : Requests) (wanted : Want) (made : Result SealedFrame Reason) → MadeOrNoTicket made → P a (sends_request Open a s r wanted made)
  request-row a s r wanted (Ok sealed) fine = ways.gone_on a (Open (under s sealed.keys) (behind_request r wanted)) sealed.bytes sealed.seals tt
  request-row a s r wanted (Err why) fine = ways.refused a why [] fine

  opens_to-row : (a : MonClientArrival) (s : Secured) (r : Requests) → P a (opens_to Open a s r)
  opens_to-row a s r = by_test (is_daemon_type a.own.name.kind)
    where
      by_test : (daemon : Bool) → P a (if daemon then asks_rotating Open a s r else goes_on a (Open s r) [] [])
      by_test true = request-row a s r (want.Rotating a.reading) (sealed_request s.keys r asked.Rotating) (request-no_ticket s.keys r asked.Rotating)
      by_test false = ways.gone_on a (Open s r) [] [] tt

  server_ident-row : (a : MonClientArrival) (s : Secured) (session : List ℕ) (ident : Result ServerIdent BytesFault) → P a (on_server_ident Open a s session ident)
  server_ident-row a s session (Err why) = ways.refused a (reason.Bytes why) [] tt
  server_ident-row a s session (Ok ident) = opens_to-row a s (no_requests session)

  missing-row : (a : MonClientArrival) (missing : Result IdentMissingFeatures BytesFault) → P a (on_missing_features a missing)
  missing-row a (Err why) = ways.refused a (reason.Bytes why) [] tt
  missing-row a (Ok missing) = ways.refused a (reason.Bytes (bytes.Features missing.features)) [] tt

  pub identified-row : (a : MonClientArrival) (s : Secured) (session : List ℕ) (f : Frame) → P a (while_identified a s session f)
  identified-row a s session f = by_test (f.tag == 10)
    where
      by_test : (lacks : Bool) → P a (if lacks then on_missing_features a (payload ident_missing_features_layout.form f) else on_server_ident Open a s session (due 9 server_ident_layout.form f))
      by_test true = missing-row a (payload ident_missing_features_layout.form f)
      by_test false = server_ident-row a s session (due 9 server_ident_layout.form f)

  -- a view that is told is taken of the frame
  abbrev pub ViewsRow : MonClientArrival → Secured → Requests → Frame → Type 0
  ViewsRow a s r f = (reading : ℕ) (generations : List Generation) (opened : List SealEntry) → reply_in a.own.secret r f ≡ taken.Views reading generations opened
      → P a (takes Open a s r (taken.Views reading generations opened))

  takes-row : (a : MonClientArrival) (s : Secured) (r : Requests) (f : Frame) (t : Taken) → reply_in a.own.secret r f ≡ t → TakenOrNoTicket t → ViewsRow a s r f → P a (takes Open a s r t)
  takes-row a s r f (taken.Refuses why opened) is fine viewed = ways.refused a why opened fine
  takes-row a s r f (taken.Holds held opened) is fine viewed =
      let holdings = put_tickets a.own.holdings held in
      ways.held a holdings (goes_on (holding a holdings) (Open s (behind_reply r)) [] opened) (ways.gone_on (holding a holdings) (Open s (behind_reply r)) [] opened tt)
  takes-row a s r f (taken.Views reading generations opened) is fine viewed = viewed reading generations opened is

  keepalive-row : (a : MonClientArrival) (s : Secured) (r : Requests) (read : Result Keepalive2 BytesFault) → P a (on_keepalive a s (λ behind. Open behind r) read)
  keepalive-row a s r (Err why) = ways.refused a (reason.Bytes why) [] tt
  keepalive-row a s r (Ok keepalive) =
      secure-row a s (λ behind. Open behind r) [] (secure_frame s.keys (control 19 keepalive2_ack_layout.form (record { time = keepalive.time }))) (λ t more. tt)

  ack-row : (a : MonClientArrival) (s : Secured) (r : Requests) (read : Result Keepalive2Ack BytesFault) → P a (on_keepalive_ack a s (λ behind. Open behind r) read)
  ack-row a s r (Err why) = ways.refused a (reason.Bytes why) [] tt
  ack-row a s r (Ok ack) = ways.gone_on a (Open s r) [] [] tt

  pub open-row : (a : MonClientArrival) (s : Secured) (r : Requests) (f : Frame) → ViewsRow a s r f → P a (on_open Open a s r f)
  open-row a s r f viewed = by_tests (f.tag == 18) (f.tag == 19)
    where
      by_tests : (ask ack : Bool) → P a (if ask then on_keepalive a s (λ behind. Open behind r) (payload keepalive2_layout.form f)
          else if ack then on_keepalive_ack a s (λ behind. Open behind r) (payload keepalive2_ack_layout.form f) else on_reply Open a s r f)
      by_tests true ack = keepalive-row a s r (payload keepalive2_layout.form f)
      by_tests false true = ack-row a s r (payload keepalive2_ack_layout.form f)
      by_tests false false = takes-row a s r f (reply_in a.own.secret r f) refl (taken-no_ticket a.own.secret r (message_in f)) viewed

-- ---- a turn

-- where it doesn't matter how far the link was read
module _ (P : MonClientArrival → MonClientRow → Type 0) (ways : MonClientWays P)
    (moved : (a : MonClientArrival) (link : Link Stage) (row : MonClientRow) → P (at a link) row → P a row) where
  -- until the link is open
  pub mon_client-logs_in : (a : MonClientArrival) (stage : Stage) → is_open stage ≡ false → EachRow (P a) (turned_at a stage)
  mon_client-logs_in a (AwaitsBanner asked) closed =
      each-turned (P a) (λ link _. on_banner (at a link) asked) (λ link opened. moved a link (on_banner (at a link) asked) (banner-row P ways (at a link) asked)) (banner_next a.link)
  mon_client-logs_in a (AwaitsHello asked) closed =
      each-turned (P a) (λ (link, f) _. on_hello (at a link) asked (due 1 hello_layout.form f))
      (λ (link, f) opened. moved a link (on_hello (at a link) asked (due 1 hello_layout.form f)) (hello-row P ways (at a link) asked (due 1 hello_layout.form f))) (plain_next a.link)
  mon_client-logs_in a (AwaitsChallenge asked) closed =
      each-turned (P a) (λ (link, f) _. while_challenged (at a link) asked f)
      (λ (link, f) opened. moved a link (while_challenged (at a link) asked f) (challenged-row P ways (at a link) asked f)) (plain_next a.link)
  mon_client-logs_in a AwaitsDone closed =
      each-turned (P a) (λ (link, f) _. while_proved (at a link) f) (λ (link, f) opened. moved a link (while_proved (at a link) f) (proved-row P ways (at a link) f)) (plain_next a.link)
  mon_client-logs_in a (AwaitsSignature s login) closed =
      each-turned (P a) (λ (link, f, keys) opened. with_opened opened (on_signature (at a link) (under s keys) login (due 7 auth_signature_layout.form f)))
      (λ (link, f, keys) opened.
      let row = on_signature (at a link) (under s keys) login (due 7 auth_signature_layout.form f) in
      moved a link (with_opened opened row) (ways.behind (at a link) opened row (signature-row P ways (at a link) (under s keys) login (due 7 auth_signature_layout.form f))))
      (secure_next s.keys a.link)
  mon_client-logs_in a (AwaitsIdent s session) closed =
      each-turned (P a) (λ (link, f, keys) opened. with_opened opened (while_identified (at a link) (under s keys) session f))
      (λ (link, f, keys) opened.
      let row = while_identified (at a link) (under s keys) session f in
      moved a link (with_opened opened row) (ways.behind (at a link) opened row (identified-row P ways (at a link) (under s keys) session f)))
      (secure_next s.keys a.link)
  mon_client-logs_in a (Open s r) closed = absurd cc

  -- and from then on
  pub mon_client-walk : ((a : MonClientArrival) (s : Secured) (r : Requests) (f : Frame) → ViewsRow P ways a s r f) → (a : MonClientArrival) (stage : Stage) → EachRow (P a) (turned_at a stage)
  mon_client-walk viewed a (AwaitsBanner asked) = mon_client-logs_in a (AwaitsBanner asked) refl
  mon_client-walk viewed a (AwaitsHello asked) = mon_client-logs_in a (AwaitsHello asked) refl
  mon_client-walk viewed a (AwaitsChallenge asked) = mon_client-logs_in a (AwaitsChallenge asked) refl
  mon_client-walk viewed a AwaitsDone = mon_client-logs_in a AwaitsDone refl
  mon_client-walk viewed a (AwaitsSignature s login) = mon_client-logs_in a (AwaitsSignature s login) refl
  mon_client-walk viewed a (AwaitsIdent s session) = mon_client-logs_in a (AwaitsIdent s session) refl
  mon_client-walk viewed a (Open s r) =
      each-turned (P a) (λ (link, f, keys) opened. with_opened opened (on_open Open (at a link) (under s keys) r f))
      (λ (link, f, keys) opened.
      let row = on_open Open (at a link) (under s keys) r f in
      moved a link (with_opened opened row) (ways.behind (at a link) opened row (open-row P ways (at a link) (under s keys) r f (viewed (at a link) (under s keys) r f))))
      (secure_next s.keys a.link)
