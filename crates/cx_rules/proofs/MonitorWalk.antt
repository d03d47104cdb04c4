-- A walk over the rows of the monitor: what is closed under the ways in which a row is made holds of each row.
use Rattle.std.proofs.Common.{ℕ, ◌==◌, Bool, true, false, List, [], ◌∷◌, ◌++◌, map, Option, Some, None, Result, Ok, Err}
use Rattle.std.specs.Prelude.{find, not, if◌then◌else◌, ◌+◌, ◌-◌, ◌^◌}
use Rattle.std.specs.List.{list_any, AllByRecursion}
use Rattle.cx_base.specs.declared.kinds.EntityType.TheVariants.{Mon}
use Rattle.cx_login.specs.cx_control.specs.Auth.{auth_request_layout, auth_request_more_layout, auth_signature_layout}
use Rattle.cx_login.specs.cx_control.specs.Hello.{hello_layout}
use Rattle.cx_login.specs.cx_control.specs.Idents.{client_ident_layout, ident_missing_features_layout}
use Rattle.cx_login.specs.cx_control.specs.Reconnects.{session_reconnect_layout}
use Rattle.cx_login.specs.cx_control.specs.Upkeep.{keepalive2_layout, keepalive2_ack_layout}
use Rattle.cx_login.specs.cx_control.specs.declared.auth.AuthRequest.{AuthRequest}
use Rattle.cx_login.specs.cx_control.specs.declared.auth.AuthRequestMore.{AuthRequestMore}
use Rattle.cx_login.specs.cx_control.specs.declared.auth.AuthSignature.{AuthSignature}
use Rattle.cx_login.specs.cx_control.specs.declared.hello.Hello.{Hello}
use Rattle.cx_login.specs.cx_control.specs.declared.idents.ClientIdent.{ClientIdent}
use Rattle.cx_login.specs.cx_control.specs.declared.reconnects.SessionReconnect.{SessionReconnect}
use Rattle.cx_login.specs.cx_control.specs.declared.upkeep.Keepalive2.{Keepalive2}
use Rattle.cx_login.specs.cx_control.specs.declared.upkeep.Keepalive2Ack.{Keepalive2Ack}
use Rattle.cx_stream.specs.cx_frame.specs.declared.frame.Frame.{Frame}
use Rattle.cx_login.specs.cx_journal.specs.declared.faults.BytesFault.{BytesFault}
use Rattle.cx_login.specs.cx_journal.specs.declared.faults.BytesFault.TheVariants.{Unexpected}
use Rattle.cx_login.specs.cx_journal.specs.declared.faults.LoginFault.TheVariants.{Method, Mode, SignatureWrong}
use Rattle.cx_login.specs.cx_journal.specs.declared.outcomes.Reason.TheVariants.{Login}
use Rattle.cx_keyserver.specs.cx_keyring.specs.Entries.{is_named}
use Rattle.cx_keyserver.specs.Servers.{rotated_server, Server, secrets_of}
use Rattle.cx_login.specs.cx_wire.specs.Logins.{authenticate_layout, login_hello_layout}
use Rattle.cx_rules.specs.Greetings.{own_hello}
use Rattle.cx_keyserver.specs.cx_keyring.specs.declared.entries.Entry.{Entry as Principal}
use Rattle.cx_login.specs.Monitor.{Proven, kept_gid, proof_found, proving, reclaimed}
use Rattle.cx_login.specs.Unlocking.{old_ticket}
use Rattle.cx_login.specs.declared.refusals.WrongProof.{WrongProof}
use Rattle.cx_rotate.specs.declared.states.KeptState.{KeptState}
use Rattle.cx_login.specs.cx_steps.specs.declared.seals.SealEntry.{SealEntry}
use Rattle.cx_login.specs.cx_wire.specs.declared.logins.Authenticate.{Authenticate}
use Rattle.cx_login.specs.cx_wire.specs.declared.logins.LoginHello.{LoginHello}
use Rattle.cx_rules.specs.Acceptor.{AwaitsBanner, AwaitsHello, AwaitsRequest, AwaitsProof, AwaitsSignature, AwaitsIdent, Open, denies, misses, missing_told, on_auth_request, on_banner, on_hello, on_signature, server_ident, Finished, finished}
use Rattle.cx_rules.specs.Fronts.{banner_next, plain_next, secure_next}
use Rattle.cx_rules.specs.Judged.{IsHandedOut}
use Rattle.cx_rules.specs.Links.{Link}
use Rattle.cx_rules.specs.Monitor.{MonitorArrival, MonitorRow, MonitorStage, Offered}
use Rattle.cx_rules.specs.MonitorLogin.{challenges, occasion, on_authenticate, on_login_hello, proves, with_server, done_frame, hands_over, row_by}
use Rattle.cx_rules.specs.MonitorRule.{on_auth_request_more, on_client_ident, on_ident, on_request_payload, on_session_reconnect, turned_at, session_reset}
use Rattle.cx_rules.specs.Payloads.{control, due, payload, whole}
use Rattle.cx_rules.specs.Rows.{at, goes_on, refuses, refuses_bytes, sends_secure, Refuses, with_opened, plain_sent, secure_sent}
use Rattle.cx_rules.specs.Secured.{SealedFrame, Secured, is_signed, secure_frame, signature_found, under, plain_frame}
use Rattle.cx_rules.specs.Tickets.{issued_for, rotation_drawn, services_for, issued_entry}
use Rattle.cx_rules.specs.Upkeep.{on_keepalive, on_keepalive_ack}
use Rattle.cx_rules.specs.Verdicts.{Occasion, key_of, numbered, rotates, Entrant, Numbered, asking_for, entrant, issues, issues_to, numbers, Decided, login_entries}
use Rattle.cx_rules.specs.declared.responses.Bearer.{Bearer}
use Rattle.cx_login.specs.cx_journal.specs.declared.faults.LoginFault.{LoginFault}
use Rattle.cx_login.specs.cx_journal.specs.declared.outcomes.Reason.{Reason}
use Rattle.cx_login.specs.cx_enc.specs.declared.keys.Key.{Key}
use Rattle.cx_keyserver.specs.declared.refusals.NotADaemon.{NotADaemon}
use Rattle.cx_keyserver.specs.declared.tickets.Ticket.{Ticket}
use Rattle.cx_rotate.specs.declared.generations.Generation.{Generation}
use Rattle.cx_login.specs.cx_wire.specs.declared.bodies.Request.{Request}
use Rattle.cx_rules.specs.KeptStates.{changed}
use Rattle.cx_rules.specs.MonitorRequests.{heard, on_demand, on_message, on_open, reply_message, request_occasion, responds, sends_reply, serving, demand_of, ordered}
use Rattle.cx_rules.specs.Replies.{Responded, answers, answers_by, asking_of, issues_tickets, others_for, tells_generations, tells_tickets}
use Rattle.cx_rules.specs.declared.responses.Demand.{Demand}
use Rattle.cx_rules.specs.declared.responses.ReplyMade.{ReplyMade}
use Rattle.cx_rules.specs.declared.responses.Response.{Response}
use Rattle.cx_rules.proofs.Granting.{Replies}
use Rattle.cx_keyserver.specs.cx_cbc.specs.Envelope.{sealed}
use Rattle.cx_rules.specs.declared.verdicts.HandedOut.{HandedOut}
use Rattle.cx_rules.specs.Inputs.{Bytes}
use Rattle.cx_rules.specs.declared.verdicts.Verdict.{Verdict}
use Rattle.cx_rules.specs.declared.verdicts.Verdict.TheVariants.{Denied, Granted}
use Rattle.cx_rules.specs.Messages.{message_in}
use Rattle.cx_login.specs.cx_journal.specs.declared.faults.SessionFault.TheVariants.{Gap}
use Rattle.cx_rules.proofs.MonClientWalk.{IsNoTicket}
use Rattle.cx_rules.proofs.RowWalk.{EachRow, each-turned}
use Rattle.cx_login.specs.cx_journal.specs.declared.faults.LoginFault.TheVariants as login
use Rattle.cx_login.specs.cx_wire.specs.declared.bodies.Request.TheVariants as asked
use Rattle.cx_rules.specs.declared.responses.Response.TheVariants as response
use Rattle.cx_login.specs.cx_journal.specs.declared.outcomes.Reason.TheVariants as reason

-- ---- what is entered of what is handed out

issued-handed : (tickets : List Ticket) → AllByRecursion IsHandedOut (map issued_entry tickets)
issued-handed [] = tt
issued-handed (t ∷ tickets) = (tt, issued-handed tickets)

login-handed : (save : Option KeptState) (tickets : List Ticket) → AllByRecursion IsHandedOut (login_entries save tickets)
login-handed None tickets = issued-handed tickets
login-handed (Some state) tickets = (tt, issued-handed tickets)

abbrev VerdictHands : Verdict → Type 0
VerdictHands (Denied why seals) = Unit {0}
VerdictHands (Granted h) = AllByRecursion IsHandedOut h.entries

issues-hands : (on : Occasion) (server : Server) (e : Entrant) (own : List ℕ) (r : Result (List Ticket) LoginFault) → VerdictHands (issues on server e own r).verdict
issues-hands on server e own (Err why) = tt
issues-hands on server e own (Ok tickets) = login-handed (changed on.saved server.state) tickets

issues_to-hands : (on : Occasion) (server : Server) (e : Entrant) (own : Option Key) → VerdictHands (issues_to on server e own).verdict
issues_to-hands on server e None = tt
issues_to-hands on server e (Some own) = issues-hands on server e own.secret (issued_for server (asking_for on e.name e.gid) (services_for e.asked))

numbers-hands : (on : Occasion) (server : Server) (proven : Proven) (seals : List SealEntry) (r : Result Numbered LoginFault) → VerdictHands (numbers on server proven seals r).verdict
numbers-hands on server proven seals (Err why) = tt
numbers-hands on server proven seals (Ok n) =
    issues_to-hands on n.server (entrant proven.offer.name n.gid proven.ask.other_keys seals) (key_of n.server proven.offer.name)

rotates-hands : (on : Occasion) (server : Server) (gid : ℕ) (proven : Proven) → VerdictHands (rotates on server gid proven).verdict
rotates-hands on server gid proven =
    let rotated : Server = rotated_server on.reading on.draw server in
    let old = old_ticket rotated.state.auth proven.ask.old_ticket in
    numbers-hands on rotated proven ((proof_found proven.offer proven.ask.client_challenge ∷ rotation_drawn on.reading on.draw server.state) ++ old.seals)
    (numbered rotated (reclaimed gid proven.ask.version (kept_gid proven.offer.name on.reading old.value)))

-- a request is refused for no ticket
abbrev ResponseHands : Response → Type 0
ResponseHands (response.Refuses why drawn) = IsNoTicket why
ResponseHands (response.Replies made) = AllByRecursion IsHandedOut made.entries

tells-hands : (on : Occasion) (server : Server) (bearer : Bearer) (drawn : List SealEntry) (own : List ℕ) (r : Result (List Ticket) LoginFault)
    → ResponseHands (tells_tickets on server bearer drawn own r).response
tells-hands on server bearer drawn own (Err why) = tt
tells-hands on server bearer drawn own (Ok tickets) = login-handed (changed on.saved server.state) tickets

tickets-hands : (on : Occasion) (server : Server) (bearer : Bearer) (drawn : List SealEntry) (keys : ℕ) (own : Option Key)
    → ResponseHands (issues_tickets on server bearer drawn keys own).response
tickets-hands on server bearer drawn keys None = tt
tickets-hands on server bearer drawn keys (Some own) = tells-hands on server bearer drawn own.secret (issued_for server (asking_of on bearer) (others_for keys))

rotating-hands : (on : Occasion) (server : Server) (bearer : Bearer) (drawn : List SealEntry) (own : Option Key) (r : Result (List Generation) NotADaemon)
    → ResponseHands (tells_generations on server bearer drawn own r).response
rotating-hands on server bearer drawn (Some own) (Ok generations) = login-handed (changed on.saved server.state) []
rotating-hands on server bearer drawn (Some own) (Err why) = tt
rotating-hands on server bearer drawn None r = tt

by-hands : (on : Occasion) (server : Server) (bearer : Bearer) (drawn : List SealEntry) (request : Option Request) → ResponseHands (answers_by on server bearer drawn request).response
by-hands on server bearer drawn (Some (asked.Tickets keys)) = tickets-hands on server bearer drawn keys (key_of server bearer.name)
by-hands on server bearer drawn (Some asked.Rotating) = rotating-hands on server bearer drawn (key_of server bearer.name) (secrets_of server bearer.name)
by-hands on server bearer drawn None = tt

answers-hands : (on : Occasion) (server : Server) (bearer : Bearer) (request : Option Request) → ResponseHands (answers on server bearer request).response
answers-hands on server bearer request = by-hands on (rotated_server on.reading on.draw server) bearer (rotation_drawn on.reading on.draw server.state) request

-- nor is what is heard
abbrev HeardOrNoTicket : Result Demand Reason → Type 0
HeardOrNoTicket (Ok demand) = Unit {0}
HeardOrNoTicket (Err why) = IsNoTicket why

heard-no_ticket : (last : ℕ) (read : Result Demand BytesFault) → HeardOrNoTicket (ordered last read)
heard-no_ticket last (Err why) = tt
heard-no_ticket last (Ok demand) = by_tests (last == 2 ^ 64 - 1) (demand.seq == last + 1)
  where
    by_tests : (spent next : Bool) → HeardOrNoTicket (if spent then Err reason.Spent else if next then Ok demand else Err (reason.Session (Gap (last + 1))))
    by_tests true next = tt
    by_tests false true = tt
    by_tests false false = tt

-- ---- ways

-- the ways in which a row is made of an arrival: what is closed under them holds of each row
pub record MonitorWays (P : MonitorArrival → MonitorRow → Type 0) : Type 0 where
  -- the link is refused; or denied, with AUTH_BAD_METHOD; or the peer is told which features it misses
  pub refused : (a : MonitorArrival) (why : Reason) (seals : List SealEntry) → IsNoTicket why → P a (refuses a why seals)
  pub denied : (a : MonitorArrival) (code : ℕ) (why : LoginFault) (seals : List SealEntry) → P a (denies a code why seals)
  pub missed : (a : MonitorArrival) (features : ℕ) (sealed : SealedFrame) → P a (missing_told a features (Ok sealed))
  -- it goes on
  pub gone_on : (a : MonitorArrival) (stage : MonitorStage) (bytes : List ℕ) (seals : List SealEntry) → P a (goes_on a stage bytes seals)
  -- tickets are handed over, or a request is replied to
  pub granted : (a : MonitorArrival) (h : HandedOut) (done : Finished) → AllByRecursion IsHandedOut h.entries → P a (hands_over a h (Ok done))
  pub replied : (a : MonitorArrival) (s : Secured) (bearer : Bearer) (seq : ℕ) (made : ReplyMade) (sent : SealedFrame) → AllByRecursion IsHandedOut made.entries
      → P a (sends_reply Open a s bearer seq made (Ok sent))
  -- by then the key server is this
  pub served : (a : MonitorArrival) (server : Server) (row : MonitorRow) → P (with_server a server) row → P a row
  -- this opened before
  pub behind : (a : MonitorArrival) (opened : List SealEntry) (row : MonitorRow) → P a row → P a (with_opened opened row)

-- ---- rows

module _ (P : MonitorArrival → MonitorRow → Type 0) (ways : MonitorWays P) where
  bytes-row : (a : MonitorArrival) (why : BytesFault) (seals : List SealEntry) → P a (refuses_bytes a why seals)
  bytes-row a why seals = ways.refused a (reason.Bytes why) seals tt

  plain-row : (a : MonitorArrival) (stage : MonitorStage) (seals : List SealEntry) (r : Result (List ℕ) BytesFault) → P a (plain_sent a stage seals r)
  plain-row a stage seals (Ok bytes) = ways.gone_on a stage bytes seals
  plain-row a stage seals (Err why) = bytes-row a why seals

  secure-row : (a : MonitorArrival) (s : Secured) (stage : Secured → MonitorStage) (r : Result SealedFrame BytesFault) → P a (secure_sent a s stage [] r)
  secure-row a s stage (Ok sealed) = ways.gone_on a (stage (record s { keys = sealed.keys })) sealed.bytes ([] ++ sealed.seals)
  secure-row a s stage (Err why) = bytes-row a why []

  pub banner-row : (a : MonitorArrival) → P a (on_banner Mon a)
  banner-row a = plain-row a AwaitsHello [] (plain_frame (own_hello Mon))

  pub hello-row : (a : MonitorArrival) (hello : Result Hello BytesFault) → P a (on_hello a hello)
  hello-row a (Ok hello) = ways.gone_on a AwaitsRequest [] []
  hello-row a (Err why) = bytes-row a why []

  challenges-row : (a : MonitorArrival) (hello : LoginHello) (principal : Option Principal) → P a (challenges a hello principal)
  challenges-row a hello None = ways.denied a 13 login.UnknownEntity []
  challenges-row a hello (Some principal) = plain-row a _ _ _

  login_hello-row : (a : MonitorArrival) (hello : Result LoginHello BytesFault) → P a (on_login_hello a hello)
  login_hello-row a (Err why) = bytes-row a why []
  login_hello-row a (Ok hello) = challenges-row a hello (find (is_named hello.name) a.own.server.ring)

  pub request-row : (a : MonitorArrival) (request : Result AuthRequest BytesFault) → P a (on_auth_request on_request_payload a request)
  request-row a (Err why) = bytes-row a why []
  request-row a (Ok request) = by_tests (not (request.method == 2)) (not (list_any (λ mode. mode == 2) request.modes))
    where
      by_tests : (other plain : Bool) → P a (if other then denies a 95 login.Method [] else if plain then denies a 95 login.Mode [] else on_request_payload a request.payload)
      by_tests true plain = ways.denied a 95 login.Method []
      by_tests false true = ways.denied a 95 login.Mode []
      by_tests false false = login_hello-row a (whole login_hello_layout.form request.payload)

  hands_over-row : (a : MonitorArrival) (h : HandedOut) (done : Result Finished BytesFault) → AllByRecursion IsHandedOut h.entries → P a (hands_over a h done)
  hands_over-row a h (Err why) handed = bytes-row a why h.seals
  hands_over-row a h (Ok done) handed = ways.granted a h done handed

  verdict-row : (a : MonitorArrival) (v : Verdict) → VerdictHands v → P a (row_by a v)
  verdict-row a (Denied why seals) handed = ways.denied a 13 why seals
  verdict-row a (Granted h) handed = hands_over-row a h (finished a.link h.session h.secret (done_frame h.payload)) handed

  proves-row : (a : MonitorArrival) (gid : ℕ) (r : Result Proven WrongProof) → P a (proves a gid r)
  proves-row a gid (Err wrong) = ways.denied a 13 login.WrongProof []
  proves-row a gid (Ok proven) =
      let d : Decided = rotates (occasion a) a.own.server gid proven in
      ways.served a d.server (row_by (with_server a d.server) d.verdict) (verdict-row (with_server a d.server) d.verdict (rotates-hands (occasion a) a.own.server gid proven))

  authenticate-row : (a : MonitorArrival) (offered : Offered) (ask : Result Authenticate BytesFault) → P a (on_authenticate a offered ask)
  authenticate-row a offered (Err why) = bytes-row a why []
  authenticate-row a offered (Ok ask) = proves-row a offered.gid (proving offered.offer ask)

  pub more-row : (a : MonitorArrival) (offered : Offered) (more : Result AuthRequestMore BytesFault) → P a (on_auth_request_more a offered more)
  more-row a offered (Err why) = bytes-row a why []
  more-row a offered (Ok more) = authenticate-row a offered (whole authenticate_layout.form more.payload)

  pub signature-row : (a : MonitorArrival) (s : Secured) (bearer : Bearer) (found : Result AuthSignature BytesFault) → P a (on_signature a s bearer found)
  signature-row a s bearer (Err why) = bytes-row a why []
  signature-row a s bearer (Ok found) = by_test (is_signed s found.signature)
    where
      by_test : (right : Bool) → P a (if right then goes_on a (AwaitsIdent s bearer) [] (signature_found s ∷ []) else refuses a (reason.Login login.SignatureWrong) [])
      by_test true = ways.gone_on a (AwaitsIdent s bearer) [] (signature_found s ∷ [])
      by_test false = ways.refused a (reason.Login login.SignatureWrong) [] tt

  missing-row : (a : MonitorArrival) (features : ℕ) (sealed : Result SealedFrame BytesFault) → P a (missing_told a features sealed)
  missing-row a features (Err why) = bytes-row a why []
  missing-row a features (Ok sealed) = ways.missed a features sealed

  client_ident-row : (a : MonitorArrival) (s : Secured) (bearer : Bearer) (ident : Result ClientIdent BytesFault) → P a (on_client_ident a s bearer ident)
  client_ident-row a s bearer (Err why) = bytes-row a why []
  client_ident-row a s bearer (Ok ident) = by_test (ident.required == 0)
    where
      by_test : (plain : Bool) → P a (if plain then sends_secure a s (λ behind. Open behind bearer) [] (server_ident a.own.address 1 0) else misses a s ident.required)
      by_test true = secure-row a s (λ behind. Open behind bearer) (secure_frame s.keys (server_ident a.own.address 1 0))
      by_test false = missing-row a ident.required (secure_frame s.keys (control 10 ident_missing_features_layout.form (record { features = ident.required })))

  reconnect-row : (a : MonitorArrival) (s : Secured) (bearer : Bearer) (reconnect : Result SessionReconnect BytesFault) → P a (on_session_reconnect a s bearer reconnect)
  reconnect-row a s bearer (Err why) = bytes-row a why []
  reconnect-row a s bearer (Ok reconnect) = secure-row a s (λ behind. AwaitsIdent behind bearer) (secure_frame s.keys session_reset)

  pub ident-row : (a : MonitorArrival) (s : Secured) (bearer : Bearer) (f : Frame) → P a (on_ident a s bearer f)
  ident-row a s bearer f = by_tests (f.tag == 8) (f.tag == 11)
    where
      by_tests : (client reconnect : Bool) → P a (if client then on_client_ident a s bearer (payload client_ident_layout.form f)
          else if reconnect then on_session_reconnect a s bearer (payload session_reconnect_layout.form f) else refuses_bytes a (Unexpected f.tag) [])
      by_tests true reconnect = client_ident-row a s bearer (payload client_ident_layout.form f)
      by_tests false true = reconnect-row a s bearer (payload session_reconnect_layout.form f)
      by_tests false false = bytes-row a (Unexpected f.tag) []

  reply-row : (a : MonitorArrival) (s : Secured) (bearer : Bearer) (seq : ℕ) (made : ReplyMade) (sealing : Result SealedFrame BytesFault) → AllByRecursion IsHandedOut made.entries
      → P a (sends_reply Open a s bearer seq made sealing)
  reply-row a s bearer seq made (Err why) handed = bytes-row a why made.seals
  reply-row a s bearer seq made (Ok sent) handed = ways.replied a s bearer seq made sent handed

  responds-row : (a : MonitorArrival) (s : Secured) (bearer : Bearer) (demand : Demand) (r : Response) → ResponseHands r → P a (responds Open a s bearer demand r)
  responds-row a s bearer demand (response.Refuses why drawn) fine = ways.refused a why drawn fine
  responds-row a s bearer demand (response.Replies made) handed = reply-row a s bearer demand.seq made (secure_frame s.keys (reply_message demand.tid made.body)) handed

  demand-row : (a : MonitorArrival) (s : Secured) (bearer : Bearer) (found : Result Demand Reason) → HeardOrNoTicket found → P a (on_demand Open a s bearer found)
  demand-row a s bearer (Err why) fine = ways.refused a why [] fine
  demand-row a s bearer (Ok demand) fine =
      let r : Responded = answers (request_occasion a) a.own.server bearer demand.request in
      ways.served a r.server (responds Open (serving a r.server) s bearer demand r.response)
      (responds-row (serving a r.server) s bearer demand r.response (answers-hands (request_occasion a) a.own.server bearer demand.request))

  keepalive-row : (a : MonitorArrival) (s : Secured) (bearer : Bearer) (read : Result Keepalive2 BytesFault) → P a (on_keepalive a s (λ behind. Open behind bearer) read)
  keepalive-row a s bearer (Err why) = bytes-row a why []
  keepalive-row a s bearer (Ok keepalive) =
      secure-row a s (λ behind. Open behind bearer) (secure_frame s.keys (control 19 keepalive2_ack_layout.form (record { time = keepalive.time })))

  ack-row : (a : MonitorArrival) (s : Secured) (bearer : Bearer) (read : Result Keepalive2Ack BytesFault) → P a (on_keepalive_ack a s (λ behind. Open behind bearer) read)
  ack-row a s bearer (Err why) = bytes-row a why []
  ack-row a s bearer (Ok ack) = ways.gone_on a (Open s bearer) [] []

  pub open-row : (a : MonitorArrival) (s : Secured) (bearer : Bearer) (f : Frame) → P a (on_open Open a s bearer f)
  open-row a s bearer f = by_tests (f.tag == 18) (f.tag == 19)
    where
      by_tests : (ask ack : Bool) → P a (if ask then on_keepalive a s (λ behind. Open behind bearer) (payload keepalive2_layout.form f)
          else if ack then on_keepalive_ack a s (λ behind. Open behind bearer) (payload keepalive2_ack_layout.form f) else on_message Open a s bearer f)
      by_tests true ack = keepalive-row a s bearer (payload keepalive2_layout.form f)
      by_tests false true = ack-row a s bearer (payload keepalive2_ack_layout.form f)
      by_tests false false = demand-row a s bearer (heard bearer f) (heard-no_ticket bearer.last (demand_of (message_in f)))

  -- ---- a turn

  -- where it doesn't matter how far the link was read
  pub monitor-walk : ((a : MonitorArrival) (link : Link MonitorStage) (row : MonitorRow) → P (at a link) row → P a row) → (a : MonitorArrival) (stage : MonitorStage) → EachRow (P a) (turned_at a stage)
  monitor-walk moved a AwaitsBanner =
      each-turned (P a) (λ link _. on_banner Mon (at a link)) (λ link opened. moved a link (on_banner Mon (at a link)) (banner-row (at a link))) (banner_next a.link)
  monitor-walk moved a AwaitsHello =
      each-turned (P a) (λ (link, f) _. on_hello (at a link) (due 1 hello_layout.form f))
      (λ (link, f) opened. moved a link (on_hello (at a link) (due 1 hello_layout.form f)) (hello-row (at a link) (due 1 hello_layout.form f))) (plain_next a.link)
  monitor-walk moved a AwaitsRequest =
      each-turned (P a) (λ (link, f) _. on_auth_request on_request_payload (at a link) (due 2 auth_request_layout.form f))
      (λ (link, f) opened. moved a link (on_auth_request on_request_payload (at a link) (due 2 auth_request_layout.form f)) (request-row (at a link) (due 2 auth_request_layout.form f)))
      (plain_next a.link)
  monitor-walk moved a (AwaitsProof offered) =
      each-turned (P a) (λ (link, f) _. on_auth_request_more (at a link) offered (due 5 auth_request_more_layout.form f))
      (λ (link, f) opened. moved a link (on_auth_request_more (at a link) offered (due 5 auth_request_more_layout.form f)) (more-row (at a link) offered (due 5 auth_request_more_layout.form f)))
      (plain_next a.link)
  monitor-walk moved a (AwaitsSignature s bearer) =
      each-turned (P a) (λ (link, f, keys) opened. with_opened opened (on_signature (at a link) (under s keys) bearer (due 7 auth_signature_layout.form f)))
      (λ (link, f, keys) opened.
      let row = on_signature (at a link) (under s keys) bearer (due 7 auth_signature_layout.form f) in
      moved a link (with_opened opened row) (ways.behind (at a link) opened row (signature-row (at a link) (under s keys) bearer (due 7 auth_signature_layout.form f))))
      (secure_next s.keys a.link)
  monitor-walk moved a (AwaitsIdent s bearer) =
      each-turned (P a) (λ (link, f, keys) opened. with_opened opened (on_ident (at a link) (under s keys) bearer f))
      (λ (link, f, keys) opened.
      let row = on_ident (at a link) (under s keys) bearer f in
      moved a link (with_opened opened row) (ways.behind (at a link) opened row (ident-row (at a link) (under s keys) bearer f)))
      (secure_next s.keys a.link)
  monitor-walk moved a (Open s bearer) =
      each-turned (P a) (λ (link, f, keys) opened. with_opened opened (on_open Open (at a link) (under s keys) bearer f))
      (λ (link, f, keys) opened.
      let row = on_open Open (at a link) (under s keys) bearer f in
      moved a link (with_opened opened row) (ways.behind (at a link) opened row (open-row (at a link) (under s keys) bearer f)))
      (secure_next s.keys a.link)
