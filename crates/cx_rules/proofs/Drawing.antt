-- What a turn draws is logged: at the monitor.
use Rattle.std.proofs.Common.{◌≡◌, ℕ, ◌==◌, inl, inr, Bool, true, false, List, [], ◌∷◌, ◌++◌, take, Option, Some, None, Result, Ok, Err, refl, sym, ap, ◌∙◌, subst}
use Rattle.std.specs.Prelude.{filter, find, not, nat_lt, ◌+◌, ◌-◌, ◌^◌, length, if◌then◌else◌}
use Rattle.std.specs.List.{flat_map, list_any}
use Rattle.cx_base.specs.Names.{Name}
use Rattle.cx_base.specs.declared.kinds.EntityType.TheVariants.{Auth, Mds, Osd, Mgr, Mon}
use Rattle.cx_keyserver.specs.cx_cbc.specs.Envelope.{sealed}
use Rattle.cx_login.specs.cx_control.specs.Auth.{auth_reply_more_layout, auth_request_layout, auth_request_more_layout, auth_signature_layout}
use Rattle.cx_login.specs.cx_control.specs.Hello.{hello_layout}
use Rattle.cx_login.specs.cx_control.specs.Idents.{client_ident_layout, ident_missing_features_layout}
use Rattle.cx_login.specs.cx_control.specs.Reconnects.{session_reconnect_layout, session_reset_layout}
use Rattle.cx_login.specs.cx_control.specs.Upkeep.{keepalive2_layout, keepalive2_ack_layout}
use Rattle.cx_login.specs.cx_control.specs.declared.auth.AuthRequest.{AuthRequest}
use Rattle.cx_login.specs.cx_control.specs.declared.auth.AuthRequestMore.{AuthRequestMore}
use Rattle.cx_login.specs.cx_control.specs.declared.auth.AuthSignature.{AuthSignature}
use Rattle.cx_login.specs.cx_control.specs.declared.hello.Hello.{Hello}
use Rattle.cx_login.specs.cx_control.specs.declared.idents.ClientIdent.{ClientIdent}
use Rattle.cx_login.specs.cx_control.specs.declared.reconnects.SessionReconnect.{SessionReconnect}
use Rattle.cx_login.specs.cx_control.specs.declared.upkeep.Keepalive2.{Keepalive2}
use Rattle.cx_login.specs.cx_control.specs.declared.upkeep.Keepalive2Ack.{Keepalive2Ack}
use Rattle.cx_stream.specs.cx_frame.specs.Banners.{banner_at}
use Rattle.cx_stream.specs.cx_frame.specs.declared.banner.Banner.{Banner}
use Rattle.cx_stream.specs.cx_frame.specs.declared.refusals.BannerRefusal.{BannerRefusal}
use Rattle.cx_stream.specs.cx_frame.specs.declared.refusals.FrameRefusal.{FrameRefusal}
use Rattle.cx_login.specs.cx_journal.specs.declared.faults.LoginFault.TheVariants.{Method, Mode, SignatureWrong}
use Rattle.cx_login.specs.cx_journal.specs.declared.outcomes.Reason.{Reason}
use Rattle.cx_login.specs.cx_journal.specs.declared.outcomes.Reason.TheVariants.{Login}
use Rattle.cx_stream.specs.cx_secure.specs.declared.refusals.SecureRefusal.{SecureRefusal}
use Rattle.cx_stream.specs.PlainStreams.{plain_frame_at}
use Rattle.cx_stream.specs.SecureStreams.{secure_frame_at}
use Rattle.cx_rules.specs.Fronts.{Front, NotYet, Broken, Next, ahead_of, banner_next, banner_read, opened_parts, plain_next, plain_read, secure_next, secure_read, sealed_ahead}
use Rattle.cx_rules.specs.Greetings.{own_hello}
use Rattle.cx_rules.specs.MonitorRule.{on_auth_request_more, on_client_ident, on_ident, on_request_payload, on_session_reconnect, turned_at}
use Rattle.cx_rules.specs.MonitorRequests.{heard, on_demand, on_message, on_open, reply_message, request_occasion, responds, sends_reply, serving}
use Rattle.cx_rules.specs.Replies.{Responded, answers}
use Rattle.cx_rules.specs.Upkeep.{on_keepalive, on_keepalive_ack}
use Rattle.cx_keyserver.specs.cx_dice.specs.Draws.{challenge_of, connection_of, session_of}
use Rattle.cx_stream.specs.cx_frame.specs.Frames.{total}
use Rattle.cx_login.specs.cx_enc.specs.declared.keys.Key.{Key}
use Rattle.cx_stream.specs.cx_frame.specs.declared.frame.Frame.{Frame}
use Rattle.cx_login.specs.cx_journal.specs.declared.faults.BytesFault.{BytesFault}
use Rattle.cx_login.specs.cx_journal.specs.declared.faults.BytesFault.TheVariants.{CounterSpent, TooLong, Unexpected}
use Rattle.cx_login.specs.cx_journal.specs.declared.faults.LoginFault.{LoginFault}
use Rattle.cx_keyserver.specs.cx_keyring.specs.Entries.{is_named}
use Rattle.cx_keyserver.specs.cx_keyring.specs.declared.entries.Entry.{Entry as Principal}
use Rattle.cx_keyserver.specs.Issuing.{◌>>=◌, asking, current_at, fields_of, issued, or_else, sealed_by, telling_key}
use Rattle.cx_keyserver.specs.Servers.{Server, generations_of, rotated_server}
use Rattle.cx_keyserver.specs.declared.refusals.IssueRefusal.{IssueRefusal}
use Rattle.cx_keyserver.specs.declared.refusals.IssueRefusal.TheVariants as issue
use Rattle.cx_keyserver.specs.declared.tickets.Ticket.{Ticket}
use Rattle.cx_login.specs.Monitor.{Offer, Proven, kept_gid, proof_found, proving, reclaimed}
use Rattle.cx_login.specs.Unlocking.{old_ticket}
use Rattle.cx_login.specs.declared.refusals.WrongProof.{WrongProof}
use Rattle.cx_rotate.specs.declared.generations.Generation.{Generation}
use Rattle.cx_stream.specs.cx_secure.specs.Plains.{plains}
use Rattle.cx_login.specs.cx_steps.specs.Onto.{SomeOf}
use Rattle.cx_login.specs.cx_steps.specs.declared.seals.DrawMark.{DrawMark}
use Rattle.cx_login.specs.cx_steps.specs.declared.seals.DrawMark.TheVariants as draw
use Rattle.cx_login.specs.cx_steps.specs.declared.seals.SealEntry.{SealEntry}
use Rattle.cx_login.specs.cx_steps.specs.declared.seals.SealEntry.TheVariants.{Drawn}
use Rattle.cx_login.specs.cx_wire.specs.Logins.{authenticate_layout, login_hello_layout, server_challenge_layout}
use Rattle.cx_login.specs.cx_wire.specs.declared.logins.Authenticate.{Authenticate}
use Rattle.cx_login.specs.cx_wire.specs.declared.logins.LoginHello.{LoginHello}
use Rattle.cx_rules.specs.Acceptor.{AwaitsBanner, AwaitsHello, AwaitsRequest, AwaitsProof, AwaitsSignature, AwaitsIdent, Open, Finished, denies, finished, joined, misses, missing_told, on_auth_request, on_banner, on_hello, on_signature, server_ident}
use Rattle.cx_rules.specs.Judged.{LogsDraw, LogsLink, LogsStage, LogsTurn, has_key}
use Rattle.cx_rules.specs.Links.{Link}
use Rattle.cx_rules.specs.Monitor.{MonitorArrival, MonitorRow, MonitorStage, Offered}
use Rattle.cx_rules.specs.MonitorLogin.{challenges, done_frame, hands_over, occasion, on_authenticate, on_login_hello, proves, row_of, with_server}
use Rattle.cx_rules.specs.Payloads.{control, due, payload, whole}
use Rattle.cx_rules.specs.Rows.{at, goes_on, plain_sent, refuses, refuses_bytes, secure_sent, sends_secure, turned_by, with_opened}
use Rattle.cx_rules.specs.Secured.{Keys, SealedFrame, Secured, acceptor_keys, is_signed, plain_frame, sealed_under, secure_frame, signature_found, signed_frame, signing, under}
use Rattle.cx_rules.specs.Tickets.{is_asked, issued_before, issued_for, rotation_drawn, services_for, ticket_seals}
use Rattle.cx_rules.specs.Verdicts.{Entrant, Numbered, asking_for, entrant, handed_out, issues, issues_to, key_of, numbered, numbers, secret_seals}
use Rattle.cx_rules.specs.declared.verdicts.HandedOut.{HandedOut}
use Rattle.cx_rules.specs.declared.responses.Bearer.{Bearer}
use Rattle.cx_rules.specs.declared.responses.Demand.{Demand}
use Rattle.cx_rules.specs.declared.responses.ReplyMade.{ReplyMade}
use Rattle.cx_rules.specs.declared.responses.Response.{Response}
use Rattle.cx_rules.specs.declared.responses.Response.TheVariants as response

-- ---- keys stay

-- the frame, if it was sealed, leaves the key as it is
abbrev pub KeepsKey : List ℕ → Result SealedFrame BytesFault → Type 0
KeepsKey key (Ok s) = s.keys.key ≡ key
KeepsKey key (Err why) = Unit {0}

pub keeps-secure_frame : (keys : Keys) (f : Frame) → KeepsKey keys.key (secure_frame keys f)
keeps-secure_frame keys f = by_test (nat_lt (2 ^ 64 - 1) (keys.out.counter + length (plains f))) (nat_lt 1048576 (total f))
  where
    by_test : (spent long : Bool) → KeepsKey keys.key (if spent then Err CounterSpent else if long then Err TooLong else Ok (sealed_under keys f))
    by_test true long = tt
    by_test false true = tt
    by_test false false = refl

keeps-signing : (key session received : List ℕ) (r : Result SealedFrame BytesFault) → KeepsKey key r → KeepsKey key (signing session received r)
keeps-signing key session received (Ok s) h = h
keeps-signing key session received (Err why) h = tt

-- a link that is finished has the key of its connection secret, and the session key
abbrev pub IsFinishedBy : List ℕ → List ℕ → Result Finished BytesFault → Type 0
IsFinishedBy session secret (Ok done) = (done.secured.keys.key ≡ take 16 secret) × (done.secured.session ≡ session)
IsFinishedBy session secret (Err why) = Unit {0}

finished-joined : (session sent secret : List ℕ) (done : Result (List ℕ) BytesFault) (signed : Result SealedFrame BytesFault)
    → KeepsKey (take 16 secret) signed → IsFinishedBy session secret (joined session sent done signed)
finished-joined session sent secret (Err why) signed h = tt
finished-joined session sent secret (Ok done) (Err why) h = tt
finished-joined session sent secret (Ok done) (Ok signed) h = (h, refl)

pub finished-by : {S : Type 0} (link : Link S) (session secret : List ℕ) (done : Frame) → IsFinishedBy session secret (finished link session secret done)
finished-by link session secret done =
    finished-joined session link.sent secret (plain_frame done) (signed_frame (acceptor_keys secret) session (take link.taken link.received))
    (keeps-signing (take 16 secret) session (take link.taken link.received) (secure_frame (acceptor_keys secret) _) (keeps-secure_frame (acceptor_keys secret) _))

-- ---- entries that are logged stay logged

some-left : {X : Type 0} (P : X → Type 0) (xs ys : List X) → SomeOf P xs → SomeOf P (xs ++ ys)
some-left P [] ys h = absurd h
some-left P (x ∷ xs) ys (inl h) = inl h
some-left P (x ∷ xs) ys (inr h) = inr (some-left P xs ys h)

some-right : {X : Type 0} (P : X → Type 0) (xs ys : List X) → SomeOf P ys → SomeOf P (xs ++ ys)
some-right P [] ys h = h
some-right P (x ∷ xs) ys h = inr (some-right P xs ys h)

logged-behind : (mark : DrawMark) (opened seals : List SealEntry) → LogsDraw mark seals → LogsDraw mark (opened ++ seals)
logged-behind mark opened seals h = some-right (λ logged. logged ≡ Drawn mark) opened seals h

stage-behind : (a : MonitorArrival) (opened seals : List SealEntry) (stage : MonitorStage) → LogsStage a seals stage → LogsStage a (opened ++ seals) stage
stage-behind a opened seals AwaitsBanner h = tt
stage-behind a opened seals AwaitsHello h = tt
stage-behind a opened seals AwaitsRequest h = tt
stage-behind a opened seals (AwaitsProof offered) h = (h.0, logged-behind (draw.Challenge (challenge_of a.draw)) opened seals h.1)
stage-behind a opened seals (AwaitsSignature s bearer) h = (
  h.0,
  logged-behind (draw.Connection (connection_of a.draw) bearer.name) opened seals h.1,
  h.2,
  logged-behind (draw.Session (session_of Auth a.draw) bearer.name) opened seals h.3,
)
stage-behind a opened seals (AwaitsIdent s bearer) h = h
stage-behind a opened seals (Open s bearer) h = h

-- ---- rows

abbrev pub Logs : MonitorArrival → MonitorRow → Type 0
Logs a row = LogsLink a row.seals row.link

logs-with_opened : (a : MonitorArrival) (opened seals : List SealEntry) (link : Option (Link MonitorStage)) → LogsLink a seals link → LogsLink a (opened ++ seals) link
logs-with_opened a opened seals (Some link) h = stage-behind a opened seals link.stage h
logs-with_opened a opened seals None h = tt

logs-plain : (a : MonitorArrival) (stage : MonitorStage) (seals : List SealEntry) (r : Result (List ℕ) BytesFault) → LogsStage a seals stage → Logs a (plain_sent a stage seals r)
logs-plain a stage seals (Ok bytes) h = h
logs-plain a stage seals (Err why) h = tt

logs-secure : (a : MonitorArrival) (s : Secured) (stage : Secured → MonitorStage) (r : Result SealedFrame BytesFault) → KeepsKey s.keys.key r
    → ((t : Secured) (seals : List SealEntry) → t.keys.key ≡ s.keys.key → LogsStage a seals (stage t)) → Logs a (secure_sent a s stage [] r)
logs-secure a s stage (Ok sealed) k h = h (record s { keys = sealed.keys }) ([] ++ sealed.seals) k
logs-secure a s stage (Err why) k h = tt

-- a secured link has the key of before
abbrev pub IsUnder : MonitorArrival → Secured → Type 0
IsUnder a s = has_key a.link.stage s.keys.key

key-moved : (stage : MonitorStage) (key other : List ℕ) → other ≡ key → has_key stage key → has_key stage other
key-moved stage key other e h = subst (has_key stage) (sym e) h

-- ---- LoginHello

logs-challenges : (a : MonitorArrival) (hello : LoginHello) (principal : Option Principal) → Logs a (challenges a hello principal)
logs-challenges a hello None = tt
logs-challenges a hello (Some principal) =
    let challenge = challenge_of a.draw in
    let offer : Offer = record { name = hello.name; secret = principal.key.secret; challenge = challenge } in
    logs-plain a (AwaitsProof (record { offer = offer; gid = hello.gid })) (Drawn (draw.Challenge challenge) ∷ [])
    (plain_frame (control 4 auth_reply_more_layout.form (record { payload = server_challenge_layout.form.text (record { challenge = challenge }) })))
    (refl, inl refl)

logs-login_hello : (a : MonitorArrival) (hello : Result LoginHello BytesFault) → Logs a (on_login_hello a hello)
logs-login_hello a (Err why) = tt
logs-login_hello a (Ok hello) = logs-challenges a hello (find (is_named hello.name) a.own.server.ring)

-- ---- Authenticate

-- the answer for AUTH: a ticket of the entity with the session key that is drawn for AUTH, or one of two refusals
abbrev pub AuthCase : Name → List ℕ → Result Ticket IssueRefusal → Type 0
AuthCase name block (Ok ticket) = (ticket.session ≡ session_of Auth block) × (ticket.entity ≡ name)
AuthCase name block (Err issue.UnknownEntity) = Unit {0}
AuthCase name block (Err issue.IdsSpent) = Unit {0}
AuthCase name block (Err _) = ⊥

abbrev pub AuthFirst : Name → List ℕ → Result (List Ticket) LoginFault → Type 0
AuthFirst name block (Ok (ticket ∷ tickets)) = (ticket.session ≡ session_of Auth block) × (ticket.entity ≡ name)
AuthFirst name block (Ok []) = ⊥
AuthFirst name block (Err why) = Unit {0}

auth-issued : (server : Server) (name : Name) (gid : ℕ) (session : List ℕ) (reading : ℕ) (block : List ℕ)
    → AuthCase name block (issued server (asking name Auth gid session reading block))
auth-issued server name gid session reading block = by_found (find (is_named name) server.ring) (current_at reading (generations_of server.state Auth))
  where
    by_found : (found : Option Principal) (current : Option Generation) → AuthCase name block
        (or_else issue.UnknownEntity found >>= λ entry. or_else issue.IdsSpent current >>= λ generation.
        Ok (sealed_by generation.key (telling_key entry (asking name Auth gid session reading block)) (fields_of server.state (asking name Auth gid session reading block) [] generation)))
    by_found None current = tt
    by_found (Some entry) None = tt
    by_found (Some entry) (Some generation) = (refl, refl)

auth-before : (name : Name) (block : List ℕ) (first : Result Ticket IssueRefusal) (rest : Result (List Ticket) LoginFault)
    → AuthCase name block first → AuthFirst name block (issued_before first rest)
auth-before name block (Ok ticket) (Ok tickets) h = h
auth-before name block (Ok ticket) (Err why) h = tt
auth-before name block (Err issue.UnknownEntity) rest h = tt
auth-before name block (Err issue.IdsSpent) rest h = tt
auth-before name block (Err issue.NoCaps) rest h = absurd h
auth-before name block (Err issue.NotAService) rest h = absurd h
auth-before name block (Err issue.OutOfMemory) rest h = absurd h

logs-hands_over : (a : MonitorArrival) (h : HandedOut) (done : Result Finished BytesFault)
    → LogsDraw (draw.Connection (connection_of a.draw) h.name) h.sealed → LogsDraw (draw.Session (session_of Auth a.draw) h.name) h.sealed
    → IsFinishedBy (session_of Auth a.draw) (connection_of a.draw) done → Logs a (hands_over a h done)
logs-hands_over a h (Err why) c s f = tt
logs-hands_over a h (Ok done) c s f =
    let connection = draw.Connection (connection_of a.draw) h.name in
    let session = draw.Session (session_of Auth a.draw) h.name in (
      f.0,
      some-right (λ logged. logged ≡ Drawn connection) h.seals (h.sealed ++ done.seals) (some-left (λ logged. logged ≡ Drawn connection) h.sealed done.seals c),
      f.1,
      some-right (λ logged. logged ≡ Drawn session) h.seals (h.sealed ++ done.seals) (some-left (λ logged. logged ≡ Drawn session) h.sealed done.seals s),
    )

drawn-for : (session key : List ℕ) (name other : Name) → session ≡ key → name ≡ other → Drawn (draw.Session session name) ≡ Drawn (draw.Session key other)
drawn-for session key name other a b = ap (λ (k : List ℕ). Drawn (draw.Session k name)) a ∙ ap (λ (n : Name). Drawn (draw.Session key n)) b

logs-issues : (a : MonitorArrival) (e : Entrant) (own : List ℕ) (tickets : Result (List Ticket) LoginFault)
    → AuthFirst e.name a.draw tickets → Logs a (row_of a (issues (occasion a) a.own.server e own tickets))
logs-issues a e own (Err why) h = tt
logs-issues a e own (Ok []) h = absurd h
logs-issues a e own (Ok (ticket ∷ tickets)) h =
    let session = session_of Auth a.draw in
    let secret = connection_of a.draw in
    let handed : HandedOut = handed_out (occasion a) a.own.server e own (ticket ∷ tickets) in
    let told = flat_map (ticket_seals a.own.server own session) (ticket ∷ tickets) in
    let is : Drawn (draw.Session ticket.session ticket.entity) ≡ Drawn (draw.Session session e.name) = drawn-for ticket.session session ticket.entity e.name h.0 h.1 in
    logs-hands_over a handed (finished a.link session secret (done_frame handed.payload))
    (some-right (λ logged. logged ≡ Drawn (draw.Connection secret e.name)) told (secret_seals e.name session secret) (inl refl))
    (inl is)
    (finished-by a.link session secret (done_frame handed.payload))

logs-issues_to : (a : MonitorArrival) (e : Entrant) (own : Option Key) → Logs a (row_of a (issues_to (occasion a) a.own.server e own))
logs-issues_to a e None = tt
logs-issues_to a e (Some own) =
    let ask = asking_for (occasion a) e.name e.gid in
    let rest = filter (is_asked e.asked) (Mds ∷ Osd ∷ Mgr ∷ []) in
    logs-issues a e own.secret (issued_for a.own.server ask (services_for e.asked))
    (auth-before e.name a.draw (issued a.own.server (ask Auth)) (issued_for a.own.server ask rest)
    (auth-issued a.own.server e.name e.gid (session_of Auth a.draw) a.reading a.draw))

logs-numbers : (a : MonitorArrival) (proven : Proven) (seals : List SealEntry) (n : Result Numbered LoginFault)
    → Logs a (row_of a (numbers (occasion a) a.own.server proven seals n))
logs-numbers a proven seals (Err why) = tt
logs-numbers a proven seals (Ok n) =
    logs-issues_to (with_server a n.server) (entrant proven.offer.name n.gid proven.ask.other_keys seals) (key_of n.server proven.offer.name)

logs-proves : (a : MonitorArrival) (hello_gid : ℕ) (proven : Result Proven WrongProof) → Logs a (proves a hello_gid proven)
logs-proves a hello_gid (Err wrong) = tt
logs-proves a hello_gid (Ok proven) =
    let server = rotated_server a.reading a.draw a.own.server in
    let old = old_ticket server.state.auth proven.ask.old_ticket in
    let seals = proof_found proven.offer proven.ask.client_challenge ∷ rotation_drawn a.reading a.draw a.own.server.state in
    logs-numbers (with_server a server) proven (seals ++ old.seals)
    (numbered server (reclaimed hello_gid proven.ask.version (kept_gid proven.offer.name a.reading old.value)))

logs-authenticate : (a : MonitorArrival) (offered : Offered) (ask : Result Authenticate BytesFault) → Logs a (on_authenticate a offered ask)
logs-authenticate a offered (Err why) = tt
logs-authenticate a offered (Ok ask) = logs-proves a offered.gid (proving offered.offer ask)

-- ---- the other rows

logs-hello : (a : MonitorArrival) (hello : Result Hello BytesFault) → Logs a (on_hello a hello)
logs-hello a (Ok hello) = tt
logs-hello a (Err why) = tt

logs-request : (a : MonitorArrival) (request : Result AuthRequest BytesFault) → Logs a (on_auth_request on_request_payload a request)
logs-request a (Err why) = tt
logs-request a (Ok request) = by_tests (not (request.method == 2)) (not (list_any (λ mode. mode == 2) request.modes))
  where
    by_tests : (other plain : Bool) → Logs a (if other then denies a 95 Method [] else if plain then denies a 95 Mode [] else on_request_payload a request.payload)
    by_tests true plain = tt
    by_tests false true = tt
    by_tests false false = logs-login_hello a (whole login_hello_layout.form request.payload)

logs-request_more : (a : MonitorArrival) (offered : Offered) (more : Result AuthRequestMore BytesFault) → Logs a (on_auth_request_more a offered more)
logs-request_more a offered (Err why) = tt
logs-request_more a offered (Ok more) = logs-authenticate a offered (whole authenticate_layout.form more.payload)

logs-signature : (a : MonitorArrival) (s : Secured) (bearer : Bearer) (found : Result AuthSignature BytesFault) → IsUnder a s → Logs a (on_signature a s bearer found)
logs-signature a s bearer (Err why) h = tt
logs-signature a s bearer (Ok found) h = by_test (is_signed s found.signature)
  where
    by_test : (right : Bool) → Logs a (if right then goes_on a (AwaitsIdent s bearer) [] (signature_found s ∷ []) else refuses a (Login SignatureWrong) [])
    by_test true = h
    by_test false = tt

logs-missing : (a : MonitorArrival) (features : ℕ) (sealed : Result SealedFrame BytesFault) → Logs a (missing_told a features sealed)
logs-missing a features (Err why) = tt
logs-missing a features (Ok sealed) = tt

logs-client_ident : (a : MonitorArrival) (s : Secured) (bearer : Bearer) (ident : Result ClientIdent BytesFault) → IsUnder a s → Logs a (on_client_ident a s bearer ident)
logs-client_ident a s bearer (Err why) h = tt
logs-client_ident a s bearer (Ok ident) h = by_test (ident.required == 0)
  where
    by_test : (plain : Bool) → Logs a (if plain then sends_secure a s (λ behind. Open behind bearer) [] (server_ident a.own.address 1 0) else misses a s ident.required)
    by_test true =
        logs-secure a s (λ behind. Open behind bearer) (secure_frame s.keys (server_ident a.own.address 1 0)) (keeps-secure_frame s.keys (server_ident a.own.address 1 0))
        (λ t seals e. key-moved a.link.stage s.keys.key t.keys.key e h)
    by_test false = logs-missing a ident.required (secure_frame s.keys (control 10 ident_missing_features_layout.form (record { features = ident.required })))

logs-reconnect : (a : MonitorArrival) (s : Secured) (bearer : Bearer) (reconnect : Result SessionReconnect BytesFault) → IsUnder a s → Logs a (on_session_reconnect a s bearer reconnect)
logs-reconnect a s bearer (Err why) h = tt
logs-reconnect a s bearer (Ok reconnect) h =
    let f = control 12 session_reset_layout.form (record { full = true }) in
    logs-secure a s (λ behind. AwaitsIdent behind bearer) (secure_frame s.keys f) (keeps-secure_frame s.keys f) (λ t seals e. key-moved a.link.stage s.keys.key t.keys.key e h)

logs-ident : (a : MonitorArrival) (s : Secured) (bearer : Bearer) (f : Frame) → IsUnder a s → Logs a (on_ident a s bearer f)
logs-ident a s bearer f h = by_tests (f.tag == 8) (f.tag == 11)
  where
    by_tests : (client reconnect : Bool) → Logs a (if client then on_client_ident a s bearer (payload client_ident_layout.form f)
        else if reconnect then on_session_reconnect a s bearer (payload session_reconnect_layout.form f) else refuses_bytes a (Unexpected f.tag) [])
    by_tests true reconnect = logs-client_ident a s bearer (payload client_ident_layout.form f) h
    by_tests false true = logs-reconnect a s bearer (payload session_reconnect_layout.form f) h
    by_tests false false = tt

logs-keepalive : (a : MonitorArrival) (s : Secured) (bearer : Bearer) (keepalive : Result Keepalive2 BytesFault) → IsUnder a s
    → Logs a (on_keepalive a s (λ behind. Open behind bearer) keepalive)
logs-keepalive a s bearer (Err why) h = tt
logs-keepalive a s bearer (Ok keepalive) h =
    let f = control 19 keepalive2_ack_layout.form (record { time = keepalive.time }) in
    logs-secure a s (λ behind. Open behind bearer) (secure_frame s.keys f) (keeps-secure_frame s.keys f) (λ t seals e. key-moved a.link.stage s.keys.key t.keys.key e h)

logs-keepalive_ack : (a : MonitorArrival) (s : Secured) (bearer : Bearer) (ack : Result Keepalive2Ack BytesFault) → IsUnder a s
    → Logs a (on_keepalive_ack a s (λ behind. Open behind bearer) ack)
logs-keepalive_ack a s bearer (Err why) h = tt
logs-keepalive_ack a s bearer (Ok ack) h = h

logs-reply : (a : MonitorArrival) (s : Secured) (bearer : Bearer) (seq : ℕ) (made : ReplyMade) (sealing : Result SealedFrame BytesFault) → KeepsKey s.keys.key sealing → IsUnder a s
    → Logs a (sends_reply Open a s bearer seq made sealing)
logs-reply a s bearer seq made (Err why) k h = tt
logs-reply a s bearer seq made (Ok sent) k h = key-moved a.link.stage s.keys.key sent.keys.key k h

logs-responds : (a : MonitorArrival) (s : Secured) (bearer : Bearer) (demand : Demand) (r : Response) → IsUnder a s → Logs a (responds Open a s bearer demand r)
logs-responds a s bearer demand (response.Refuses why drawn) h = tt
logs-responds a s bearer demand (response.Replies made) h =
    let f = reply_message demand.tid made.body in logs-reply a s bearer demand.seq made (secure_frame s.keys f) (keeps-secure_frame s.keys f) h

logs-demand : (a : MonitorArrival) (s : Secured) (bearer : Bearer) (found : Result Demand Reason) → IsUnder a s → Logs a (on_demand Open a s bearer found)
logs-demand a s bearer (Err why) h = tt
logs-demand a s bearer (Ok demand) h =
    let r : Responded = answers (request_occasion a) a.own.server bearer demand.request in logs-responds (serving a r.server) s bearer demand r.response h

logs-open : (a : MonitorArrival) (s : Secured) (bearer : Bearer) (f : Frame) → IsUnder a s → Logs a (on_open Open a s bearer f)
logs-open a s bearer f h = by_tests (f.tag == 18) (f.tag == 19)
  where
    by_tests : (ask ack : Bool) → Logs a (if ask then on_keepalive a s (λ behind. Open behind bearer) (payload keepalive2_layout.form f)
        else if ack then on_keepalive_ack a s (λ behind. Open behind bearer) (payload keepalive2_ack_layout.form f) else on_message Open a s bearer f)
    by_tests true ack = logs-keepalive a s bearer (payload keepalive2_layout.form f) h
    by_tests false true = logs-keepalive_ack a s bearer (payload keepalive2_ack_layout.form f) h
    by_tests false false = logs-demand a s bearer (heard bearer f) h

-- ---- a turn

-- the same of an arrival whose link is in the same stage
logs-moved : (a : MonitorArrival) (link : Link MonitorStage) (seals : List SealEntry) (found : Option (Link MonitorStage)) → link.stage ≡ a.link.stage
    → LogsLink (at a link) seals found → LogsLink a seals found
logs-moved a link seals None e h = tt
logs-moved a link seals (Some l) e h = by_stage l.stage h
  where
    by_stage : (stage : MonitorStage) → LogsStage (at a link) seals stage → LogsStage a seals stage
    by_stage AwaitsBanner g = tt
    by_stage AwaitsHello g = tt
    by_stage AwaitsRequest g = tt
    by_stage (AwaitsProof offered) g = g
    by_stage (AwaitsSignature s bearer) g = g
    by_stage (AwaitsIdent s bearer) g = subst (λ (stage : MonitorStage). has_key stage s.keys.key) e g
    by_stage (Open s bearer) g = subst (λ (stage : MonitorStage). has_key stage s.keys.key) e g

-- what stands next leaves the stage of the link as it is, and the key
abbrev pub LinkStays : MonitorStage → Front (Link MonitorStage) → Type 0
LinkStays stage NotYet = Unit {0}
LinkStays stage (Broken why opened) = Unit {0}
LinkStays stage (Next link opened) = link.stage ≡ stage

abbrev pub FrameStays : MonitorStage → Front (Link MonitorStage × Frame) → Type 0
FrameStays stage NotYet = Unit {0}
FrameStays stage (Broken why opened) = Unit {0}
FrameStays stage (Next (link, f) opened) = link.stage ≡ stage

abbrev pub KeysStay : List ℕ → MonitorStage → Front (Link MonitorStage × Frame × Keys) → Type 0
KeysStay key stage NotYet = Unit {0}
KeysStay key stage (Broken why opened) = Unit {0}
KeysStay key stage (Next (link, f, keys) opened) = (link.stage ≡ stage) × (keys.key ≡ key)

banner-stays : (link : Link MonitorStage) (r : Result (Option (Banner × ℕ)) BannerRefusal) → LinkStays link.stage (banner_read link r)
banner-stays link (Ok None) = tt
banner-stays link (Ok (Some (b, n))) = refl
banner-stays link (Err e) = tt

plain-stays : (link : Link MonitorStage) (r : Result (Option (Frame × ℕ)) FrameRefusal) → FrameStays link.stage (plain_read link r)
plain-stays link (Ok None) = tt
plain-stays link (Ok (Some (f, n))) = refl
plain-stays link (Err e) = tt

keys-stay : (keys : Keys) (link : Link MonitorStage) (opened : List SealEntry) (r : Result (Option (Frame × ℕ)) SecureRefusal) → KeysStay keys.key link.stage (secure_read keys link opened r)
keys-stay keys link opened (Ok None) = tt
keys-stay keys link opened (Ok (Some (f, n))) = (refl, refl)
keys-stay keys link opened (Err e) = tt

logs-banner : (a : MonitorArrival) (front : Front (Link MonitorStage)) → LinkStays a.link.stage front → LogsTurn a (turned_by (λ link _. on_banner Mon (at a link)) front)
logs-banner a NotYet h = tt
logs-banner a (Broken why opened) h = tt
logs-banner a (Next link opened) h =
    let row = on_banner Mon (at a link) in
    logs-moved a link row.seals row.link h (logs-plain (at a link) AwaitsHello [] (plain_frame (own_hello Mon)) tt)

logs-frame : (a : MonitorArrival) (rows : MonitorArrival → Frame → MonitorRow) (front : Front (Link MonitorStage × Frame)) → FrameStays a.link.stage front
    → ((b : MonitorArrival) (f : Frame) → Logs b (rows b f)) → LogsTurn a (turned_by (λ (link, f) _. rows (at a link) f) front)
logs-frame a rows NotYet h each = tt
logs-frame a rows (Broken why opened) h each = tt
logs-frame a rows (Next (link, f) opened) h each = let row = rows (at a link) f in logs-moved a link row.seals row.link h (each (at a link) f)

logs-secure_frame : (a : MonitorArrival) (s : Secured) (rows : MonitorArrival → Secured → Frame → MonitorRow) (front : Front (Link MonitorStage × Frame × Keys))
    → KeysStay s.keys.key a.link.stage front → IsUnder a s → ((b : MonitorArrival) (t : Secured) (f : Frame) → IsUnder b t → Logs b (rows b t f))
    → LogsTurn a (turned_by (λ (link, f, keys) opened. with_opened opened (rows (at a link) (under s keys) f)) front)
logs-secure_frame a s rows NotYet h u each = tt
logs-secure_frame a s rows (Broken why opened) h u each = tt
logs-secure_frame a s rows (Next (link, f, keys) opened) h u each =
    let row = rows (at a link) (under s keys) f in
    let here : has_key link.stage s.keys.key = subst (λ (stage : MonitorStage). has_key stage s.keys.key) (sym h.0) u in
    logs-moved a link (opened ++ row.seals) row.link h.0
    (logs-with_opened (at a link) opened row.seals row.link (each (at a link) (under s keys) f (key-moved link.stage s.keys.key keys.key h.1 here)))

turned-logs : (a : MonitorArrival) (stage : MonitorStage) → a.link.stage ≡ stage → LogsTurn a (turned_at a stage)
turned-logs a AwaitsBanner e = logs-banner a (banner_next a.link) (banner-stays a.link (banner_at (ahead_of a.link)))
turned-logs a AwaitsHello e =
    logs-frame a (λ b f. on_hello b (due 1 hello_layout.form f)) (plain_next a.link) (plain-stays a.link (plain_frame_at (ahead_of a.link)))
    (λ b f. logs-hello b (due 1 hello_layout.form f))
turned-logs a AwaitsRequest e =
    logs-frame a (λ b f. on_auth_request on_request_payload b (due 2 auth_request_layout.form f)) (plain_next a.link) (plain-stays a.link (plain_frame_at (ahead_of a.link)))
    (λ b f. logs-request b (due 2 auth_request_layout.form f))
turned-logs a (AwaitsProof offered) e =
    logs-frame a (λ b f. on_auth_request_more b offered (due 5 auth_request_more_layout.form f)) (plain_next a.link) (plain-stays a.link (plain_frame_at (ahead_of a.link)))
    (λ b f. logs-request_more b offered (due 5 auth_request_more_layout.form f))
turned-logs a (AwaitsSignature s bearer) e =
    logs-secure_frame a s (λ b t f. on_signature b t bearer (due 7 auth_signature_layout.form f)) (secure_next s.keys a.link)
    (keys-stay s.keys a.link (opened_parts (sealed_ahead s.keys a.link)) (secure_frame_at (sealed_ahead s.keys a.link)))
    (subst (λ (stage : MonitorStage). has_key stage s.keys.key) (sym e) refl)
    (λ b t f u. logs-signature b t bearer (due 7 auth_signature_layout.form f) u)
turned-logs a (AwaitsIdent s bearer) e =
    logs-secure_frame a s (λ b t f. on_ident b t bearer f) (secure_next s.keys a.link)
    (keys-stay s.keys a.link (opened_parts (sealed_ahead s.keys a.link)) (secure_frame_at (sealed_ahead s.keys a.link)))
    (subst (λ (stage : MonitorStage). has_key stage s.keys.key) (sym e) refl)
    (λ b t f u. logs-ident b t bearer f u)
turned-logs a (Open s bearer) e =
    logs-secure_frame a s (λ b t f. on_open Open b t bearer f) (secure_next s.keys a.link)
    (keys-stay s.keys a.link (opened_parts (sealed_ahead s.keys a.link)) (secure_frame_at (sealed_ahead s.keys a.link)))
    (subst (λ (stage : MonitorStage). has_key stage s.keys.key) (sym e) refl)
    (λ b t f u. logs-open b t bearer f u)

pub monitor-logs : (a : MonitorArrival) → LogsTurn a (turned_at a a.link.stage)
monitor-logs a = turned-logs a a.link.stage refl
