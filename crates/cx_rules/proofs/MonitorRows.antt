-- Each row of the monitor, in the order of a connection, and a turn of a link.
use Rattle.std.proofs.Common.{ℕ, ◌==◌, inl, Bool, true, false, List, [], ◌∷◌, ◌++◌, map, take, Option, Some, None, Result, Ok, Err, refl, ◌≡◌, inr, ap, ◌∙◌}
use Rattle.std.specs.Prelude.{find, not, if◌then◌else◌, ◌⊎◌}
use Rattle.std.specs.List.{list_any}
use Rattle.cx_base.specs.declared.kinds.EntityType.TheVariants.{Mds, Osd, Mgr, Auth, Mon}
use Rattle.cx_login.specs.cx_control.specs.Auth.{auth_reply_more_layout, auth_request_layout, auth_request_more_layout, auth_signature_layout}
use Rattle.cx_login.specs.cx_control.specs.Hello.{hello_layout}
use Rattle.cx_login.specs.cx_control.specs.Idents.{client_ident_layout, ident_missing_features_layout}
use Rattle.cx_login.specs.cx_control.specs.Reconnects.{session_reconnect_layout, session_reset_layout}
use Rattle.cx_login.specs.cx_control.specs.Upkeep.{keepalive2_layout, keepalive2_ack_layout}
use Rattle.cx_login.specs.cx_control.specs.declared.auth.AuthRequest.{AuthRequest}
use Rattle.cx_login.specs.cx_control.specs.declared.auth.AuthRequestMore.{AuthRequestMore}
use Rattle.cx_login.specs.cx_control.specs.declared.auth.AuthSignature.{AuthSignature}
use Rattle.cx_login.specs.cx_control.specs.declared.hello.Hello.{Hello}
use Rattle.cx_login.specs.cx_control.specs.declared.idents.ClientIdent.{ClientIdent}
use Rattle.cx_login.specs.cx_control.specs.declared.reconnects.SessionReconnect.{SessionReconnect}
use Rattle.cx_login.specs.cx_control.specs.declared.upkeep.Keepalive2.{Keepalive2}
use Rattle.cx_login.specs.cx_control.specs.declared.upkeep.Keepalive2Ack.{Keepalive2Ack}
use Rattle.cx_stream.specs.cx_frame.specs.declared.banner.Banner.{Banner}
use Rattle.cx_stream.specs.cx_frame.specs.declared.frame.Frame.{Frame}
use Rattle.cx_stream.specs.cx_frame.specs.declared.refusals.BannerRefusal.{BannerRefusal}
use Rattle.cx_stream.specs.cx_frame.specs.declared.refusals.FrameRefusal.{FrameRefusal}
use Rattle.cx_login.specs.cx_journal.specs.declared.faults.BytesFault.{BytesFault}
use Rattle.cx_login.specs.cx_journal.specs.declared.faults.BytesFault.TheVariants.{Unexpected}
use Rattle.cx_login.specs.cx_journal.specs.declared.faults.LoginFault.TheVariants.{Method, Mode, SignatureWrong}
use Rattle.cx_login.specs.cx_journal.specs.declared.faults.LoginFault.TheVariants as login
use Rattle.cx_login.specs.cx_journal.specs.declared.outcomes.Reason.TheVariants.{Login}
use Rattle.cx_login.specs.cx_journal.specs.declared.premises.KeyKind.{KeyKind}
use Rattle.cx_login.specs.cx_journal.specs.declared.premises.KeyKind.TheVariants as kind
use Rattle.cx_keyserver.specs.cx_dice.specs.Draws.{challenge_of, rotation_of}
use Rattle.cx_stream.specs.cx_frame.specs.Banners.{banner_at}
use Rattle.cx_keyserver.specs.cx_keyring.specs.Entries.{is_named}
use Rattle.cx_keyserver.specs.Servers.{generations_of, life_of, rotated_server}
use Rattle.cx_rotate.specs.Rotation.{additions}
use Rattle.cx_keyserver.specs.cx_sealed.specs.Records.{service_ticket_layout}
use Rattle.cx_keyserver.specs.cx_sealed.specs.Unsealing.{unsealed}
use Rattle.cx_login.specs.cx_wire.specs.Logins.{authenticate_layout, login_hello_layout, server_challenge_layout}
use Rattle.cx_rules.specs.Greetings.{own_hello}
use Rattle.cx_keyserver.specs.cx_keyring.specs.declared.entries.Entry.{Entry as Principal}
use Rattle.cx_login.specs.Monitor.{Offer, Proven, kept_gid, proof_found, proving, reclaimed}
use Rattle.cx_login.specs.Opening.{generation_key}
use Rattle.cx_login.specs.Unlocking.{Unlocked, old_under, old_ticket, unlocked_as}
use Rattle.cx_login.specs.declared.refusals.WrongProof.{WrongProof}
use Rattle.cx_rotate.specs.declared.states.KeptState.{KeptState}
use Rattle.cx_keyserver.specs.cx_sealed.specs.declared.service_ticket.ServiceTicket.{ServiceTicket}
use Rattle.cx_keyserver.specs.cx_sealed.specs.declared.unsealed.Unsealed.{Unsealed}
use Rattle.cx_stream.specs.cx_secure.specs.declared.refusals.SecureRefusal.{SecureRefusal}
use Rattle.cx_login.specs.cx_steps.specs.declared.seals.DrawMark.TheVariants as draw
use Rattle.cx_login.specs.cx_steps.specs.declared.seals.SealEntry.{SealEntry}
use Rattle.cx_login.specs.cx_steps.specs.declared.seals.SealEntry.TheVariants.{Drawn, Opened}
use Rattle.cx_stream.specs.Openings.{front_contents}
use Rattle.cx_stream.specs.PlainStreams.{plain_frame_at}
use Rattle.cx_stream.specs.SecureStreams.{Ahead, secure_frame_at}
use Rattle.cx_login.specs.cx_wire.specs.declared.logins.Authenticate.{Authenticate}
use Rattle.cx_login.specs.cx_wire.specs.declared.logins.LoginHello.{LoginHello}
use Rattle.cx_rules.specs.Acceptor.{AwaitsBanner, AwaitsHello, AwaitsRequest, AwaitsProof, AwaitsSignature, AwaitsIdent, Open, denies, misses, missing_told, on_auth_request, on_banner, on_hello, on_signature, server_ident}
use Rattle.cx_rules.specs.Fronts.{Front, NotYet, Broken, Next, ahead_of, banner_next, banner_read, opened_parts, plain_next, plain_read, secure_next, secure_read, sealed_ahead}
use Rattle.cx_rules.specs.Judged.{IsEnvelopeSealed, IsProofFound, NoneOf, HearsFrame}
use Rattle.cx_rules.specs.Links.{Link}
use Rattle.cx_rules.specs.Monitor.{Monitor, MonitorArrival, MonitorRow, MonitorStage, Offered}
use Rattle.cx_rules.specs.MonitorLogin.{challenges, occasion, on_authenticate, on_login_hello, proves, row_of, with_server}
use Rattle.cx_rules.specs.MonitorRule.{on_auth_request_more, on_client_ident, on_ident, on_request_payload, on_session_reconnect, turned_at}
use Rattle.cx_rules.specs.Payloads.{control, due, payload, whole}
use Rattle.cx_rules.specs.Rows.{at, goes_on, refuses, refuses_bytes, sends_secure, Turned, Waits, Refuses, Handles, turned_by, with_opened}
use Rattle.cx_rules.specs.Secured.{Keys, SealedFrame, Secured, is_signed, secure_frame, signature_found, under}
use Rattle.cx_rules.specs.Tickets.{drawn_for, issued_for, rotation_drawn}
use Rattle.cx_rules.specs.Upkeep.{on_keepalive, on_keepalive_ack}
use Rattle.cx_rules.specs.Verdicts.{Occasion, key_of, numbered, reclaims, rotates}
use Rattle.cx_rules.specs.declared.responses.Bearer.{Bearer}
use Rattle.cx_login.specs.cx_journal.specs.declared.faults.LoginFault.{LoginFault}
use Rattle.cx_login.specs.cx_journal.specs.declared.outcomes.Reason.{Reason}
use Rattle.cx_login.specs.cx_enc.specs.declared.keys.Key.{Key}
use Rattle.cx_keyserver.specs.Servers.{Server, rotated_server, secrets_of}
use Rattle.cx_keyserver.specs.declared.refusals.NotADaemon.{NotADaemon}
use Rattle.cx_keyserver.specs.declared.tickets.Ticket.{Ticket}
use Rattle.cx_rotate.specs.declared.generations.Generation.{Generation}
use Rattle.cx_login.specs.cx_wire.specs.declared.bodies.Request.{Request}
use Rattle.cx_login.specs.cx_wire.specs.declared.bodies.Request.TheVariants as asked
use Rattle.cx_rules.specs.KeptStates.{changed, saved_behind}
use Rattle.cx_rules.specs.MonitorRequests.{heard, on_demand, on_message, on_open, reply_message, request_occasion, responds, sends_reply, serving}
use Rattle.cx_rules.specs.Replies.{Responded, answers, answers_by, asking_of, issues_tickets, others_for, tells_generations, tells_tickets}
use Rattle.cx_rules.specs.declared.responses.Demand.{Demand}
use Rattle.cx_rules.specs.declared.responses.ReplyMade.{ReplyMade}
use Rattle.cx_rules.specs.declared.responses.Response.{Response}
use Rattle.cx_rules.specs.declared.responses.Response.TheVariants as response
use Rattle.cx_rules.proofs.Granting.{Judged, Ready, numbers-judged, quiet-denies, some-append, Rated, Replies, saved-changed}
use Rattle.cx_rules.proofs.Quiet.{NoneIn, Quiet, none-append, none-flat_map, none-map, none-secure_frame, quiet-goes_on, quiet-refuses, quiet-refuses_bytes, quiet-sends_plain, quiet-sends_secure, quiet-with_opened}

-- ---- LoginHello, Authenticate

challenges-quiet : (a : MonitorArrival) (hello : LoginHello) (principal : Option Principal) → Quiet a.own.saved (challenges a hello principal)
challenges-quiet a hello None = quiet-denies a 13 login.UnknownEntity [] tt
challenges-quiet a hello (Some principal) =
    let challenge = challenge_of a.draw in
    let offer : Offer = record { name = hello.name; secret = principal.key.secret; challenge = challenge } in
    let none : NoneOf IsEnvelopeSealed (Drawn (draw.Challenge challenge) ∷ []) = (λ x. x, tt) in
    quiet-sends_plain a (AwaitsProof (record { offer = offer; gid = hello.gid })) (Drawn (draw.Challenge challenge) ∷ [])
    (control 4 auth_reply_more_layout.form (record { payload = server_challenge_layout.form.text (record { challenge = challenge }) })) none

login_hello-quiet : (a : MonitorArrival) (hello : Result LoginHello BytesFault) → Quiet a.own.saved (on_login_hello a hello)
login_hello-quiet a (Err why) = quiet-refuses_bytes a why [] tt
login_hello-quiet a (Ok hello) = challenges-quiet a hello (find (is_named hello.name) a.own.server.ring)

none_drawn : (keys : List (List ℕ)) (n : ℕ) → NoneOf IsEnvelopeSealed (map (λ key. Drawn (draw.Rotation key)) (take n keys))
none_drawn keys n = none-map IsEnvelopeSealed (λ key. Drawn (draw.Rotation key)) (take n keys) (λ key x. x)

rotation-none : (reading : ℕ) (draw : List ℕ) (state : KeptState) → NoneOf IsEnvelopeSealed (rotation_drawn reading draw state)
rotation-none reading draw state =
    none-flat_map IsEnvelopeSealed (drawn_for reading draw state) (Mds ∷ Osd ∷ Mgr ∷ Auth ∷ []) (λ service. none_drawn (rotation_of service draw) (additions reading (life_of state service) (rotation_of service draw) (generations_of state service)))

unlocked-none : (kind : KeyKind) (key : List ℕ) (found : Option (Unsealed ServiceTicket)) → NoneOf IsEnvelopeSealed (unlocked_as kind key found).seals
unlocked-none kind key None = tt
unlocked-none kind key (Some u) = (λ x. x, tt)

old-none : (key : Option (List ℕ)) (blob : List ℕ) → NoneOf IsEnvelopeSealed (old_under key blob).seals
old-none None blob = tt
old-none (Some key) blob = unlocked-none kind.Auth key (unsealed service_ticket_layout.form key blob)

reclaims-judged : (a : MonitorArrival) (hello_gid : ℕ) (proven : Proven) (seals : List SealEntry) (old : Unlocked ServiceTicket)
    → Ready seals → NoneOf IsEnvelopeSealed old.seals → Judged a.own.saved (row_of a (reclaims (occasion a) a.own.server hello_gid proven seals old))
reclaims-judged a hello_gid proven seals old r n =
    numbers-judged a proven (seals ++ old.seals)
    (numbered a.own.server (reclaimed hello_gid proven.ask.version (kept_gid proven.offer.name a.reading old.value)))
    (record { proven = some-append IsProofFound seals old.seals r.proven; none = none-append IsEnvelopeSealed seals old.seals r.none n })

rotates-judged : (a : MonitorArrival) (hello_gid : ℕ) (proven : Proven) → Judged a.own.saved (row_of a (rotates (occasion a) a.own.server hello_gid proven))
rotates-judged a hello_gid proven =
    let server = rotated_server a.reading a.draw a.own.server in
    let found = proof_found proven.offer proven.ask.client_challenge in
    let drawn = rotation_drawn a.reading a.draw a.own.server.state in
    let first : IsProofFound found = refl in
    let ready : Ready (found ∷ drawn) = record { proven = inl first; none = (λ x. x, rotation-none a.reading a.draw a.own.server.state) } in
    reclaims-judged (with_server a server) hello_gid proven (found ∷ drawn) (old_ticket server.state.auth proven.ask.old_ticket) ready
    (old-none (generation_key server.state.auth proven.ask.old_ticket.generation) proven.ask.old_ticket.blob)

proves-judged : (a : MonitorArrival) (hello_gid : ℕ) (proven : Result Proven WrongProof) → Judged a.own.saved (proves a hello_gid proven)
proves-judged a hello_gid (Err wrong) = inl (quiet-denies a 13 login.WrongProof [] tt)
proves-judged a hello_gid (Ok proven) = rotates-judged a hello_gid proven

authenticate-judged : (a : MonitorArrival) (offered : Offered) (ask : Result Authenticate BytesFault) → Judged a.own.saved (on_authenticate a offered ask)
authenticate-judged a offered (Err why) = inl (quiet-refuses_bytes a why [] tt)
authenticate-judged a offered (Ok ask) = proves-judged a offered.gid (proving offered.offer ask)

-- ---- the other rows

hello-quiet : (a : MonitorArrival) (hello : Result Hello BytesFault) → Quiet a.own.saved (on_hello a hello)
hello-quiet a (Ok hello) = quiet-goes_on a AwaitsRequest [] [] tt
hello-quiet a (Err why) = quiet-refuses_bytes a why [] tt

request-quiet : (a : MonitorArrival) (request : Result AuthRequest BytesFault) → Quiet a.own.saved (on_auth_request on_request_payload a request)
request-quiet a (Err why) = quiet-refuses_bytes a why [] tt
request-quiet a (Ok request) = by_tests (not (request.method == 2)) (not (list_any (λ mode. mode == 2) request.modes))
  where
    by_tests : (other plain : Bool) → Quiet a.own.saved (if other then denies a 95 Method [] else if plain then denies a 95 Mode [] else on_request_payload a request.payload)
    by_tests true plain = quiet-denies a 95 Method [] tt
    by_tests false true = quiet-denies a 95 Mode [] tt
    by_tests false false = login_hello-quiet a (whole login_hello_layout.form request.payload)

request_more-judged : (a : MonitorArrival) (offered : Offered) (more : Result AuthRequestMore BytesFault) → Judged a.own.saved (on_auth_request_more a offered more)
request_more-judged a offered (Err why) = inl (quiet-refuses_bytes a why [] tt)
request_more-judged a offered (Ok more) = authenticate-judged a offered (whole authenticate_layout.form more.payload)

signature-quiet : (a : MonitorArrival) (s : Secured) (bearer : Bearer) (found : Result AuthSignature BytesFault) → Quiet a.own.saved (on_signature a s bearer found)
signature-quiet a s bearer (Err why) = quiet-refuses_bytes a why [] tt
signature-quiet a s bearer (Ok found) = by_test (is_signed s found.signature)
  where
    by_test : (right : Bool) → Quiet a.own.saved (if right then goes_on a (AwaitsIdent s bearer) [] (signature_found s ∷ []) else refuses a (Login SignatureWrong) [])
    by_test true = quiet-goes_on a (AwaitsIdent s bearer) [] (signature_found s ∷ []) (λ x. x, tt)
    by_test false = quiet-refuses a (Login SignatureWrong) [] tt

missing-quiet : (a : MonitorArrival) (features : ℕ) (sealed : Result SealedFrame BytesFault) → NoneIn sealed → Quiet a.own.saved (missing_told a features sealed)
missing-quiet a features (Err why) n = quiet-refuses_bytes a why [] tt
missing-quiet a features (Ok sealed) n = record { entries = (λ x. x, tt); seals = n; save = refl; saved_is = refl }

client_ident-quiet : (a : MonitorArrival) (s : Secured) (bearer : Bearer) (ident : Result ClientIdent BytesFault) → Quiet a.own.saved (on_client_ident a s bearer ident)
client_ident-quiet a s bearer (Err why) = quiet-refuses_bytes a why [] tt
client_ident-quiet a s bearer (Ok ident) = by_test (ident.required == 0)
  where
    by_test : (plain : Bool) → Quiet a.own.saved (if plain then sends_secure a s (λ behind. Open behind bearer) [] (server_ident a.own.address 1 0) else misses a s ident.required)
    by_test true = quiet-sends_secure a s (λ behind. Open behind bearer) [] (server_ident a.own.address 1 0) tt
    by_test false =
        let f = control 10 ident_missing_features_layout.form (record { features = ident.required }) in
        missing-quiet a ident.required (secure_frame s.keys f) (none-secure_frame s.keys f)

reconnect-quiet : (a : MonitorArrival) (s : Secured) (bearer : Bearer) (reconnect : Result SessionReconnect BytesFault) → Quiet a.own.saved (on_session_reconnect a s bearer reconnect)
reconnect-quiet a s bearer (Err why) = quiet-refuses_bytes a why [] tt
reconnect-quiet a s bearer (Ok reconnect) =
    quiet-sends_secure a s (λ behind. AwaitsIdent behind bearer) [] (control 12 session_reset_layout.form (record { full = true })) tt

ident-quiet : (a : MonitorArrival) (s : Secured) (bearer : Bearer) (f : Frame) → Quiet a.own.saved (on_ident a s bearer f)
ident-quiet a s bearer f = by_tests (f.tag == 8) (f.tag == 11)
  where
    by_tests : (client reconnect : Bool) → Quiet a.own.saved (if client then on_client_ident a s bearer (payload client_ident_layout.form f)
        else if reconnect then on_session_reconnect a s bearer (payload session_reconnect_layout.form f) else refuses_bytes a (Unexpected f.tag) [])
    by_tests true reconnect = client_ident-quiet a s bearer (payload client_ident_layout.form f)
    by_tests false true = reconnect-quiet a s bearer (payload session_reconnect_layout.form f)
    by_tests false false = quiet-refuses_bytes a (Unexpected f.tag) [] tt

keepalive-quiet : (a : MonitorArrival) (s : Secured) (open_under : Secured → MonitorStage) (keepalive : Result Keepalive2 BytesFault) → Quiet a.own.saved (on_keepalive a s open_under keepalive)
keepalive-quiet a s open_under (Err why) = quiet-refuses_bytes a why [] tt
keepalive-quiet a s open_under (Ok keepalive) =
    quiet-sends_secure a s open_under [] (control 19 keepalive2_ack_layout.form (record { time = keepalive.time })) tt

keepalive_ack-quiet : (a : MonitorArrival) (s : Secured) (open_under : Secured → MonitorStage) (ack : Result Keepalive2Ack BytesFault) → Quiet a.own.saved (on_keepalive_ack a s open_under ack)
keepalive_ack-quiet a s open_under (Err why) = quiet-refuses_bytes a why [] tt
keepalive_ack-quiet a s open_under (Ok ack) = quiet-goes_on a (open_under s) [] [] tt

-- ---- requests

-- what comes of a request: a refusal that logs no ticket, or a reply that logs none before its own and saves what has changed
abbrev pub IsFair : KeptState → Server → Response → Type 0
IsFair saved server (response.Refuses why drawn) = NoneOf IsEnvelopeSealed drawn
IsFair saved server (response.Replies made) = NoneOf IsEnvelopeSealed made.seals × (made.save ≡ changed saved server.state)

abbrev pub FairResponse : Occasion → Responded → Type 0
FairResponse at r = IsFair at.saved r.server r.response

tickets-fair : (at : Occasion) (server : Server) (bearer : Bearer) (drawn : List SealEntry) (own : List ℕ) (tickets : Result (List Ticket) LoginFault) → NoneOf IsEnvelopeSealed drawn
    → FairResponse at (tells_tickets at server bearer drawn own tickets)
tickets-fair at server bearer drawn own (Err why) n = n
tickets-fair at server bearer drawn own (Ok tickets) n = (n, refl)

issues-fair : (at : Occasion) (server : Server) (bearer : Bearer) (drawn : List SealEntry) (keys : ℕ) (own : Option Key) → NoneOf IsEnvelopeSealed drawn
    → FairResponse at (issues_tickets at server bearer drawn keys own)
issues-fair at server bearer drawn keys None n = n
issues-fair at server bearer drawn keys (Some own) n = tickets-fair at server bearer drawn own.secret (issued_for server (asking_of at bearer) (others_for keys)) n

generations-fair : (at : Occasion) (server : Server) (bearer : Bearer) (drawn : List SealEntry) (own : Option Key) (found : Result (List Generation) NotADaemon)
    → NoneOf IsEnvelopeSealed drawn → FairResponse at (tells_generations at server bearer drawn own found)
generations-fair at server bearer drawn (Some own) (Ok generations) n = (n, refl)
generations-fair at server bearer drawn (Some own) (Err why) n = n
generations-fair at server bearer drawn None (Ok generations) n = n
generations-fair at server bearer drawn None (Err why) n = n

request-fair : (at : Occasion) (server : Server) (bearer : Bearer) (drawn : List SealEntry) (request : Option Request) → NoneOf IsEnvelopeSealed drawn
    → FairResponse at (answers_by at server bearer drawn request)
request-fair at server bearer drawn (Some (asked.Tickets keys)) n = issues-fair at server bearer drawn keys (key_of server bearer.name) n
request-fair at server bearer drawn (Some asked.Rotating) n = generations-fair at server bearer drawn (key_of server bearer.name) (secrets_of server bearer.name) n
request-fair at server bearer drawn None n = n

answers-fair : (at : Occasion) (server : Server) (bearer : Bearer) (request : Option Request) → FairResponse at (answers at server bearer request)
answers-fair at server bearer request =
    request-fair at (rotated_server at.reading at.draw server) bearer (rotation_drawn at.reading at.draw server.state) request (rotation-none at.reading at.draw server.state)

-- a row on an open link: one that hands out nothing, or a reply
abbrev pub QuietOrReplies : KeptState → MonitorRow → Type 0
QuietOrReplies saved row = Quiet saved row ⊎ Replies saved row

reply-rated : (a : MonitorArrival) (s : Secured) (bearer : Bearer) (seq : ℕ) (made : ReplyMade) (sealing : Result SealedFrame BytesFault) → IsFair a.own.saved a.own.server (response.Replies made)
    → QuietOrReplies a.own.saved (sends_reply Open a s bearer seq made sealing)
reply-rated a s bearer seq made (Err why) fair = inl (quiet-refuses_bytes a why made.seals fair.0)
reply-rated a s bearer seq made (Ok sent) fair =
    inr (record {
      link = _;
      goes = refl;
      save = fair.1;
      saved_is = ap (saved_behind a.own.saved) fair.1 ∙ saved-changed a.own.saved a.own.server.state;
    })

responds-rated : (a : MonitorArrival) (s : Secured) (bearer : Bearer) (demand : Demand) (r : Response) → IsFair a.own.saved a.own.server r
    → QuietOrReplies a.own.saved (responds Open a s bearer demand r)
responds-rated a s bearer demand (response.Refuses why drawn) fair = inl (quiet-refuses a why drawn fair)
responds-rated a s bearer demand (response.Replies made) fair =
    reply-rated a s bearer demand.seq made (secure_frame s.keys (reply_message demand.tid made.body)) fair

demand-rated : (a : MonitorArrival) (s : Secured) (bearer : Bearer) (found : Result Demand Reason) → QuietOrReplies a.own.saved (on_demand Open a s bearer found)
demand-rated a s bearer (Err why) = inl (quiet-refuses a why [] tt)
demand-rated a s bearer (Ok demand) =
    let r : Responded = answers (request_occasion a) a.own.server bearer demand.request in
    responds-rated (serving a r.server) s bearer demand r.response (answers-fair (request_occasion a) a.own.server bearer demand.request)

open-rated : (a : MonitorArrival) (s : Secured) (bearer : Bearer) (f : Frame) → QuietOrReplies a.own.saved (on_open Open a s bearer f)
open-rated a s bearer f = by_tests (f.tag == 18) (f.tag == 19)
  where
    by_tests : (ask ack : Bool) → QuietOrReplies a.own.saved (if ask then on_keepalive a s (λ behind. Open behind bearer) (payload keepalive2_layout.form f)
        else if ack then on_keepalive_ack a s (λ behind. Open behind bearer) (payload keepalive2_ack_layout.form f) else on_message Open a s bearer f)
    by_tests true ack = inl (keepalive-quiet a s (λ behind. Open behind bearer) (payload keepalive2_layout.form f))
    by_tests false true = inl (keepalive_ack-quiet a s (λ behind. Open behind bearer) (payload keepalive2_ack_layout.form f))
    by_tests false false = demand-rated a s bearer (heard bearer f)

-- behind what opened before it
opened-rated : (saved : KeptState) (opened : List SealEntry) (row : MonitorRow) → NoneOf IsEnvelopeSealed opened → QuietOrReplies saved row → QuietOrReplies saved (with_opened opened row)
opened-rated saved opened row n (inl quiet) = inl (quiet-with_opened saved opened row n quiet)
opened-rated saved opened row n (inr r) = inr (record { link = r.link; goes = r.goes; save = r.save; saved_is = r.saved_is })

-- ---- a turn

-- what opened at the front is no ticket that was sealed
abbrev pub FrontNone : {X : Type 0} → Front X → Type 0
FrontNone NotYet = Unit {0}
FrontNone (Broken why opened) = NoneOf IsEnvelopeSealed opened
FrontNone (Next x opened) = NoneOf IsEnvelopeSealed opened

banner-none : (link : Link MonitorStage) (r : Result (Option (Banner × ℕ)) BannerRefusal) → FrontNone (banner_read link r)
banner-none link (Ok None) = tt
banner-none link (Ok (Some (b, n))) = tt
banner-none link (Err e) = tt

plain-none : (link : Link MonitorStage) (r : Result (Option (Frame × ℕ)) FrameRefusal) → FrontNone (plain_read link r)
plain-none link (Ok None) = tt
plain-none link (Ok (Some (f, n))) = tt
plain-none link (Err e) = tt

opened-none : (ahead : Ahead) → NoneOf IsEnvelopeSealed (opened_parts ahead)
opened-none ahead =
    none-map IsEnvelopeSealed (λ content. Opened (record { key = ahead.key; kind = kind.Connection; content = content })) (front_contents ahead) (λ content x. x)

secure-none : (keys : Keys) (link : Link MonitorStage) (opened : List SealEntry) (r : Result (Option (Frame × ℕ)) SecureRefusal)
    → NoneOf IsEnvelopeSealed opened → FrontNone (secure_read keys link opened r)
secure-none keys link opened (Ok None) h = tt
secure-none keys link opened (Ok (Some (f, n))) h = h
secure-none keys link opened (Err e) h = h

secure-next-none : (keys : Keys) (link : Link MonitorStage) → FrontNone (secure_next keys link)
secure-next-none keys link =
    secure-none keys link (opened_parts (sealed_ahead keys link)) (secure_frame_at (sealed_ahead keys link)) (opened-none (sealed_ahead keys link))

-- a turn that hands out nothing, or tickets behind a proof that was found equal, or a reply where it may
abbrev pub TurnJudged : Type 0 → KeptState → Turned Monitor MonitorStage → Type 0
TurnJudged May saved Waits = Unit {0}
TurnJudged May saved (Refuses why opened) = NoneOf IsEnvelopeSealed opened
TurnJudged May saved (Handles row) = Rated May saved row

by-front : {X : Type 0} (May : Type 0) (saved : KeptState) (row : X → List SealEntry → MonitorRow) (front : Front X) → FrontNone front
    → ((x : X) (opened : List SealEntry) → NoneOf IsEnvelopeSealed opened → Judged saved (row x opened)) → TurnJudged May saved (turned_by row front)
by-front May saved row NotYet n h = tt
by-front May saved row (Broken why opened) n h = n
by-front May saved row (Next x opened) n h = inl (h x opened n)

rated-where : (May : Type 0) (saved : KeptState) (row : MonitorRow) → May → QuietOrReplies saved row → Rated May saved row
rated-where May saved row may (inl quiet) = inl (inl quiet)
rated-where May saved row may (inr replies) = inr (may, replies)

-- the same of a link that is open: where a frame stands next on it, a reply may come of it
by-open-front : (a : MonitorArrival) (s : Secured) (bearer : Bearer) (e : a.link.stage ≡ Open s bearer) (front : Front (Link MonitorStage × Frame × Keys)) → secure_next s.keys a.link ≡ front → FrontNone front
    → TurnJudged (HearsFrame a.link) a.own.saved (turned_by (λ (link, f, keys) opened. with_opened opened (on_open Open (at a link) (under s keys) bearer f)) front)
by-open-front a s bearer e NotYet is n = tt
by-open-front a s bearer e (Broken why opened) is n = n
by-open-front a s bearer e (Next (link, f, keys) opened) is n =
    let hears : HearsFrame a.link = record { secured = s; bearer = bearer; stage = e; behind = (link, f, keys); opened = opened; next = is } in
    let row : MonitorRow = on_open Open (at a link) (under s keys) bearer f in
    rated-where (HearsFrame a.link) a.own.saved (with_opened opened row) hears
    (opened-rated a.own.saved opened row n (open-rated (at a link) (under s keys) bearer f))

pub turned-judged : (a : MonitorArrival) (stage : MonitorStage) → a.link.stage ≡ stage → TurnJudged (HearsFrame a.link) a.own.saved (turned_at a stage)
turned-judged a AwaitsBanner e =
    by-front (HearsFrame a.link) a.own.saved (λ link _. on_banner Mon (at a link)) (banner_next a.link) (banner-none a.link (banner_at (ahead_of a.link)))
    (λ link opened n. inl (quiet-sends_plain (at a link) AwaitsHello [] (own_hello Mon) tt))
turned-judged a AwaitsHello e =
    by-front (HearsFrame a.link) a.own.saved (λ (link, f) _. on_hello (at a link) (due 1 hello_layout.form f)) (plain_next a.link) (plain-none a.link (plain_frame_at (ahead_of a.link)))
    (λ (link, f) opened n. inl (hello-quiet (at a link) (due 1 hello_layout.form f)))
turned-judged a AwaitsRequest e =
    by-front (HearsFrame a.link) a.own.saved (λ (link, f) _. on_auth_request on_request_payload (at a link) (due 2 auth_request_layout.form f)) (plain_next a.link)
    (plain-none a.link (plain_frame_at (ahead_of a.link)))
    (λ (link, f) opened n. inl (request-quiet (at a link) (due 2 auth_request_layout.form f)))
turned-judged a (AwaitsProof offered) e =
    by-front (HearsFrame a.link) a.own.saved (λ (link, f) _. on_auth_request_more (at a link) offered (due 5 auth_request_more_layout.form f)) (plain_next a.link)
    (plain-none a.link (plain_frame_at (ahead_of a.link)))
    (λ (link, f) opened n. request_more-judged (at a link) offered (due 5 auth_request_more_layout.form f))
turned-judged a (AwaitsSignature s bearer) e =
    by-front (HearsFrame a.link) a.own.saved (λ (link, f, keys) opened. with_opened opened (on_signature (at a link) (under s keys) bearer (due 7 auth_signature_layout.form f)))
    (secure_next s.keys a.link) (secure-next-none s.keys a.link)
    (λ (link, f, keys) opened n. inl (quiet-with_opened a.own.saved opened (on_signature (at a link) (under s keys) bearer (due 7 auth_signature_layout.form f)) n
    (signature-quiet (at a link) (under s keys) bearer (due 7 auth_signature_layout.form f))))
turned-judged a (AwaitsIdent s bearer) e =
    by-front (HearsFrame a.link) a.own.saved (λ (link, f, keys) opened. with_opened opened (on_ident (at a link) (under s keys) bearer f))
    (secure_next s.keys a.link) (secure-next-none s.keys a.link)
    (λ (link, f, keys) opened n. inl (quiet-with_opened a.own.saved opened (on_ident (at a link) (under s keys) bearer f) n (ident-quiet (at a link) (under s keys) bearer f)))
turned-judged a (Open s bearer) e = by-open-front a s bearer e (secure_next s.keys a.link) refl (secure-next-none s.keys a.link)
