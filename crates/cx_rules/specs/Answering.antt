-- What is due of the monitor, and what it answers then ("detailed cephx protocol": a right proof is answered by the global id and tickets, a
-- request on an open link by tickets or by rotating secrets). What a step answers at most (`Judged`) is kept by rules that deny everything too;
-- here stands what it has to answer.
use Rattle.std.specs.Prelude.{ℕ, Bool, ◌≡◌, ◌&&◌, ◌||◌, ◌==◌, ◌<◌, true, false, ◌≢◌, ◌⊎◌, ◌+◌, ◌-◌, ◌^◌, ◌≤◌, List, [], ◌∷◌, ◌++◌, filter, find, length, map, take, is_some, IsSome, IsTrue, Option, Some, Ok}
use Rattle.std.specs.List.{AllByRecursion, list_any}
use Rattle.cx_base.specs.Names.{Name, is_daemon_type, is_id, same_kind}
use Rattle.cx_base.specs.declared.kinds.EntityType.{EntityType}
use Rattle.cx_base.specs.declared.kinds.EntityType.TheVariants.{Auth}
use Rattle.cx_keyserver.specs.cx_cbc.specs.Envelope.{sealed}
use Rattle.cx_login.specs.cx_control.specs.Auth.{auth_done_layout, auth_reply_more_layout, auth_request_layout, auth_request_more_layout, auth_signature_layout}
use Rattle.cx_login.specs.cx_control.specs.Hello.{hello_layout}
use Rattle.cx_login.specs.cx_control.specs.Idents.{client_ident_layout}
use Rattle.cx_login.specs.cx_control.specs.declared.auth.AuthRequest.{AuthRequest}
use Rattle.cx_login.specs.cx_control.specs.declared.auth.AuthRequestMore.{AuthRequestMore}
use Rattle.cx_login.specs.cx_control.specs.declared.auth.AuthSignature.{AuthSignature}
use Rattle.cx_login.specs.cx_control.specs.declared.hello.Hello.{Hello}
use Rattle.cx_login.specs.cx_control.specs.declared.idents.ClientIdent.{ClientIdent}
use Rattle.cx_keyserver.specs.cx_dice.specs.Draws.{challenge_of, connection_of, has_keys, session_of}
use Rattle.cx_stream.specs.cx_digest.specs.Code.{hmac}
use Rattle.cx_stream.specs.cx_frame.specs.Frames.{frame_text}
use Rattle.cx_stream.specs.cx_frame.specs.declared.frame.Frame.{Frame}
use Rattle.cx_login.specs.cx_journal.specs.declared.entries.Entry.{Entry}
use Rattle.cx_login.specs.cx_journal.specs.declared.entries.Entry.TheVariants as entry
use Rattle.cx_keyserver.specs.cx_keyring.specs.Entries.{are_grants, is_named}
use Rattle.cx_keyserver.specs.cx_keyring.specs.declared.entries.Entry.{Entry as Principal}
use Rattle.cx_keyserver.specs.Issuing.{Asked, asking, caps_for, issued}
use Rattle.cx_keyserver.specs.Servers.{Server, generations_of, life_of, rotated_server}
use Rattle.cx_keyserver.specs.declared.tickets.Ticket.{Ticket}
use Rattle.cx_login.specs.Monitor.{IsProved, kept_gid, reclaimed}
use Rattle.cx_login.specs.Unlocking.{old_ticket}
use Rattle.cx_rotate.specs.Held.{IsRising}
use Rattle.cx_rotate.specs.Rotation.{is_current, is_full}
use Rattle.cx_rotate.specs.declared.generations.Generation.{Generation}
use Rattle.cx_keyserver.specs.cx_sealed.specs.Records.{connection_secret_layout, rotating_reply_layout}
use Rattle.cx_login.specs.cx_steps.specs.Onto.{SomeOf}
use Rattle.cx_login.specs.cx_steps.specs.declared.effects.Piece.{Piece}
use Rattle.cx_login.specs.cx_steps.specs.declared.seals.SealEntry.{SealEntry}
use Rattle.cx_login.specs.cx_wire.specs.Bodies.{reply_layout, request_layout}
use Rattle.cx_login.specs.cx_wire.specs.Logins.{authenticate_layout, login_done_layout, login_hello_layout, server_challenge_layout}
use Rattle.cx_login.specs.cx_wire.specs.declared.bodies.Reply.{Reply}
use Rattle.cx_login.specs.cx_wire.specs.declared.bodies.Reply.TheVariants as given
use Rattle.cx_login.specs.cx_wire.specs.declared.bodies.Request.{Request}
use Rattle.cx_login.specs.cx_wire.specs.declared.logins.Authenticate.{Authenticate}
use Rattle.cx_login.specs.cx_wire.specs.declared.logins.LoginHello.{LoginHello}
use Rattle.cx_rules.specs.Acceptor.{AwaitsBanner, AwaitsHello, AwaitsRequest, AwaitsProof, AwaitsSignature, AwaitsIdent, Open}
use Rattle.cx_rules.specs.Carrying.{CarriesOn}
use Rattle.cx_rules.specs.Fronts.{Next, banner_next, plain_next, secure_next}
use Rattle.cx_rules.specs.Greetings.{own_banner}
use Rattle.cx_rules.specs.Links.{Link, link_of, put_link}
use Rattle.cx_rules.specs.Messages.{Message, body_as, message, message_in}
use Rattle.cx_rules.specs.Monitor.{MonitorNode, MonitorStage, Offered}
use Rattle.cx_rules.specs.MonitorRule.{noted}
use Rattle.cx_rules.specs.Payloads.{control, due, payload, whole}
use Rattle.cx_rules.specs.Replies.{others_for}
use Rattle.cx_rules.specs.Rows.{Outcome, new_link, piece}
use Rattle.cx_rules.specs.Secured.{Keys, SealedFrame, Secured, acceptor_keys, is_signed, sealed_under, under}
use Rattle.cx_rules.specs.Tickets.{is_asked, services_for, ticket_part}
use Rattle.cx_rules.specs.Verdicts.{login_entries, numbered}
use Rattle.cx_rules.specs.declared.messages.Body.TheVariants.{Spelled}
use Rattle.cx_rules.specs.declared.responses.Bearer.{Bearer}

-- ---- tickets

-- of some services those for which an entity has capabilities ("user management"); each has them for AUTH
abbrev pub services_granted : Principal → List EntityType → List EntityType
services_granted principal services = filter (λ service. is_some (caps_for service principal)) services

-- each of these services has current secrets: three generations stand, and the second of them is unexpired ("Cephx", rotating secrets)
abbrev pub AreCurrent : ℕ → Server → List EntityType → Type 0
AreCurrent reading server services = AllByRecursion (λ service. IsTrue (is_current reading (generations_of server.state service))) services

-- a rotation makes a service's secrets current, unless the bounds are reached behind which no generation is added
abbrev pub RotatesToCurrent : ℕ → List ℕ → Server → EntityType → Type 0
RotatesToCurrent reading draw server service =
    IsTrue (has_keys service) → IsRising (generations_of server.state service) → 0 < life_of server.state service → is_full (generations_of server.state service) ≡ false
    → IsTrue (is_current reading (generations_of (rotated_server reading draw server).state service))

-- each of these generations has a key of 16 bytes
abbrev pub AreKeyed : List Generation → Type 0
AreKeyed generations = AllByRecursion (λ (g : Generation). length g.key ≡ 16) generations

-- three generations stand, each with such a key
abbrev pub AreThree : List Generation → Type 0
AreThree generations = (length generations ≡ 3) × AreKeyed generations

-- a rotation makes three of them, likewise
abbrev pub RotatesToThree : ℕ → List ℕ → Server → EntityType → Type 0
RotatesToThree reading draw server service =
    IsTrue (has_keys service) → IsRising (generations_of server.state service) → 0 < life_of server.state service → is_full (generations_of server.state service) ≡ false
    → length draw ≡ 384 → AreKeyed (generations_of server.state service) → AreThree (generations_of (rotated_server reading draw server).state service)

-- for each of these services one ticket, in their order: the one that the key server issues
abbrev pub AreIssuedFor : Server → (EntityType → Asked) → List EntityType → List Ticket → Type 0
AreIssuedFor server ask [] [] = Unit {0}
AreIssuedFor server ask (service ∷ services) (ticket ∷ tickets) = (issued server (ask service) ≡ Ok ticket) × AreIssuedFor server ask services tickets
AreIssuedFor server ask _ _ = ⊥

-- ---- what is sent and entered

-- bytes that are sent on a link, in one piece
abbrev pub link_piece : ℕ → List ℕ → Piece
link_piece number bytes = record { link = number; bytes = bytes }

-- it is entered that a ticket for this service was issued to this entity, under this global id and with these capabilities
abbrev pub IsIssuedTo : Name → ℕ → EntityType → List ℕ → Entry → Type 0
IsIssuedTo name gid service caps (entry.Issued ticket) = (ticket.entity ≡ name) × (ticket.gid ≡ gid) × (ticket.service ≡ service) × (ticket.caps ≡ caps)
IsIssuedTo name gid service caps _ = ⊥

-- a service is wanted: it is a type of daemons, and stands in the sum of services that are asked
abbrev pub is_wanted : ℕ → EntityType → Bool
is_wanted keys service = is_daemon_type service && is_asked keys service

-- for each wanted service for which the entity has capabilities it is entered that a ticket with these was issued to it
abbrev pub EntersEach : (EntityType → Bool) → Principal → Name → ℕ → List Entry → Type 0
EntersEach wanted principal name gid entries =
    (service : EntityType) (caps : List ℕ) → IsTrue (wanted service) → caps_for service principal ≡ Some caps → SomeOf (IsIssuedTo name gid service caps) entries

-- ---- banner and HELLO

-- what a step gives to a link that opens: the banner is sent on it, and the peer's is waited for
pub record OpensLink (m : MonitorNode) (number : ℕ) (o : Outcome MonitorNode) : Type 0 where
  pub sends : o.out.sends ≡ piece number own_banner
  pub opens : o.out.opens ≡ []
  pub shuts : o.out.shuts ≡ []
  pub entries : o.out.entries ≡ []
  pub own : o.state.own ≡ (noted m).own
  pub links_are : o.state.links ≡ put_link (record (new_link number AwaitsBanner) { sent = own_banner }) m.links

-- a link waits for the peer's banner, and one stands next on it
pub record HearsBanner (m : MonitorNode) (number : ℕ) : Type 0 where
  pub link : Link MonitorStage
  pub found : link_of number m.links ≡ Some link
  pub stage : link.stage ≡ AwaitsBanner
  pub behind : Link MonitorStage
  pub next : banner_next link ≡ Next behind []
  pub same : behind.number ≡ link.number

-- it waits for HELLO, and one stands next on it
pub record HearsGreeting (m : MonitorNode) (number : ℕ) : Type 0 where
  pub link : Link MonitorStage
  pub found : link_of number m.links ≡ Some link
  pub stage : link.stage ≡ AwaitsHello
  pub behind : Link MonitorStage
  pub frame : Frame
  pub next : plain_next link ≡ Next (behind, frame) []
  pub hello : Hello
  pub payload : due 1 hello_layout.form frame ≡ Ok hello

-- ---- the peer's signature, and CLIENT_IDENT

-- a link waits for the peer's AUTH_SIGNATURE, and one stands next on it that covers what was sent
pub record HearsSignature (m : MonitorNode) (number : ℕ) : Type 0 where
  pub link : Link MonitorStage
  pub found : link_of number m.links ≡ Some link
  pub secured : Secured
  pub bearer : Bearer
  pub stage : link.stage ≡ AwaitsSignature secured bearer
  pub behind : Link MonitorStage
  pub frame : Frame
  pub keys : Keys
  pub opened : List SealEntry
  pub next : secure_next secured.keys link ≡ Next (behind, frame, keys) opened
  pub signature : AuthSignature
  pub payload : due 7 auth_signature_layout.form frame ≡ Ok signature
  pub right : is_signed (under secured keys) signature.signature ≡ true

-- it waits for CLIENT_IDENT, and one stands next on it that requires no features; counters are left for an answer
pub record HearsIdent (m : MonitorNode) (number : ℕ) : Type 0 where
  pub link : Link MonitorStage
  pub found : link_of number m.links ≡ Some link
  pub secured : Secured
  pub bearer : Bearer
  pub stage : link.stage ≡ AwaitsIdent secured bearer
  pub behind : Link MonitorStage
  pub frame : Frame
  pub keys : Keys
  pub opened : List SealEntry
  pub next : secure_next secured.keys link ≡ Next (behind, frame, keys) opened
  pub tag : frame.tag ≡ 8
  pub ident : ClientIdent
  pub payload : payload client_ident_layout.form frame ≡ Ok ident
  pub required : ident.required ≡ 0
  pub counters : keys.out.counter + 3 ≤ 2 ^ 64 - 1
  pub address : length m.own.address.ip ≡ 4

-- ---- a challenge

-- a link waits for AUTH_REQUEST, and one stands next on it that has the method 2, cephx, offers the mode 2, secure, and has this LoginHello
pub record HearsHello (m : MonitorNode) (number : ℕ) (hello : LoginHello) : Type 0 where
  pub link : Link MonitorStage
  pub found : link_of number m.links ≡ Some link
  pub stage : link.stage ≡ AwaitsRequest
  pub behind : Link MonitorStage
  pub frame : Frame
  pub next : plain_next link ≡ Next (behind, frame) []
  pub request : AuthRequest
  pub payload : due 2 auth_request_layout.form frame ≡ Ok request
  pub method : request.method ≡ 2
  pub modes : IsTrue (list_any (λ mode. mode == 2) request.modes)
  pub read : whole login_hello_layout.form request.payload ≡ Ok hello

-- AUTH_REPLY_MORE with the challenge that is drawn
abbrev pub challenge_frame : List ℕ → Frame
challenge_frame draw = control 4 auth_reply_more_layout.form (record { payload = server_challenge_layout.form.text (record { challenge = challenge_of draw }) })

-- what a step gives to an entity of the keyring that says hello: a challenge, which is drawn; and the link goes on: it waits for the proof of
-- that entity's secret
pub record GivesChallenge (m : MonitorNode) (number : ℕ) (hello : LoginHello) (draw : List ℕ) (principal : Principal) (behind : Link MonitorStage) (o : Outcome MonitorNode) : Type 0 where
  pub sends : o.out.sends ≡ link_piece number (frame_text (challenge_frame draw)) ∷ []
  pub own : o.state.own ≡ (noted m).own
  pub carries : CarriesOn m.links behind
      (AwaitsProof (record { offer = record { name = hello.name; secret = principal.key.secret; challenge = challenge_of draw }; gid = hello.gid }))
      (frame_text (challenge_frame draw)) [] o

-- ---- a login

-- a link waits for the proof of an entity that was sent a challenge, and AUTH_REQUEST_MORE with this Authenticate stands next on it
pub record HearsProof (m : MonitorNode) (number : ℕ) (offered : Offered) (ask : Authenticate) : Type 0 where
  pub link : Link MonitorStage
  pub found : link_of number m.links ≡ Some link
  pub stage : link.stage ≡ AwaitsProof offered
  pub behind : Link MonitorStage
  pub frame : Frame
  pub next : plain_next link ≡ Next (behind, frame) []
  pub more : AuthRequestMore
  pub payload : due 5 auth_request_more_layout.form frame ≡ Ok more
  pub read : whole authenticate_layout.form more.payload ≡ Ok ask

-- the global id that the old ticket of an Authenticate keeps, once the secrets are rotated
abbrev pub gid_kept : Server → Offered → Authenticate → ℕ → Option ℕ
gid_kept server offered ask reading = kept_gid offered.offer.name reading (old_ticket server.state.auth ask.old_ticket).value

-- there is a global id to give: one that is kept; or a next one, and the entity doesn't insist on its own (version 3)
abbrev pub IsGidLeft : Server → Offered → Authenticate → ℕ → Type 0
IsGidLeft server offered ask reading =
    ((server.state.next_gid ≢ 2 ^ 64 - 1) × ((ask.version ≢ 3) ⊎ (offered.gid ≡ 0))) ⊎ IsSome (gid_kept server offered ask reading)

-- a login is due: an entity of the keyring, with a name and caps that one may have, proves its secret; there is a global id to give; and each
-- service for which it gets a ticket has a current generation
pub record IsDue (m : MonitorNode) (offered : Offered) (ask : Authenticate) (reading : ℕ) (draw : List ℕ) : Type 0 where
  pub principal : Principal
  pub known : find (is_named offered.offer.name) m.own.server.ring ≡ Some principal
  pub named : IsTrue (is_id offered.offer.name.kind offered.offer.name.id)
  pub caps : IsTrue (are_grants principal.caps)
  pub proved : IsProved offered.offer ask
  pub draws : length draw ≡ 384
  pub gid : IsGidLeft (rotated_server reading draw m.own.server) offered ask reading
  pub current : AreCurrent reading (rotated_server reading draw m.own.server) (services_granted principal (services_for ask.other_keys))

-- AUTH_DONE with these tickets, and with the sealed secret of the connection
abbrev pub login_frame : ℕ → List Ticket → List ℕ → Frame
login_frame gid tickets draw = control 6 auth_done_layout.form (record {
  gid = gid;
  mode = 2;
  payload = login_done_layout.form.text (record {
    tickets = map ticket_part tickets;
    connection_secret = sealed (session_of Auth draw) (connection_secret_layout.form.text (record { secret = connection_of draw }));
  });
})

-- AUTH_SIGNATURE behind it: it covers all that was received
abbrev pub login_signature : List ℕ → List ℕ → SealedFrame
login_signature draw received =
    sealed_under (acceptor_keys (connection_of draw)) (control 7 auth_signature_layout.form (record { signature = hmac (session_of Auth draw) received }))

-- what a step gives to a login that is due: a global id, kept or new, and a ticket for AUTH and for each asked service for which the entity has
-- capabilities. AUTH_DONE and AUTH_SIGNATURE are sent in one piece, each ticket is entered, and the link goes on: it waits
-- for the peer's signature, which has to cover AUTH_DONE too
pub record GivesLogin (m : MonitorNode) (number : ℕ) (offered : Offered) (ask : Authenticate) (reading : ℕ) (draw : List ℕ) (principal : Principal) (behind : Link MonitorStage) (o : Outcome MonitorNode) : Type 0 where
  pub gid : ℕ
  pub numbers : numbered (rotated_server reading draw m.own.server) (reclaimed offered.gid ask.version (gid_kept (rotated_server reading draw m.own.server) offered ask reading))
      ≡ Ok (record { server = o.state.own.server; gid = gid })
  pub tickets : List Ticket
  pub issued : AreIssuedFor o.state.own.server (λ service. asking offered.offer.name service gid (session_of Auth draw) reading draw)
      (services_granted principal (services_for ask.other_keys)) tickets
  pub sends : o.out.sends ≡ link_piece number (frame_text (login_frame gid tickets draw) ++ (login_signature draw (take behind.taken behind.received)).bytes) ∷ []
  pub entered : EntersEach (λ service. same_kind service Auth || is_wanted ask.other_keys service) principal offered.offer.name gid o.out.entries
  pub carries : CarriesOn m.links behind
      (AwaitsSignature
      (record { keys = (login_signature draw (take behind.taken behind.received)).keys; session = session_of Auth draw; covered = behind.sent ++ frame_text (login_frame gid tickets draw) })
      (record { name = offered.offer.name; gid = gid; session = session_of Auth draw; last = 0 }))
      (frame_text (login_frame gid tickets draw) ++ (login_signature draw (take behind.taken behind.received)).bytes) (login_entries o.out.save tickets) o

-- ---- a request

-- a link is open, and a message of type 17 with this request stands next on it: its number is the next one, and both the numbers and the
-- counters for the two parts of a reply are left
pub record HearsRequest (m : MonitorNode) (number : ℕ) (request : Request) : Type 0 where
  pub link : Link MonitorStage
  pub found : link_of number m.links ≡ Some link
  pub secured : Secured
  pub bearer : Bearer
  pub stage : link.stage ≡ Open secured bearer
  pub behind : Link MonitorStage
  pub frame : Frame
  pub keys : Keys
  pub opened : List SealEntry
  pub next : secure_next secured.keys link ≡ Next (behind, frame, keys) opened
  pub message : Message
  pub read : message_in frame ≡ Ok message
  pub type_ : message.header.type_ ≡ 17
  pub asks : body_as request_layout.form message.body ≡ Spelled request
  pub order : message.header.seq ≡ bearer.last + 1
  pub left : bearer.last ≢ 2 ^ 64 - 1
  pub counters : keys.out.counter + 2 ≤ 2 ^ 64 - 1

-- a step replies: message 18 with this reply is sent under the tid of the request, the secrets are rotated, and the link goes on, open as before
pub record SendsReply (m : MonitorNode) (number reading : ℕ) (draw : List ℕ) {request : Request} (heard : HearsRequest m number request) (reply : Reply) (o : Outcome MonitorNode) : Type 0 where
  pub sent : SealedFrame
  pub made : sent ≡ sealed_under heard.keys (message (record { seq = 0; tid = heard.message.header.tid; type_ = 18 }) (reply_layout.form.text reply))
  pub sends : o.out.sends ≡ link_piece number sent.bytes ∷ []
  pub server : o.state.own.server ≡ rotated_server reading draw m.own.server
  pub carries : CarriesOn m.links heard.behind (Open (under heard.secured sent.keys) (record heard.bearer { last = heard.message.header.seq })) sent.bytes o.out.entries o

-- tickets are due: to an entity of the keyring, with a name and caps that one may have, where each service for which it gets a ticket has a
-- current generation
pub record AreTicketsDue (m : MonitorNode) (bearer : Bearer) (keys reading : ℕ) (draw : List ℕ) : Type 0 where
  pub principal : Principal
  pub known : find (is_named bearer.name) m.own.server.ring ≡ Some principal
  pub named : IsTrue (is_id bearer.name.kind bearer.name.id)
  pub caps : IsTrue (are_grants principal.caps)
  pub current : AreCurrent reading (rotated_server reading draw m.own.server) (services_granted principal (others_for keys))

-- the reply to code 0x0200: a ticket for each asked service for which the entity has capabilities, under its own global id, told under the
-- session key of its ticket for AUTH; and each is entered
pub record GivesTickets (m : MonitorNode) (number keys reading : ℕ) (draw : List ℕ) {request : Request} (heard : HearsRequest m number request) (principal : Principal) (o : Outcome MonitorNode) : Type 0 where
  pub tickets : List Ticket
  pub issued : AreIssuedFor (rotated_server reading draw m.own.server) (λ service. asking heard.bearer.name service heard.bearer.gid heard.bearer.session reading draw)
      (services_granted principal (others_for keys)) tickets
  pub replied : SendsReply m number reading draw heard (given.Tickets (map ticket_part tickets)) o
  pub entries : o.out.entries ≡ login_entries o.out.save tickets
  pub entered : EntersEach (is_wanted keys) principal heard.bearer.name heard.bearer.gid o.out.entries

-- generations are due: to a daemon of the keyring, where three of its type stand
pub record AreGenerationsDue (m : MonitorNode) (bearer : Bearer) (reading : ℕ) (draw : List ℕ) : Type 0 where
  pub principal : Principal
  pub known : find (is_named bearer.name) m.own.server.ring ≡ Some principal
  pub daemon : IsTrue (is_daemon_type bearer.name.kind)
  pub stand : AreThree (generations_of (rotated_server reading draw m.own.server).state bearer.name.kind)

-- the reply to code 0x0400: the generations of the daemon's own type, sealed under its own secret
pub record GivesGenerations (m : MonitorNode) (number reading : ℕ) (draw : List ℕ) {request : Request} (heard : HearsRequest m number request) (principal : Principal) (o : Outcome MonitorNode) : Type 0 where
  pub replied : SendsReply m number reading draw heard
      (given.Rotating (sealed principal.key.secret (rotating_reply_layout.form.text (record {
        service = heard.bearer.name.kind;
        generations = generations_of (rotated_server reading draw m.own.server).state heard.bearer.name.kind;
      })))) o
  pub entries : o.out.entries ≡ login_entries o.out.save []
