-- What a daemon and a client answer wherever an answer is due: what is sent, and what is entered, with no exception. A frame is sealed where
-- counters are left for it; of a frame whose length isn't fixed it is said which lengths it may have.
use Rattle.std.specs.Prelude.{ℕ, ◌≡◌, ◌≢◌, ◌==◌, ◌+◌, ◌*◌, ◌-◌, ◌^◌, ◌<◌, ◌≤◌, Bool, true, false, List, All, [], ◌∷◌, ◌++◌, length, take, Option, Some, None, Result, Ok, Err}
use Rattle.std.specs.List.{AllByRecursion, list_any}
use Rattle.cx_authorize.specs.cx_aes.specs.Cipher.{IsBlock}
use Rattle.cx_authorize.specs.Agreement.{HoldsTicket}
use Rattle.cx_authorize.specs.Answers.{IsAuthorizer, shown_as}
use Rattle.cx_authorize.specs.Daemon.{Authority, Awaited}
use Rattle.cx_authorize.specs.Judging.{judged_first, judged_second}
use Rattle.cx_authorize.specs.declared.refusals.AuthRefusal.{AuthRefusal}
use Rattle.cx_session.specs.cx_base.specs.Names.{Name, same_kind}
use Rattle.cx_session.specs.cx_base.specs.declared.kinds.EntityType.{EntityType}
use Rattle.cx_session.specs.cx_base.specs.declared.operations.Operation.{Operation}
use Rattle.cx_desk.specs.cx_caps.specs.Reading.{cap_allows}
use Rattle.cx_authorize.specs.cx_control.specs.Auth.{auth_request_layout, auth_request_more_layout, auth_signature_layout}
use Rattle.cx_authorize.specs.cx_control.specs.declared.auth.AuthRequest.{AuthRequest}
use Rattle.cx_authorize.specs.cx_control.specs.declared.auth.AuthRequestMore.{AuthRequestMore}
use Rattle.cx_authorize.specs.cx_control.specs.Idents.{client_ident_layout}
use Rattle.cx_authorize.specs.cx_control.specs.Reconnects.{session_reconnect_layout}
use Rattle.cx_authorize.specs.cx_control.specs.declared.auth.AuthSignature.{AuthSignature}
use Rattle.cx_authorize.specs.cx_control.specs.declared.idents.ClientIdent.{ClientIdent}
use Rattle.cx_authorize.specs.cx_control.specs.declared.reconnects.SessionReconnect.{SessionReconnect}
use Rattle.cx_desk.specs.Handlers.{Handlers, has_handler}
use Rattle.cx_rules.specs.cx_digest.specs.Code.{hmac}
use Rattle.cx_rules.specs.cx_frame.specs.declared.frame.Frame.{Frame}
use Rattle.cx_authorize.specs.cx_journal.specs.declared.entries.Entry.{Entry}
use Rattle.cx_authorize.specs.cx_journal.specs.declared.premises.KeyKind.TheVariants.{Principal}
use Rattle.cx_rules.specs.cx_login.specs.Held.{Held}
use Rattle.cx_rules.specs.cx_login.specs.Opening.{generation_key}
use Rattle.cx_rules.specs.cx_login.specs.Unlocking.{unlocked}
use Rattle.cx_rules.specs.cx_rotate.specs.declared.generations.Generation.{Generation}
use Rattle.cx_rules.specs.cx_rotate.specs.declared.views.View.{View}
use Rattle.cx_authorize.specs.cx_sealed.specs.Records.{rotating_reply_layout}
use Rattle.cx_authorize.specs.cx_sealed.specs.declared.rotating_reply.RotatingReply.{RotatingReply}
use Rattle.cx_authorize.specs.cx_sealed.specs.declared.service_ticket.ServiceTicket.{ServiceTicket}
use Rattle.cx_session.specs.Book.{resume_reply, take_reply, with_client_cookie}
use Rattle.cx_rules.specs.cx_steps.specs.declared.effects.Effects.{Effects}
use Rattle.cx_rules.specs.cx_steps.specs.declared.seals.SealEntry.{SealEntry}
use Rattle.cx_authorize.specs.cx_wire.specs.Bodies.{reply_layout}
use Rattle.cx_authorize.specs.cx_wire.specs.declared.bodies.Reply.TheVariants as given
use Rattle.cx_rules.specs.Acceptor.{AwaitsIdent, AwaitsProof, AwaitsRequest, Open}
use Rattle.cx_rules.specs.Connector as connector
use Rattle.cx_rules.specs.Connector.{Login}
use Rattle.cx_rules.specs.Fronts.{Next, keys_behind, plain_next, secure_next, taking}
use Rattle.cx_rules.specs.Links.{Link, link_of}
use Rattle.cx_rules.specs.Messages.{Message, body_as, message_in}
use Rattle.cx_rules.specs.Payloads.{control, due, payload}
use Rattle.cx_rules.specs.Requests.{Requests, fetched_entry, first_open}
use Rattle.cx_rules.specs.Rows.{Outcome, arrival, piece}
use Rattle.cx_rules.specs.Secured.{Keys, Secured, is_signed, sealed_under}
use Rattle.cx_rules.specs.declared.messages.Body.TheVariants.{Spelled}
use Rattle.cx_rules.specs.declared.requests.Waiting.{Waiting}
use Rattle.cx_rules.specs.declared.requests.Want.TheVariants.{Rotating}
use Rattle.cx_rules_session.specs.ClientRule.{ClientStage, ToMonitor, WholeClientNode, first_call}
use Rattle.cx_rules_session.specs.DaemonRule.{DaemonStage, AsAcceptor, AsConnector, DaemonState, asking_open, is_fetching, me, owner_entity, owner_gid}
use Rattle.cx_rules_session.specs.IncomingLinks.{IncomingArrival, IncomingStage, Served}
use Rattle.cx_rules_session.specs.Hosting.{Instruction, instruction_of}
use Rattle.cx_rules_session.specs.Kinds.{of_kind}
use Rattle.cx_rules_session.specs.Sessions.{Callee, HeldSession, session_with}

-- ---- what is said of each

-- a step sends these bytes alone, on this link, and enters this alone
pub record Says (number : ℕ) (bytes : List ℕ) (entries : List Entry) (out : Effects) : Type 0 where
  pub sends : out.sends ≡ piece number bytes
  pub entered : out.entries ≡ entries

-- this it enters first, whatever follows
abbrev pub EntersFirst : Entry → Effects → Type 0
EntersFirst first out = (later : List Entry) × (out.entries ≡ first ∷ later)

-- it sends and enters this, and shuts no link
pub record SaysAndStays (number : ℕ) (bytes : List ℕ) (entries : List Entry) (out : Effects) : Type 0 where
  pub says : Says number bytes entries out
  pub shuts : out.shuts ≡ []

-- it sends and enters this, and shuts no link but others than this
pub record SaysAndShutsOthers (number : ℕ) (bytes : List ℕ) (entries : List Entry) (out : Effects) : Type 0 where
  pub says : Says number bytes entries out
  pub shuts : AllByRecursion (λ n. n ≢ number) out.shuts

-- counters are left for so many frames, of which none has more than three parts
abbrev pub HasCounters : Keys → ℕ → Type 0
HasCounters keys frames = keys.out.counter + 3 * frames < 2 ^ 64

-- a frame as it is sealed under these keys, and two of them in one piece
abbrev pub sealed_bytes : Keys → Frame → List ℕ
sealed_bytes keys f = let one = sealed_under keys f in one.bytes

abbrev pub both_sealed : Keys → Frame → Frame → List ℕ
both_sealed keys f g = let one = sealed_under keys f in one.bytes ++ sealed_bytes one.keys g

-- a frame stands next on a link, under these keys
pub record StandsNext {Stage : Type 0} (link : Link Stage) (keys : Keys) (f : Frame) : Type 0 where
  pub size : ℕ
  pub opened : List SealEntry
  pub next : secure_next keys link ≡ Next (taking link size, f, keys_behind keys f) opened

-- ---- a daemon and its clients

-- an incoming link in this stage, which is one of the daemon's
abbrev pub in_incoming_stage : Link IncomingStage → IncomingStage → Link IncomingStage
in_incoming_stage link stage = record link { stage = stage }

abbrev pub HasIncoming : DaemonState → Link IncomingStage → IncomingStage → Type 0
HasIncoming d link stage = link_of link.number d.node.links ≡ Some (of_kind AsAcceptor (in_incoming_stage link stage))

-- what a row goes by there
abbrev pub incoming_arrival : DaemonState → Link IncomingStage → IncomingStage → ℕ → List ℕ → IncomingArrival
incoming_arrival d link stage reading draw = arrival (me d.node.own) d.node.own.mon_client (in_incoming_stage link stage) reading draw

-- what is judged, by this of what was shown
abbrev pub judged_by : {X Y : Type 0} → (X → Y) → Result X AuthRefusal → Result Y AuthRefusal
judged_by part (Ok shown) = Ok (part shown)
judged_by part (Err why) = Err why

-- an authorizer that one makes who holds a ticket as it was issued, for a daemon of this service that has its generation, while it is live; with
-- the daemon's challenge, where one was sent
pub record IsGood (service : EntityType) (view : View) (reading : ℕ) (challenge : Option ℕ) (ticket : ServiceTicket) (nonce : ℕ) (bytes : List ℕ) : Type 0 where
  pub held : Held
  pub key : List ℕ
  pub holds : HoldsTicket held ticket key
  pub served : same_kind service held.service ≡ true
  pub known : generation_key view.generations held.generation ≡ Some key
  pub live : reading < ticket.expires
  pub shown : IsAuthorizer held ticket.gid (shown_as nonce challenge) bytes
  pub octets : All (λ b. b < 256) bytes
  pub blocks : AllByRecursion (λ g. IsBlock g.key) view.generations

-- a plain frame stands next on a link
pub record StandsPlain {Stage : Type 0} (link : Link Stage) (f : Frame) : Type 0 where
  pub size : ℕ
  pub next : plain_next link ≡ Next (taking link size, f) []

-- AUTH_REQUEST by cephx, in secure mode, whose authorizer passes with a ticket
pub record IsFirstPassed (d : DaemonState) (link : Link IncomingStage) (reading : ℕ) (ticket : ServiceTicket) : Type 0 where
  pub incoming : HasIncoming d link AwaitsRequest
  pub frame : Frame
  pub stands : StandsPlain (in_incoming_stage link AwaitsRequest) frame
  pub request : AuthRequest
  pub reads : due 2 auth_request_layout.form frame ≡ Ok request
  pub method : request.method ≡ 2
  pub secure : list_any (λ mode. mode == 2) request.modes ≡ true
  pub passes : judged_by (λ shown. shown.ticket) (judged_first d.node.own.mon_client.name.kind d.node.own.mon_client.view reading request.payload).value ≡ Ok ticket

-- AUTH_REQUEST_MORE whose authorizer passes with a ticket and a nonce, and answers the challenge
pub record IsSecondPassed (d : DaemonState) (link : Link IncomingStage) (awaited : Awaited) (reading : ℕ) (ticket : ServiceTicket) (nonce : ℕ) : Type 0 where
  pub incoming : HasIncoming d link (AwaitsProof awaited)
  pub frame : Frame
  pub stands : StandsPlain (in_incoming_stage link (AwaitsProof awaited)) frame
  pub more : AuthRequestMore
  pub reads : due 5 auth_request_more_layout.form frame ≡ Ok more
  pub passes : judged_by {Y = ServiceTicket × ℕ} (λ shown. (shown.ticket, shown.authorize.nonce)) (judged_second awaited d.node.own.mon_client.view reading more.payload).value ≡ Ok (ticket, nonce)

-- the bytes that a signature behind a frame of this size covers
abbrev pub covered_bytes : Link IncomingStage → ℕ → List ℕ
covered_bytes link size = take (link.taken + size) link.received

-- AUTH_SIGNATURE over them
abbrev pub signature_frame : List ℕ → List ℕ → Frame
signature_frame session received = control 7 auth_signature_layout.form (record { signature = hmac session received })

-- CLIENT_IDENT that requires nothing, of a cookie that no live session has, where there is a place and a number for one more
pub record IsAdmissible (d : DaemonState) (link : Link IncomingStage) (s : Secured) (owner : Authority) (ident : ClientIdent) : Type 0 where
  pub incoming : HasIncoming d link (AwaitsIdent s owner)
  pub frame : Frame
  pub stands : StandsNext (in_incoming_stage link (AwaitsIdent s owner)) s.keys frame
  pub tag : frame.tag ≡ 8
  pub reads : payload client_ident_layout.form frame ≡ Ok ident
  pub required : ident.required ≡ 0
  pub fresh : with_client_cookie ident.cookie d.book.live ≡ None
  pub few : length d.book.live < 4096
  pub numbered : d.book.next < 2 ^ 64 - 1

-- SESSION_RECONNECT that the book answers by the session's number, its next epoch, its last message, and whether it is lossy
pub record IsResumable (d : DaemonState) (link : Link IncomingStage) (s : Secured) (owner : Authority) (reconnect : SessionReconnect) (number epoch last : ℕ) (lossy : Bool) : Type 0 where
  pub incoming : HasIncoming d link (AwaitsIdent s owner)
  pub frame : Frame
  pub stands : StandsNext (in_incoming_stage link (AwaitsIdent s owner)) s.keys frame
  pub tag : frame.tag ≡ 11
  pub reads : payload session_reconnect_layout.form frame ≡ Ok reconnect
  pub resumed : resume_reply owner_entity owner_gid d.book owner reconnect.client_cookie reconnect.server_cookie reconnect.global_seq reconnect.connect_seq
      ≡ Ok (number, epoch, last, lossy)

-- the next message of a session: an operation that its capabilities allow, for whose kind there is a handler
pub record IsServable (handlers : Handlers) (d : DaemonState) (link : Link IncomingStage) (s : Secured) (served : Served) (i : Instruction) : Type 0 where
  pub incoming : HasIncoming d link (Open s served)
  pub frame : Frame
  pub stands : StandsNext (in_incoming_stage link (Open s served)) s.keys frame
  pub tag : frame.tag ≡ 17
  pub reads : instruction_of (message_in frame) ≡ Ok i
  pub due : take_reply d.book served.number served.epoch i.seq ≡ Ok tt
  pub allowed : cap_allows served.caps i.operation ≡ true
  pub handler : has_handler i.operation.access handlers ≡ true

-- ---- a daemon's fetches

-- no generations are held, or the second of them has expired
abbrev pub IsBehind : ℕ → List Generation → Type 0
IsBehind reading [] = Unit {0}
IsBehind reading (_ ∷ second ∷ _ ∷ []) = second.expires ≤ reading
IsBehind reading _ = ⊥

-- a fetch is due, and none is under way
pub record IsFetchDue (d : DaemonState) (reading : ℕ) : Type 0 where
  pub behind : IsBehind reading d.node.own.mon_client.view.generations
  pub none : is_fetching d.node ≡ false

-- a link to the monitor is open, on which a request can be sent
pub record HasOpenLink (d : DaemonState) (link : Link DaemonStage) (s : Secured) (requests : Requests) : Type 0 where
  pub open_ : first_open asking_open d.node.links ≡ Some (link, (s, requests))
  pub numbered : requests.count < 2 ^ 64 - 1
  pub counters : HasCounters s.keys 1

-- the reply of the monitor to the request for generations that waits longest on an open link
pub record IsFetchReply (d : DaemonState) (link : Link connector.Stage) (s : Secured) (requests : Requests) (asked : ℕ) (reply : RotatingReply) : Type 0 where
  pub own : link_of link.number d.node.links ≡ Some (of_kind AsConnector (record link { stage = connector.Open s requests }))
  pub frame : Frame
  pub stands : StandsNext (record link { stage = connector.Open s requests }) s.keys frame
  pub tag : frame.tag ≡ 17
  pub message : Message
  pub reads : message_in frame ≡ Ok message
  pub type_ : message.header.type_ ≡ 18
  pub sealed : List ℕ
  pub body : body_as reply_layout.form message.body ≡ Spelled (given.Rotating sealed)
  pub later : List Waiting
  pub waits : requests.waiting ≡ record { tid = message.header.tid; want = Rotating asked } ∷ later
  pub opens : (unlocked rotating_reply_layout.form Principal d.node.own.mon_client.secret sealed).value ≡ Some reply

-- it is entered that these generations were fetched, and they are the view, with the reading at which they were asked for; no link is shut
pub record IsFetched (d : DaemonState) (asked : ℕ) (generations : List Generation) (o : Outcome DaemonState) : Type 0 where
  pub entered : o.out.entries ≡ fetched_entry d.node.own.mon_client.name asked generations ∷ []
  pub view : o.state.node.own.mon_client.view ≡ record { generations = generations; asked = Some asked }
  pub shuts : o.out.shuts ≡ []

-- ---- a client

-- an operation for a session that is held, which has a place and a number for it
pub record IsSendable (c : WholeClientNode) (daemon : Name) (session : HeldSession) : Type 0 where
  pub held : session_with daemon c.own.sessions ≡ Some session
  pub few : length session.queue.waiting < 1024
  pub numbered : session.queue.last < 2 ^ 64 - 1

-- an operation that a message holds
pub record IsSizedOperation (operation : Operation) : Type 0 where
  pub pool : length operation.pool ≤ 255
  pub namespace : length operation.namespace ≤ 255
  pub object : length operation.object ≤ 255
  pub bytes : length operation.bytes ≤ 65536

-- a link to the daemon is open
pub record HasOpenCall (c : WholeClientNode) (session : HeldSession) (link : Link ClientStage) (s : Secured) (callee : Callee) (cookie : ℕ) : Type 0 where
  pub open_ : first_call session.daemon c.links ≡ Some (link, (s, (callee, cookie)))
  pub counters : HasCounters s.keys 1

-- the monitor's signature is right, on a link on which a login was opened
pub record IsSigned (c : WholeClientNode) (link : Link connector.Stage) (s : Secured) (login : Login) : Type 0 where
  pub own : link_of link.number c.links ≡ Some (of_kind ToMonitor (record link { stage = connector.AwaitsSignature s login }))
  pub frame : Frame
  pub stands : StandsNext (record link { stage = connector.AwaitsSignature s login }) s.keys frame
  pub found : AuthSignature
  pub reads : due 7 auth_signature_layout.form frame ≡ Ok found
  pub right : is_signed s found.signature ≡ true
