-- Who gets which ticket, and under which secrets it is sealed ("Cephx": the monitor issues a principal a ticket for a service,
-- sealed under the rotating secret of that service, and tells it the session key under a key that it shares with the principal).
use Rattle.std.specs.Prelude.{ℕ, ◌≡◌, ◌+◌, Bool, true, false, nat_lt, List, [], ◌∷◌, Option, Some, None, Result, Ok, Err, find, if◌then◌else◌}
use Rattle.std.specs.Option.{option_map}
use Rattle.cx_base.specs.declared.kinds.EntityType.{EntityType}
use Rattle.cx_base.specs.declared.kinds.EntityType.TheVariants.{Auth}
use Rattle.cx_base.specs.Names.{Name, same_kind}
use Rattle.cx_keyring.specs.declared.entries.Entry.{Entry}
use Rattle.cx_keyring.specs.Entries.{is_named}
use Rattle.cx_rotate.specs.declared.generations.Generation.{Generation}
use Rattle.cx_rotate.specs.declared.states.KeptState.{KeptState}
use Rattle.cx_dice.specs.Draws.{has_keys, session_of}
use Rattle.cx_keyring.specs.cx_enc.specs.Forms.{passed}
use Rattle.cx_sealed.specs.cx_cbc.specs.Envelope.{sealed}
use Rattle.cx_sealed.specs.declared.service_ticket.ServiceTicket.{ServiceTicket}
use Rattle.cx_sealed.specs.declared.ticket_info.TicketInfo.{TicketInfo}
use Rattle.cx_sealed.specs.Records.{service_ticket_layout, ticket_info_layout}
use Rattle.cx_sealed.specs.Sealing.{OpensTo}
use Rattle.cx_keyserver.specs.declared.issuing.TicketRequest.{TicketRequest}
use Rattle.cx_keyserver.specs.declared.tickets.Ticket.{Ticket}
use Rattle.cx_keyserver.specs.declared.refusals.IssueRefusal.{IssueRefusal}
use Rattle.cx_keyserver.specs.declared.refusals.IssueRefusal.TheVariants.{UnknownEntity, NotAService, NoCaps, IdsSpent, OutOfMemory}
use Rattle.cx_keyserver.specs.Servers.{Server, generations_of, life_of, rotated_server}

-- what is asked for: a ticket of an entity for a service, with the entity's global id and the session key of its AUTH ticket,
-- at a reading and with a draw
pub record Asked : Type 0 where
  pub name : Name
  pub service : EntityType
  pub gid : ℕ
  pub auth_session : List ℕ
  pub reading : ℕ
  pub draw : List ℕ

abbrev pub asking : Name → EntityType → ℕ → List ℕ → ℕ → List ℕ → Asked
asking name service gid auth_session reading draw = record {
  name = name;
  service = service;
  gid = gid;
  auth_session = auth_session;
  reading = reading;
  draw = draw;
}

-- what is asked for, without where it lies
abbrev pub asked_for : TicketRequest → Asked
asked_for asked = asking asked.name.now asked.service asked.gid asked.auth_session.now asked.reading asked.draw.now.bytes

-- the caps of an entity for a service, as the keyring has them; a ticket for AUTH has the empty text
abbrev pub caps_for : EntityType → Entry → Option (List ℕ)
caps_for service entry =
    if same_kind service Auth
    then Some []
    else option_map (λ grant. grant.caps) (find (λ grant. same_kind service grant.service) entry.caps)

-- the current generation, which is the second, while it is unexpired
abbrev pub current_at : ℕ → List Generation → Option Generation
current_at now (_ ∷ second ∷ _ ∷ []) = if nat_lt now second.expires then Some second else None
current_at now _ = None

-- the key under which an entity is told of its ticket: its own secret for AUTH, and the session key of its AUTH ticket for the
-- other services
abbrev pub telling_key : Entry → Asked → List ℕ
telling_key entry asked = if same_kind asked.service Auth then entry.key.secret else asked.auth_session

-- what the service finds in a ticket
abbrev pub service_ticket_of : Ticket → ServiceTicket
service_ticket_of ticket = record {
  session = ticket.session;
  name = ticket.entity;
  gid = ticket.gid;
  created = ticket.created;
  expires = ticket.expires;
  caps = ticket.caps;
}

-- what the entity is told of it
abbrev pub ticket_info_of : Ticket → TicketInfo
ticket_info_of ticket = record {
  service = ticket.service;
  session = ticket.session;
  created = ticket.created;
  expires = ticket.expires;
}

-- the fields of a ticket: it is good from the reading on for one life of the service's tickets, and has the session key that was
-- drawn for the service; its two sealed parts are empty yet
abbrev pub fields_of : KeptState → Asked → List ℕ → Generation → Ticket
fields_of state asked caps generation = record {
  entity = asked.name;
  service = asked.service;
  gid = asked.gid;
  caps = caps;
  created = asked.reading;
  expires = asked.reading + life_of state asked.service;
  generation = generation.id;
  session = session_of asked.service asked.draw;
  info = [];
  blob = [];
}

-- a ticket with its two sealed parts: the blob is sealed by the generation's key, the info by the key that tells the entity
abbrev pub sealed_by : List ℕ → List ℕ → Ticket → Ticket
sealed_by generation_key entity_key ticket = record ticket {
  info = sealed entity_key (ticket_info_layout.form.text (ticket_info_of ticket));
  blob = sealed generation_key (service_ticket_layout.form.text (service_ticket_of ticket));
}

-- what stands, or this refusal
abbrev pub or_else : {A : Type 0} → IssueRefusal → Option A → Result A IssueRefusal
or_else why (Some x) = Ok x
or_else why None = Err why

-- one step and then the next, up to the first refusal
infixl 10 ◌>>=◌
abbrev pub ◌>>=◌ : {A B : Type 0} → Result A IssueRefusal → (A → Result B IssueRefusal) → Result B IssueRefusal
(Ok x) >>= f = f x
(Err why) >>= f = Err why

-- the ticket that a server issues, whose generations are rotated: the entity is in the keyring, the service is one for which
-- there are tickets, the entity has caps for it, and its current generation is unexpired; else the first refusal that holds
abbrev pub issued : Server → Asked → Result Ticket IssueRefusal
issued server asked =
    or_else UnknownEntity (find (is_named asked.name) server.ring) >>= λ entry.
    or_else NotAService (passed has_keys asked.service) >>= λ service.
    or_else NoCaps (caps_for service entry) >>= λ caps.
    or_else IdsSpent (current_at asked.reading (generations_of server.state service)) >>= λ generation.
    Ok (sealed_by generation.key (telling_key entry asked) (fields_of server.state asked caps generation))

-- the answer is this one, unless memory was wanting
abbrev pub IsIssued : Result Ticket IssueRefusal → Result Ticket IssueRefusal → Type 0
IsIssued expected (Ok ticket) = expected ≡ Ok ticket
IsIssued expected (Err UnknownEntity) = expected ≡ Err UnknownEntity
IsIssued expected (Err NotAService) = expected ≡ Err NotAService
IsIssued expected (Err NoCaps) = expected ≡ Err NoCaps
IsIssued expected (Err IdsSpent) = expected ≡ Err IdsSpent
IsIssued expected (Err OutOfMemory) = Unit {0}

abbrev pub wants_memory : Result Ticket IssueRefusal → Bool
wants_memory (Ok ticket) = false
wants_memory (Err UnknownEntity) = false
wants_memory (Err NotAService) = false
wants_memory (Err NoCaps) = false
wants_memory (Err IdsSpent) = false
wants_memory (Err OutOfMemory) = true

-- the server behind an answer: the rotation stays, whatever was answered, save that want of memory changes nothing
abbrev pub server_behind : Server → ℕ → List ℕ → Result Ticket IssueRefusal → Server
server_behind server now draw answer = if wants_memory answer then server else rotated_server now draw server

-- the two sealed parts of a ticket open to its fields, under these keys
pub record OpensUnder (generation_key entity_key : List ℕ) (ticket : Ticket) : Type 0 where
  pub blob : OpensTo service_ticket_layout.form generation_key ticket.blob (service_ticket_of ticket)
  pub info : OpensTo ticket_info_layout.form entity_key ticket.info (ticket_info_of ticket)

-- an issued ticket opens: its blob under the key of its service's current generation, its info under the key that tells the entity
pub record IsOpenable (server : Server) (asked : Asked) (ticket : Ticket) : Type 0 where
  pub entry : Entry
  pub found : find (is_named asked.name) server.ring ≡ Some entry
  pub generation : Generation
  pub current : current_at asked.reading (generations_of server.state asked.service) ≡ Some generation
  pub opens : OpensUnder generation.key (telling_key entry asked) ticket
