-- The tickets that the monitor hands out at a login ("detailed cephx protocol": the ticket for AUTH, and one for each other service that is
-- asked and for which the entity has capabilities), and what is logged and entered of them.
use Rattle.std.specs.Prelude.{ℕ, ◌==◌, ◌%◌, ◌/◌, Bool, List, [], ◌∷◌, ◌++◌, filter, map, take, Option, Some, None, Result, Ok, Err}
use Rattle.std.specs.List.{flat_map}
use Rattle.cx_base.specs.declared.kinds.EntityType.{EntityType}
use Rattle.cx_base.specs.declared.kinds.EntityType.TheVariants.{Mds, Osd, Mgr, Auth}
use Rattle.cx_keyserver.specs.cx_dice.specs.Draws.{rotation_of}
use Rattle.cx_login.specs.cx_enc.specs.Values.{number_of}
use Rattle.cx_login.specs.cx_journal.specs.declared.entries.Entry.{Entry}
use Rattle.cx_login.specs.cx_journal.specs.declared.entries.Entry.TheVariants as entry
use Rattle.cx_login.specs.cx_journal.specs.declared.faults.LoginFault.{LoginFault}
use Rattle.cx_login.specs.cx_journal.specs.declared.faults.LoginFault.TheVariants as login
use Rattle.cx_login.specs.cx_journal.specs.declared.premises.KeyKind.{KeyKind}
use Rattle.cx_login.specs.cx_journal.specs.declared.premises.KeyKind.TheVariants as kind
use Rattle.cx_keyserver.specs.Issuing.{Asked, current_at, issued, service_ticket_of, ticket_info_of}
use Rattle.cx_keyserver.specs.Servers.{Server, generations_of, life_of}
use Rattle.cx_keyserver.specs.declared.refusals.IssueRefusal.{IssueRefusal}
use Rattle.cx_keyserver.specs.declared.refusals.IssueRefusal.TheVariants as issue
use Rattle.cx_keyserver.specs.declared.tickets.Ticket.{Ticket}
use Rattle.cx_rotate.specs.declared.generations.Generation.{Generation}
use Rattle.cx_rotate.specs.Rotation.{additions}
use Rattle.cx_rotate.specs.declared.states.KeptState.{KeptState}
use Rattle.cx_keyserver.specs.cx_sealed.specs.Records.{service_ticket_layout, ticket_info_layout}
use Rattle.cx_login.specs.cx_steps.specs.declared.seals.DrawMark.TheVariants as draw
use Rattle.cx_login.specs.cx_steps.specs.declared.seals.SealEntry.{SealEntry}
use Rattle.cx_login.specs.cx_steps.specs.declared.seals.SealEntry.TheVariants.{Sealed, Drawn}
use Rattle.cx_login.specs.cx_wire.specs.declared.tickets.TicketPart.{TicketPart}

-- ---- which tickets

-- whether a service stands in a sum of services
abbrev pub is_asked : ℕ → EntityType → Bool
is_asked keys service = (keys / number_of service) % 2 == 1

-- AUTH, and of MDS, OSD and MGR those that are asked
abbrev pub services_for : ℕ → List EntityType
services_for keys = Auth ∷ filter (is_asked keys) (Mds ∷ Osd ∷ Mgr ∷ [])

abbrev pub and_first : Ticket → Result (List Ticket) LoginFault → Result (List Ticket) LoginFault
and_first ticket (Ok tickets) = Ok (ticket ∷ tickets)
and_first ticket (Err why) = Err why

-- a service for which the entity has no capabilities gets no ticket; where its generations are spent, or the keyring lacks the entity, there
-- are none at all. No other refusal comes of a service for which there are tickets
abbrev pub issued_before : Result Ticket IssueRefusal → Result (List Ticket) LoginFault → Result (List Ticket) LoginFault
issued_before (Ok ticket) rest = and_first ticket rest
issued_before (Err issue.NoCaps) rest = rest
issued_before (Err issue.IdsSpent) rest = Err login.IdsSpent
issued_before (Err issue.UnknownEntity) rest = Err login.UnknownEntity
issued_before (Err issue.NotAService) rest = rest
issued_before (Err issue.OutOfMemory) rest = rest

-- the tickets for these services, or why there are none
abbrev pub issued_for : Server → (EntityType → Asked) → List EntityType → Result (List Ticket) LoginFault
issued_for server ask [] = Ok []
issued_for server ask (service ∷ services) = issued_before (issued server (ask service)) (issued_for server ask services)

-- ---- what is logged and entered of them

-- the keys that a rotation adds for a service
abbrev pub drawn_for : ℕ → List ℕ → KeptState → EntityType → List SealEntry
drawn_for now block state service =
    let keys = rotation_of service block in
    map (λ key. Drawn (draw.Rotation key)) (take (additions now (life_of state service) keys (generations_of state service)) keys)

-- the keys that it adds for all of them
abbrev pub rotation_drawn : ℕ → List ℕ → KeptState → List SealEntry
rotation_drawn now block state = flat_map (drawn_for now block state) (Mds ∷ Osd ∷ Mgr ∷ Auth ∷ [])

-- the kind of the key that seals a service's tickets, and that of the key under which an entity is told of one
abbrev pub blob_kind : EntityType → KeyKind
blob_kind Auth = kind.Auth
blob_kind _ = kind.Service

abbrev pub info_kind : EntityType → KeyKind
info_kind Auth = kind.Principal
info_kind _ = kind.Session

-- the key under which it is told: its own secret for AUTH, and the session key of its AUTH ticket for the others
abbrev pub info_key : List ℕ → List ℕ → EntityType → List ℕ
info_key secret auth_session Auth = secret
info_key secret auth_session _ = auth_session

-- the blob, under the generation that was current when the ticket was made
abbrev pub blob_sealed : Option Generation → Ticket → List SealEntry
blob_sealed None ticket = []
blob_sealed (Some generation) ticket =
    Sealed (record { key = generation.key; kind = blob_kind ticket.service; content = service_ticket_layout.form.text (service_ticket_of ticket) }) ∷ []

-- a ticket: its session key is drawn, its blob is sealed by its generation, its TicketInfo by the key that tells the entity
abbrev pub ticket_seals : Server → List ℕ → List ℕ → Ticket → List SealEntry
ticket_seals server secret auth_session ticket =
    Drawn (draw.Session ticket.session ticket.entity)
    ∷ blob_sealed (current_at ticket.created (generations_of server.state ticket.service)) ticket
    ++ Sealed (record {
      key = info_key secret auth_session ticket.service;
      kind = info_kind ticket.service;
      content = ticket_info_layout.form.text (ticket_info_of ticket);
    }) ∷ []

abbrev pub issued_entry : Ticket → Entry
issued_entry ticket = entry.Issued (record {
  entity = ticket.entity;
  service = ticket.service;
  gid = ticket.gid;
  generation = ticket.generation;
  created = ticket.created;
  expires = ticket.expires;
  caps = ticket.caps;
  blob = ticket.blob;
})

-- a ticket as it stands in a LoginDone
abbrev pub ticket_part : Ticket → TicketPart
ticket_part ticket = record {
  service = ticket.service;
  info = ticket.info;
  ticket = record { generation = ticket.generation; blob = ticket.blob };
}
