-- In which order the tickets of a list stand.
use Rattle.std.specs.Prelude.{ℕ, ◌==◌, ◌<◌, ◌^◌, Bool, nat_lt, length, IsTrue, Option, Some, None, List, refl}
use Rattle.cx_base.specs.declared.kinds.EntityType.{EntityType}
use Rattle.cx_base.specs.declared.kinds.EntityType.TheVariants.{Mon, Mds, Osd, Client, Mgr, Auth}
use Rattle.cx_enc.specs.Forms.{ChainFits}
use Rattle.cx_enc.specs.Layouts.{Layout, ◌⊗◌, ◌⊳◌, seen_as, constant, only_if, u8_field, kind_field, blob_field, ticket_field}
use Rattle.cx_wire.specs.declared.tickets.TicketPart.{TicketPart}

-- the place of a service among those for which tickets are issued: AUTH, MDS, OSD, MGR
abbrev pub rank : EntityType → ℕ
rank Auth = 1
rank Mds = 2
rank Osd = 3
rank Mgr = 4
rank Mon = 0
rank Client = 0

-- which service may stand behind which: first AUTH, and then MDS, OSD and MGR as far as they were issued
abbrev pub follows : Option EntityType → EntityType → Bool
follows None service = rank service == 1
follows (Some last) service = nat_lt (rank last) (rank service)

-- an entry of a list of tickets, behind that of the service before it: the service, a byte 1, the sealed TicketInfo and the
-- ticket blob
abbrev pub ticket_part_layout : Option EntityType → Layout TicketPart
ticket_part_layout last = seen_as (only_if (follows last) kind_field ⊗ (constant 1 u8_field ⊳ blob_field ⊗ ticket_field))
    (λ (service, (info, ticket)). record { service = service; info = info; ticket = ticket })
    (λ t. (t.service, (t.info, t.ticket)))
    (λ _ _. refl) (λ _ _. refl)

-- what stands before the following entry
abbrev pub behind : Option EntityType → TicketPart → Option EntityType
behind _ ticket = Some ticket.service

-- an entry that can be written behind that of a service
pub record IsNextTicket (last : Option EntityType) (ticket : TicketPart) : Type 0 where
  pub follows : IsTrue (follows last ticket.service)
  pub info : length ticket.info < 2 ^ 32
  pub blob : length ticket.ticket.blob < 2 ^ 32

-- a list that can be written behind the ticket of a service: in order, and each blob shorter than 2^32 bytes
abbrev pub AreTickets : Option EntityType → List TicketPart → Type 0
AreTickets last tickets = ChainFits IsNextTicket behind last tickets
