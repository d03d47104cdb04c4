-- Which tickets can be spelled and sealed: those that a key server issues, at a login or for a request.
use Rattle.std.specs.Prelude.{◌≤◌, List, Some, None, All, length, map, IsTrue}
use Rattle.cx_base.specs.Texts.{is_caps}
use Rattle.cx_base.specs.declared.kinds.EntityType.TheVariants.{Auth}
use Rattle.cx_enc.specs.Moments.{IsReading}
use Rattle.cx_keyserver.specs.declared.tickets.Ticket.{Ticket}
use Rattle.cx_rules.specs.Tickets.{ticket_part}
use Rattle.cx_wire.specs.Services.{AreTickets}
use Rattle.cx_wire.specs.declared.tickets.TicketPart.{TicketPart}

-- its times and its caps are such as can be spelled, and its two parts are no longer than envelopes: 25 bytes more than 1,048,576
pub record IsWhole (ticket : Ticket) : Type 0 where
  pub created : IsReading ticket.created
  pub expires : IsReading ticket.expires
  pub caps : IsTrue (is_caps ticket.caps)
  pub info : length ticket.info ≤ 1048601
  pub blob : length ticket.blob ≤ 1048601

-- a ticket as it is handed out, whose two parts are no longer than envelopes
pub record IsShort (part : TicketPart) : Type 0 where
  pub info : length part.info ≤ 1048601
  pub blob : length part.ticket.blob ≤ 1048601

-- tickets that a login hands out: there is one, they stand in the order of a LoginDone, and each is whole
pub record CanBeHandedOut (tickets : List Ticket) : Type 0 where
  pub some : 1 ≤ length tickets
  pub ordered : AreTickets None (map ticket_part tickets)
  pub whole : All IsWhole tickets

-- tickets that are told to an entity that asks for them on its link: they stand in the order of a LoginDone, behind the one for AUTH, and each
-- is whole
pub record CanBeTold (tickets : List Ticket) : Type 0 where
  pub ordered : AreTickets (Some Auth) (map ticket_part tickets)
  pub whole : All IsWhole tickets
