-- Tickets as a client holds them ("detailed cephx protocol": what CEPHX_GET_AUTH_SESSION_KEY and CEPHX_GET_PRINCIPAL_SESSION_KEY
-- answer).
use Rattle.std.specs.Prelude.{ℕ, ◌≡◌, ◌<◌, ◌^◌, List, length, Result, Ok, Err}
use Rattle.cx_base.specs.declared.kinds.EntityType.{EntityType}
use Rattle.cx_sealed.specs.declared.ticket_info.TicketInfo.{TicketInfo}
use Rattle.cx_wire.specs.declared.tickets.TicketPart.{TicketPart}
use Rattle.cx_login.specs.declared.refusals.LoginRefusal.{LoginRefusal}
use Rattle.cx_login.specs.declared.refusals.LoginRefusal.TheVariants.{OutOfMemory}

-- a ticket that a client holds
pub record Held : Type 0 where
  pub service : EntityType
  pub generation : ℕ
  pub blob : List ℕ
  pub session : List ℕ
  pub expires : ℕ

-- a ticket as its entry in the list and its TicketInfo tell it
abbrev pub held_as : TicketPart → TicketInfo → Held
held_as part info = record {
  service = part.service;
  generation = part.ticket.generation;
  blob = part.ticket.blob;
  session = info.session;
  expires = info.expires;
}

-- the blob can be shown
abbrev pub IsShort : TicketPart → Type 0
IsShort part = length part.ticket.blob < 2 ^ 32

-- the answer is this value, unless memory was wanting
abbrev pub Yields : {X : Type 0} → Result X LoginRefusal → X → Type 0
Yields (Ok y) x = y ≡ x
Yields (Err e) x = e ≡ OutOfMemory
