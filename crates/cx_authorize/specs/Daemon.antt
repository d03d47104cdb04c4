-- The daemon's side of an authorizer ("detailed cephx protocol": the daemon challenges the first authorizer, and answers the second).
use Rattle.std.specs.Prelude.{ℕ, ◌≡◌, ◌<◌, List, Some}
use Rattle.cx_base.specs.declared.kinds.EntityType.{EntityType}
use Rattle.cx_rotate.specs.declared.views.View.{View}
use Rattle.cx_sealed.specs.Records.{service_ticket_layout}
use Rattle.cx_sealed.specs.Sealing.{OpensTo}
use Rattle.cx_sealed.specs.declared.service_ticket.ServiceTicket.{ServiceTicket}
use Rattle.cx_login.specs.Opening.{generation_key}

-- a daemon of this service that awaits the answer to its challenge
pub record Awaited : Type 0 where
  pub service : EntityType
  pub challenge : ℕ

-- a ticket, the view that had its generation, and the reading at which it was live
pub record Authority : Type 0 where
  pub ticket : ServiceTicket
  pub view : View
  pub at : ℕ

-- The ticket was opened, from some blob, under a generation of the view, and expires after the reading.
pub record IsLive (view : View) (at : ℕ) (ticket : ServiceTicket) : Type 0 where
  pub id : ℕ
  pub key : List ℕ
  pub blob : List ℕ
  pub known : generation_key view.generations id ≡ Some key
  pub opened : OpensTo service_ticket_layout.form key blob ticket
  pub live : at < ticket.expires
