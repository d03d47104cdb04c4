-- What the key server hands out at a login ("detailed cephx protocol").
use Rattle.std.specs.Prelude.{ℕ, List, ◌∷◌, map, Result}
use Rattle.std.specs.List.{AllByRecursion}
use Rattle.cx_enc.specs.Whole.{Spells}
use Rattle.cx_sealed.specs.Records.{ticket_info_layout, connection_secret_layout}
use Rattle.cx_sealed.specs.Sealing.{OpensTo}
use Rattle.cx_sealed.specs.declared.ticket_info.TicketInfo.{TicketInfo}
use Rattle.cx_wire.specs.Logins.{login_done_layout}
use Rattle.cx_wire.specs.declared.tickets.TicketPart.{TicketPart}
use Rattle.cx_login.specs.Held.{Held, held_as, Yields}
use Rattle.cx_login.specs.declared.client.LoggedIn.{LoggedIn}
use Rattle.cx_login.specs.declared.refusals.LoginRefusal.{LoginRefusal}

-- a ticket as it is handed out: what is told of it, and its entry in the list
pub record Handed : Type 0 where
  pub info : TicketInfo
  pub part : TicketPart

-- it is told under this key
abbrev pub IsToldUnder : List ℕ → Handed → Type 0
IsToldUnder key ticket = OpensTo ticket_info_layout.form key ticket.part.info ticket.info

-- the ticket as its client holds it
abbrev pub held_of : Handed → Held
held_of ticket = held_as ticket.part ticket.info

abbrev pub part_of : Handed → TicketPart
part_of ticket = ticket.part

-- The payload is the LoginDone of these tickets: the one for AUTH is told under the entity's secret, the others and the secret of
-- the connection under the session key of the one for AUTH.
pub record IsHandedOut (secret : List ℕ) (auth : Handed) (others : List Handed) (connection payload : List ℕ) : Type 0 where
  pub sealed : List ℕ
  pub auth_told : IsToldUnder secret auth
  pub others_told : AllByRecursion (IsToldUnder auth.info.session) others
  pub connection_told : OpensTo connection_secret_layout.form auth.info.session sealed (record { secret = connection })
  pub spells : Spells login_done_layout.form payload (record { tickets = auth.part ∷ map part_of others; connection_secret = sealed })

-- the login that its client is due
abbrev pub login_of : Handed → List Handed → List ℕ → LoggedIn
login_of auth others connection = record { auth = held_of auth; tickets = map held_of others; secret = connection }

-- what the key server hands out is read as exactly these tickets and this secret
abbrev pub TakesHandedOut : List ℕ → List ℕ → Result LoggedIn LoginRefusal → Type 0
TakesHandedOut secret payload result =
    (auth : Handed) (others : List Handed) (connection : List ℕ) → IsHandedOut secret auth others connection payload → Yields result (login_of auth others connection)
