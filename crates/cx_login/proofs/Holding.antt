-- The tickets of a LoginDone: there is one at least, and the blob of each can be shown.
use Rattle.std.proofs.Common.{◌≡◌, ◌≤◌, List, [], ◌∷◌, All, length, Option, Some, None, subst, arith}
use Rattle.std.specs.Prelude.{◌&&◌, nat_le}
use Rattle.std.specs.List.{AllByRecursion}
use Rattle.std.proofs.lemmas.List.Elements.{All-from_recursion}
use Rattle.cx_base.specs.declared.kinds.EntityType.{EntityType}
use Rattle.cx_enc.specs.Forms.{ChainFits, passed}
use Rattle.cx_enc.specs.Values.{ticket_form}
use Rattle.cx_wire.specs.Logins.{login_done_layout}
use Rattle.cx_wire.specs.Services.{ticket_part_layout, behind}
use Rattle.cx_wire.specs.declared.logins.LoginDone.{LoginDone}
use Rattle.cx_wire.specs.declared.tickets.TicketPart.{TicketPart}
use Rattle.cx_login.specs.Held.{IsShort}
use Rattle.cx_login.proofs.Tried.{none_is_none}

short_parts : (last : Option EntityType) (parts : List TicketPart) → ChainFits (λ b. (ticket_part_layout b).form.Fits) behind last parts → AllByRecursion IsShort parts
unfolding ticket_form
short_parts last [] fits = tt
short_parts last (part ∷ parts) fits = (fits.0.1.1.1.0.1, short_parts (Some part.service) parts fits.1)

-- the blob of each can be shown
pub short_tickets : (done : LoginDone) → login_done_layout.form.Fits done → AllByRecursion IsShort done.tickets
short_tickets done fits = short_parts None done.tickets fits.1.1.1.0.1.1

some_counted : (tickets : List TicketPart) → passed (λ n. nat_le 1 n && nat_le n 4294967295) (length tickets) ≡ Some (length tickets) → 1 ≤ length tickets
some_counted [] counted = absurd (none_is_none 0 counted)
some_counted (ticket ∷ tickets) counted = omega arith

-- there is one
pub some_tickets : (done : LoginDone) → login_done_layout.form.Fits done → 1 ≤ length done.tickets
some_tickets done fits = some_counted done.tickets fits.1.1.1.0.0.1

-- and so can those behind the first
pub short_rest : (done : LoginDone) (auth : TicketPart) (parts : List TicketPart) → login_done_layout.form.Fits done → done.tickets ≡ auth ∷ parts → All IsShort parts
short_rest done auth parts fits is =
    let all : AllByRecursion IsShort (auth ∷ parts) = subst (AllByRecursion IsShort) is (short_tickets done fits) in
    All-from_recursion IsShort parts all.1
