-- The blob of each ticket of a reply can be shown, and a request is short.
use Rattle.std.proofs.Common.{ℕ, ◌<◌, ◌^◌, List, [], ◌∷◌, All, length, Option, Some, arith}
use Rattle.std.specs.List.{AllByRecursion}
use Rattle.std.proofs.lemmas.List.Elements.{All-from_recursion}
use Rattle.cx_base.specs.declared.kinds.EntityType.{EntityType}
use Rattle.cx_base.specs.declared.kinds.EntityType.TheVariants.{Auth}
use Rattle.cx_sealed.specs.cx_enc.specs.Forms.{ChainFits, little}
use Rattle.cx_sealed.specs.cx_enc.specs.Values.{ticket_form}
use Rattle.cx_login.specs.Held.{IsShort}
use Rattle.cx_wire.specs.Bodies.{reply_layout, request_layout}
use Rattle.cx_wire.specs.Services.{behind, ticket_part_layout}
use Rattle.cx_wire.specs.declared.bodies.Reply.TheVariants as given
use Rattle.cx_wire.specs.declared.bodies.Request.{Request}
use Rattle.cx_wire.specs.declared.bodies.Request.TheVariants as asked
use Rattle.cx_wire.specs.declared.tickets.TicketPart.{TicketPart}

short_parts : (last : Option EntityType) (parts : List TicketPart) → ChainFits (λ b. (ticket_part_layout b).form.Fits) behind last parts → AllByRecursion IsShort parts
unfolding ticket_form
short_parts last [] fits = tt
short_parts last (part ∷ parts) fits = (fits.0.1.1.1.0.1, short_parts (Some part.service) parts fits.1)

pub short_tickets : (parts : List TicketPart) → reply_layout.form.Fits (given.Tickets parts) → All IsShort parts
short_tickets parts fits = All-from_recursion IsShort parts (short_parts (Some Auth) parts fits.0.1.1.1)

pub length-request : (request : Request) → length (request_layout.form.text request) < 2 ^ 32
unfolding little
length-request (asked.Tickets keys) = omega arith
length-request asked.Rotating = omega arith
