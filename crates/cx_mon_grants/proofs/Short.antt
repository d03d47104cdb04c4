-- A LoginDone that a login hands out is short, and so is the body of a reply.
use Rattle.std.proofs.Common.{◌≡◌, ℕ, ◌+◌, ◌*◌, ◌^◌, ◌<◌, ◌≤◌, List, [], ◌∷◌, All, length, map, Option, None, Some, length-append, arith}
use Rattle.std.proofs.lemmas.List.Elements.{All-cons, All-head, All-nil, All-tail}
use Rattle.cx_base.specs.declared.kinds.EntityType.{EntityType}
use Rattle.cx_base.specs.declared.kinds.EntityType.TheVariants.{Auth}
use Rattle.cx_enc.specs.Forms.{blob_form, chain_text, little}
use Rattle.cx_enc.specs.Values.{kind_form, ticket_form}
use Rattle.cx_enc.specs.declared.tickets.TicketBlob.{TicketBlob}
use Rattle.cx_keyserver.specs.declared.tickets.Ticket.{Ticket}
use Rattle.cx_rules.specs.Tickets.{ticket_part}
use Rattle.cx_wire.proofs.FewTickets.{few}
use Rattle.cx_wire.specs.Bodies.{reply_layout}
use Rattle.cx_wire.specs.Logins.{login_done_layout}
use Rattle.cx_wire.specs.Services.{AreTickets, behind, ticket_part_layout}
use Rattle.cx_wire.specs.declared.bodies.Reply.{Reply}
use Rattle.cx_wire.specs.declared.bodies.Reply.TheVariants.{Tickets, Rotating}
use Rattle.cx_wire.specs.declared.logins.LoginDone.{LoginDone}
use Rattle.cx_wire.specs.declared.tickets.TicketPart.{TicketPart}
use Rattle.cx_mon_grants.specs.Handing.{IsShort, IsWhole}
use Rattle.cx_mon_grants.specs.Telling.{IsTellable}

length-ticket : (ticket : TicketBlob) → length (ticket_form.text ticket) ≡ 13 + length ticket.blob
unfolding little ticket_form
length-ticket ticket = omega arith

length-part : (last : Option EntityType) (part : TicketPart) → IsShort part → length ((ticket_part_layout last).form.text part) ≤ 2097224
unfolding little kind_form
length-part last part short =
    let info = short.info in let blob = short.blob in
    omega (arith, length-append part.info (ticket_form.text part.ticket), length-ticket part.ticket)

length-parts : (last : Option EntityType) (parts : List TicketPart) → All IsShort parts
    → length (chain_text (λ b. (ticket_part_layout b).form.text) behind last parts) ≤ 2097224 * length parts
unfolding chain_text
length-parts last [] short = omega arith
length-parts last (part ∷ parts) short =
    let first : List ℕ = (ticket_part_layout last).form.text part in
    let rest : List ℕ = chain_text (λ b. (ticket_part_layout b).form.text) behind (behind last part) parts in
    omega (arith, length-append first rest, length-part last part (All-head IsShort part parts short), length-parts (behind last part) parts (All-tail IsShort part parts short))

pub length-done : (done : LoginDone) → AreTickets None done.tickets → All IsShort done.tickets → length done.connection_secret ≤ 1048601
    → length (login_done_layout.form.text done) < 2 ^ 32
unfolding little
length-done done are short secret =
    let parts : List ℕ = chain_text (λ b. (ticket_part_layout b).form.text) behind None done.tickets in
    omega (arith, length-append parts (blob_form.text done.connection_secret), few None done.tickets are, length-parts None done.tickets short)

-- tickets that are whole have short parts
pub short_parts : (tickets : List Ticket) → All IsWhole tickets → All IsShort (map ticket_part tickets)
short_parts [] whole = All-nil IsShort
short_parts (ticket ∷ tickets) whole =
    let first : IsWhole ticket = All-head IsWhole ticket tickets whole in
    let short : IsShort (ticket_part ticket) = record { info = first.info; blob = first.blob } in
    All-cons IsShort (ticket_part ticket) (map ticket_part tickets) short (short_parts tickets (All-tail IsWhole ticket tickets whole))

-- ---- a reply

pub length-telling : (reply : Reply) → IsTellable reply → length (reply_layout.form.text reply) < 2 ^ 32
unfolding little
length-telling (Tickets parts) (are, short) =
    let chain : List ℕ = chain_text (λ b. (ticket_part_layout b).form.text) behind (Some Auth) parts in
    omega (arith, few (Some Auth) parts are, length-parts (Some Auth) parts short)
length-telling (Rotating sealed) short = omega arith
