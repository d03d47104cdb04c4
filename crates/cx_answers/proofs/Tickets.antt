-- Tickets that were read can be written.
use Rattle.std.proofs.Common.{◌≡◌, Bool, true, false, List, [], ◌∷◌, refl, cond}
use Rattle.std.specs.Prelude.{Option, Some, None, IsTrue}
use Rattle.cx_base.specs.declared.kinds.EntityType.{EntityType}
use Rattle.cx_base.specs.declared.kinds.EntityType.TheVariants.{Auth}
use Rattle.cx_enc.specs.Forms.{passed, ChainFits}
use Rattle.cx_enc.specs.Values.{ticket_form}
use Rattle.cx_wire.specs.Services.{follows, ticket_part_layout, behind, IsNextTicket, AreTickets}
use Rattle.cx_wire.specs.Logins.{login_done_layout}
use Rattle.cx_wire.specs.Bodies.{reply_layout, IsShortReply}
use Rattle.cx_wire.specs.declared.tickets.TicketPart.{TicketPart}
use Rattle.cx_wire.specs.declared.logins.LoginDone.{LoginDone}
use Rattle.cx_wire.specs.declared.bodies.Reply.{Reply}
use Rattle.cx_wire.specs.declared.bodies.Reply.TheVariants as given

good_passed : {A : Type 0} (good : A → Bool) (a x : A) → passed good a ≡ Some x → IsTrue (good a)
good_passed {A} good a x e = by_test (good a) a x e
  where
    by_test : {A : Type 0} (t : Bool) (a x : A) → cond t (Some a) None ≡ Some x → IsTrue t
    by_test true a x made = refl
    by_test false a x made = absurd cc

next_ticket : (last : Option EntityType) (ticket : TicketPart) → (ticket_part_layout last).form.Fits ticket → IsNextTicket last ticket
unfolding ticket_form
next_ticket last ticket fits = record {
  follows = good_passed (follows last) ticket.service ticket.service fits.0.1;
  info = fits.1.1.0;
  blob = fits.1.1.1.0.1;
}

pub are_tickets : (last : Option EntityType) (tickets : List TicketPart) → ChainFits (λ b. (ticket_part_layout b).form.Fits) behind last tickets → AreTickets last tickets
are_tickets last [] fits = tt
are_tickets last (ticket ∷ tickets) fits = (next_ticket last ticket fits.0, are_tickets (Some ticket.service) tickets fits.1)

pub login_tickets : (done : LoginDone) → login_done_layout.form.Fits done → AreTickets None done.tickets
login_tickets done fits = are_tickets None done.tickets fits.1.1.1.0.1.1

pub short_reply : (reply : Reply) → reply_layout.form.Fits reply → IsShortReply reply
short_reply (given.Tickets tickets) fits = are_tickets (Some Auth) tickets fits.0.1.1.1
short_reply (given.Rotating sealed) fits = fits.0
