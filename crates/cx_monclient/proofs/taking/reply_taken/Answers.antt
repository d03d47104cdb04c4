-- The tickets of a reply that was read can be shown.
use Rattle.cx_monclient.proofs.requests.Shown.{short_tickets}
use Rattle.cx_monclient.proofs.taking.reply_taken.Goals as goal

pub tickets_taken-requires : goal.tickets_taken-requires
tickets_taken-requires c =
    let fits = rw c.in-Tickets-reply.is at c.requires in
    rw c.all.ensures (short_tickets c.in-Tickets-reply.parts fits)
