-- The parts of the tickets are short, and stand in order.
use Rattle.cx_mon_grants.proofs.Short.{short_parts}
use Rattle.cx_mon_grants.proofs.replies.tells_tickets.Goals as goal

pub reply_body-requires : goal.reply_body-requires
reply_body-requires c = rw c.in_ok-parts.ensures.parts (c.requires.ordered, short_parts c.args.tickets c.requires.whole)
