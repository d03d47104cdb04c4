-- All parts of the LoginDone are short.
use Rattle.cx_mon_grants.proofs.Short.{short_parts}
use Rattle.cx_mon_grants.proofs.logins.handed_out.Goals as goal

pub done_payload-requires-clause-short : goal.done_payload-requires-clause-short
done_payload-requires-clause-short c = rw c.in_ok-tickets.ensures.parts (short_parts c.args.tickets c.requires.tickets.whole)
