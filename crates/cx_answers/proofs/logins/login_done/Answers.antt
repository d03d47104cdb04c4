use Rattle.cx_answers.proofs.Tickets.{login_tickets}
use Rattle.cx_answers.proofs.logins.login_done.Goals as goal

pub put_login_done-put-requires-clause-tickets : goal.put_login_done-put-requires-clause-tickets
put_login_done-put-requires-clause-tickets c = rw c.in_ok-x.ensures (login_tickets c.in_ok-read_login_done.field-0 c.in_ok-read_login_done.ensures.found.0)
