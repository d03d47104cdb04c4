-- The challenge is short.
use Rattle.cx_mon.proofs.acceptor.Controls.{challenge_short}
use Rattle.cx_mon.proofs.logins.send_challenge.Goals as goal

pub send_plain-requires-clause-bound : goal.send_plain-requires-clause-bound
send_plain-requires-clause-bound c = rw c.in_ok-payload.ensures.spells.1 (challenge_short c.args.challenge)
