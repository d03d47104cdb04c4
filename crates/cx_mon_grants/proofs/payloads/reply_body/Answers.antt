-- The body is short.
use Rattle.cx_mon_grants.proofs.Short.{length-telling}
use Rattle.cx_mon_grants.proofs.payloads.reply_body.Goals as goal

pub returns-clause-short : goal.returns-clause-short
returns-clause-short c = rw (c.in_ok-put_reply.ensures.ok, c.in_ok-body.ensures) (length-telling c.args.reply.now c.requires)
