use Rattle.cx_login.proofs.Handing.{handed_by}
use Rattle.cx_login.proofs.client.opened_login.Goals as goal

pub returns-clause-handed : goal.returns-clause-handed
returns-clause-handed c = handed_by c.args.secret.now c.args.payload.now c.args.seals.now c.taken.new.seals c.taken.result c.taken.ensures.block c.taken.ensures.login
