use Rattle.cx_secure.proofs.HeadLaws.{nonce_is}
use Rattle.cx_secure.proofs.parts.nonce_at.Goals as goal

pub returns-clause-nonce : goal.returns-clause-nonce
returns-clause-nonce c = nonce_is c.args.fixed.now c.args.counter c.told-fixed c.fits-fixed
