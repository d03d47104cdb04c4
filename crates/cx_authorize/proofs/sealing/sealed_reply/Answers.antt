use Rattle.cx_authorize.proofs.Short.{short_sealed}
use Rattle.cx_authorize.proofs.sealing.sealed_reply.Goals as goal

pub returns-clause-short : goal.returns-clause-short
returns-clause-short c = short_sealed _ _ _ _ c.told-session c.fits-session c.in_ok-sealed.ensures
