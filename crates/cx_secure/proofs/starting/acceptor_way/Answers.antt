use Rattle.cx_secure.proofs.FixedBytes.{four_fixed}
use Rattle.cx_secure.proofs.starting.acceptor_way.Goals as goal

pub invariant_of-result : goal.invariant_of-result
invariant_of-result c = record { four = four_fixed _ _ _ _ (c.fits-s 16) (c.fits-s 17) (c.fits-s 18) (c.fits-s 19) }
