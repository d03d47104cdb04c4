use Rattle.cx_secure.proofs.FixedBytes.{four_fixed}
use Rattle.cx_secure.proofs.starting.connector_way.Goals as goal

pub invariant_of-result : goal.invariant_of-result
invariant_of-result c = record { four = four_fixed _ _ _ _ (c.fits-s 28) (c.fits-s 29) (c.fits-s 30) (c.fits-s 31) }
