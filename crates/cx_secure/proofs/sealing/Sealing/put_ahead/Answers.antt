use Rattle.std.proofs.Common.{arith}
use Rattle.cx_secure.proofs.sealing.Sealing.put_ahead.Goals as goal

pub invariant_of-result : goal.invariant_of-result
invariant_of-result c = record { rises = omega (arith, c.parts_of-parts.ensures.some) }
