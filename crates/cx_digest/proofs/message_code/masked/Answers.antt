use Rattle.std.proofs.Common.{arith}
use Rattle.cx_digest.proofs.Masks.{masked_by_place}
use Rattle.cx_digest.proofs.message_code.masked.Goals as goal

pub returns : goal.returns
returns c = masked_by_place c.args.pad c.args.key.now c.loop-place.block c.requires c.loop-place.invariant.0 (λ k lt. c.loop-place.invariant.1 k (omega arith))
