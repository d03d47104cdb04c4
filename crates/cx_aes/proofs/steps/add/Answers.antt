use Rattle.std.proofs.Common.{arith}
use Rattle.cx_aes.proofs.Places.{add_by_places}
use Rattle.cx_aes.proofs.steps.add.Goals as goal

pub returns : goal.returns
returns c =
    add_by_places c.args.first.now c.args.second.now c.loop-i.sum c.told-first c.told-second c.loop-i.invariant.len
    (λ k lt. c.loop-i.invariant.places k (omega arith))
