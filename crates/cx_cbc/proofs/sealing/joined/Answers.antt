use Rattle.std.proofs.Common.{◌++◌, arith, length-append}
use Rattle.std.proofs.lemmas.List.{ext_get_or}
use Rattle.cx_cbc.proofs.sealing.joined.Goals as goal

pub returns : goal.returns
returns c =
    ext_get_or 0 c.loop-place.both (c.args.first.now ++ c.args.second.now) (omega (arith, length-append c.args.first.now c.args.second.now))
    (λ k lt. c.loop-place.invariant.places k (omega arith))
