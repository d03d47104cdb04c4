use Rattle.std.proofs.Common.{arith}
use Rattle.cx_gcm.proofs.Sums.{columns_of_sums}
use Rattle.cx_gcm.proofs.multiples.columns.Goals as goal

pub returns : goal.returns
returns c =
    let all = c.loop-place.invariant in
    columns_of_sums c.args.eight c.args.four c.args.two c.args.one c.spelled-eight.result c.spelled-four.result c.spelled-two.result c.spelled-one.result c.loop-place.columns
    c.spelled-eight.ensures c.spelled-four.ensures c.spelled-two.ensures c.spelled-one.ensures all.len (λ i lt. all.places i (omega arith))
