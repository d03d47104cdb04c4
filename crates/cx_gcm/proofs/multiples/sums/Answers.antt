use Rattle.std.proofs.Common.{arith}
use Rattle.std.proofs.lemmas.List.FromFn.{fill_by_all}
use Rattle.cx_gcm.specs.Multiples.{sum_of}
use Rattle.cx_gcm.proofs.multiples.sums.Goals as goal

pub returns : goal.returns
returns c =
    let all = c.loop-bits.invariant in
    fill_by_all (λ n. sum_of n c.args.eight c.args.four c.args.two c.args.one) c.loop-bits.sums 16 0 all.len (λ i lt. all.places i (omega arith))
