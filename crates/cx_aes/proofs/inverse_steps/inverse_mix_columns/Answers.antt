use Rattle.std.proofs.Common.{arith}
use Rattle.cx_aes.proofs.Rows.{unmixed_by_places}
use Rattle.cx_aes.proofs.inverse_steps.inverse_mix_columns.Goals as goal

pub returns : goal.returns
returns c =
    let all = c.loop-i.invariant in
    unmixed_by_places c.args.s.now c.turned-second.result c.turned-third.result c.turned-fourth.result c.loop-i.columns
    c.turned-second.ensures c.turned-third.ensures c.turned-fourth.ensures all.len (λ k lt. all.places k (omega arith))
