use Rattle.std.proofs.Common.{◌≡◌, ◌-◌}
use Rattle.cx_enc.specs.Forms.{chain_at}
use Rattle.cx_enc.specs.Reading.{spot}
use Rattle.cx_enc.proofs.Loops.{with_front}
use Rattle.cx_enc.proofs.chains.take_chain.Given as goal

abbrev pub invariant-loop : goal.invariant-loop
invariant-loop g l =
    with_front l.items (chain_at (λ b. (g.T.Chained.layout b).form.at) g.T.Chained.next (l.count - l.counter) l.before (spot l.at))
    ≡ chain_at (λ b. (g.T.Chained.layout b).form.at) g.T.Chained.next l.count l.fn.first (spot l.initial.at)
