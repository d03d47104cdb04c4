use Rattle.std.proofs.Common.{◌≡◌, ◌++◌, drop}
use Rattle.cx_enc.specs.Forms.{chain_text, ChainFits}
use Rattle.cx_enc.proofs.chains.put_chain.Given as goal

abbrev pub invariant-loop-item : goal.invariant-loop-item
invariant-loop-item g l = record {
  spelled : l.spelled ++ chain_text (λ b. (g.T.Chained.layout b).form.text) g.T.Chained.next l.before (drop l.item-index l.items)
      ≡ chain_text (λ b. (g.T.Chained.layout b).form.text) g.T.Chained.next l.fn.first l.items;
  bound : ChainFits g.T.Chained.Bound g.T.Chained.next l.before (drop l.item-index l.items);
  fits : ChainFits (λ b. (g.T.Chained.layout b).form.Fits) g.T.Chained.next l.before (drop l.item-index l.items)
      → ChainFits (λ b. (g.T.Chained.layout b).form.Fits) g.T.Chained.next l.fn.first l.items;
}
