use Rattle.cx_aes.proofs.Ends.{back-sum}
use Rattle.cx_aes.proofs.Keys.{IsBlock-array}
use Rattle.cx_aes.proofs.inverse_rounds.last_sum.Goals as goal

pub returns-clause-block : goal.returns-clause-block
returns-clause-block c = IsBlock-array c.args.block.now c.told-block c.fits-block

pub returns-clause-sum : goal.returns-clause-sum
returns-clause-sum c = λ k hk key.
    back-sum c.args.block.now k c.linear.result c.args.key (returns-clause-block c) hk c.linear.ensures key
