use Rattle.cx_aes.proofs.Ends.{into-sum}
use Rattle.cx_aes.proofs.Keys.{IsBlock-array}
use Rattle.cx_aes.proofs.cipher_rounds.first_sum.Goals as goal

pub returns-clause-block : goal.returns-clause-block
returns-clause-block c = IsBlock-array c.args.block.now c.told-block c.fits-block

pub returns-clause-sum : goal.returns-clause-sum
returns-clause-sum c = λ k hk key.
    into-sum c.args.block.now k c.into.result c.args.key (returns-clause-block c) hk c.into.ensures key
