use Rattle.cx_aes.specs.KeyOf.{key_of}
use Rattle.cx_cbc.proofs.Chaining.{four_back}
use Rattle.cx_cbc.proofs.chain.four_unchained.Goals as goal

pub returns-clause-sums : goal.returns-clause-sums
returns-clause-sums c =
    let back = four_back (key_of c.args.key.now) c.args.before.now c.args.sealed.now c.decrypt_four-inner.result c.told-sealed c.decrypt_four-inner.ensures in
    cc (back, c.add.ensures, c.add-2.ensures, c.add-3.ensures, c.add-4.ensures)
