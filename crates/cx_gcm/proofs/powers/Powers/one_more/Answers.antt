use Rattle.std.proofs.Common.{ap, ◌∙◌}
use Rattle.cx_gcm.specs.Blocks.{product}
use Rattle.cx_gcm.specs.Base.{base_of}
use Rattle.cx_gcm.proofs.Steps.{number-xor, of_vector}
use Rattle.cx_gcm.proofs.powers.Powers.one_more.Goals as goal

pub returns : goal.returns
returns c =
    let sum = c.args.sum in
    let block = c.args.block in
    c.product.ensures
    ∙ ap (λ v. product v (base_of c.args.self.now)) (number-xor sum block (of_vector sum c.fits-sum) (of_vector block c.fits-block))
