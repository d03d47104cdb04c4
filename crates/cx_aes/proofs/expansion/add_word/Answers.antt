use Rattle.std.proofs.Common.{ap, ◌∙◌}
use Rattle.cx_aes.specs.Cipher.{add}
use Rattle.cx_aes.proofs.Places.{cells, cells-is}
use Rattle.cx_aes.proofs.expansion.add_word.Goals as goal

pub returns : goal.returns
unfolding add
returns c =
    ap (λ xs. add xs (cells 4 c.args.b.now)) (cells-is 4 c.args.a.now c.told-a)
    ∙ ap (λ ys. add c.args.a.now ys) (cells-is 4 c.args.b.now c.told-b)
