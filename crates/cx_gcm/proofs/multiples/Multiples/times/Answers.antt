use Rattle.std.proofs.Common.{sym, ap, ◌∙◌}
use Rattle.cx_gcm.specs.Blocks.{spelled}
use Rattle.cx_gcm.proofs.Digits.{spelled-number}
use Rattle.cx_gcm.proofs.Steps.{sixteen_byte}
use Rattle.cx_gcm.proofs.multiples.Multiples.times.Goals as goal

pub returns : goal.returns
returns c =
    let product = c.product-product.result in
    let h = c.are_sixteen.ensures in
    sym (spelled-number product h.len (sixteen_byte product h)) ∙ ap spelled c.product-product.ensures
