use Rattle.std.proofs.Common.{arith, ap, ◌∙◌}
use Rattle.std.specs.List.{list_all}
use Rattle.cx_keyring.specs.Keys.{is_ink}
use Rattle.cx_keyring.proofs.KeyTexts.{encoded_inked}
use Rattle.cx_keyring.proofs.printing.encoded.Goals as goal

pub returns-clause-inked : goal.returns-clause-inked
returns-clause-inked c =
    ap (list_all is_ink) c.in_ok-text.ensures.text ∙ encoded_inked c.args.bytes.now (λ i. omega (arith, c.type_inv.bytes i))
