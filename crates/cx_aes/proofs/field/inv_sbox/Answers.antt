use Rattle.std.proofs.Common.{ap, ◌∙◌}
use Rattle.cx_aes.specs.Field.{sbox}
use Rattle.cx_aes.proofs.Bytes.{inverse_sbox-table, sbox-inverse_sbox}
use Rattle.cx_aes.proofs.field.inv_sbox.Goals as goal

pub returns-clause-value : goal.returns-clause-value
returns-clause-value c = inverse_sbox-table c.args.x c.ranges.x.fits

pub returns-clause-undone : goal.returns-clause-undone
returns-clause-undone c = ap sbox (inverse_sbox-table c.args.x c.ranges.x.fits) ∙ sbox-inverse_sbox c.args.x c.ranges.x.fits
