use Rattle.std.proofs.Common.{ap, ◌∙◌}
use Rattle.cx_aes.specs.Field.{inverse_sbox}
use Rattle.cx_aes.proofs.Bytes.{sbox-table, inverse_sbox-sbox}
use Rattle.cx_aes.proofs.field.sbox.Goals as goal

pub returns-clause-value : goal.returns-clause-value
returns-clause-value c = sbox-table c.args.x c.ranges.x.fits

pub returns-clause-undone : goal.returns-clause-undone
returns-clause-undone c = ap inverse_sbox (sbox-table c.args.x c.ranges.x.fits) ∙ inverse_sbox-sbox c.args.x c.ranges.x.fits
