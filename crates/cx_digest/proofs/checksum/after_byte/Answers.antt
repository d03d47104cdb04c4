use Rattle.std.proofs.Common.{◌/◌, bit_xor, ap, ◌∙◌}
use Rattle.cx_digest.proofs.Register.{by_table}
use Rattle.cx_digest.proofs.checksum.after_byte.Goals as goal

pub returns : goal.returns
returns c = ap (bit_xor (c.args.state / 256)) c.moved.ensures ∙ by_table c.args.state c.args.byte c.ranges.byte.fits
