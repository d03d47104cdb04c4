use Rattle.cx_aes.proofs.Bytes.{doubled-is}
use Rattle.cx_aes.proofs.field.doubled.Goals as goal

pub returns : goal.returns
returns c = doubled-is c.args.a c.ranges.a.fits
