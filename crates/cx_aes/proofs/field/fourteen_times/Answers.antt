use Rattle.cx_aes.proofs.Bytes.{times-14}
use Rattle.cx_aes.proofs.field.fourteen_times.Goals as goal

pub returns : goal.returns
returns c = cc (times-14 c.args.a c.ranges.a.fits)
