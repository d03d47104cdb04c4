use Rattle.cx_aes.proofs.Bytes.{times-9}
use Rattle.cx_aes.proofs.field.nine_times.Goals as goal

pub returns : goal.returns
returns c = cc (times-9 c.args.a c.ranges.a.fits)
