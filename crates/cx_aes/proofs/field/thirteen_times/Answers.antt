use Rattle.cx_aes.proofs.Bytes.{times-13}
use Rattle.cx_aes.proofs.field.thirteen_times.Goals as goal

pub returns : goal.returns
returns c = cc (times-13 c.args.a c.ranges.a.fits)
