use Rattle.cx_aes.proofs.Bytes.{times-11}
use Rattle.cx_aes.proofs.field.eleven_times.Goals as goal

pub returns : goal.returns
returns c = cc (times-11 c.args.a c.ranges.a.fits)
