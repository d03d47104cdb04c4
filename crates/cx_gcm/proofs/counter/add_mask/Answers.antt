use Rattle.cx_gcm.proofs.Passing.{masked}
use Rattle.cx_gcm.proofs.counter.add_mask.Goals as goal

pub returns : goal.returns
returns c = masked c.args.bytes.now c.args.mask.now c.args.at c.requires c.told-mask
