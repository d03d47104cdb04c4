use Rattle.cx_gcm.specs.Blocks.{number}
use Rattle.cx_gcm.proofs.blocks.number.Goals as goal

pub returns : goal.returns
unfolding number
returns c = c.from_be_bytes.ensures
