use Rattle.cx_gcm.specs.Blocks.{spelled}
use Rattle.cx_gcm.proofs.blocks.spelled.Goals as goal

pub returns : goal.returns
unfolding spelled
returns c = c.to_be_bytes.ensures
