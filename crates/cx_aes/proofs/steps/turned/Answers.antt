use Rattle.std.proofs.Common.{refl}
use Rattle.cx_aes.specs.Columns.{turned_columns}
use Rattle.cx_aes.proofs.steps.turned.Goals as goal

pub returns : goal.returns
unfolding turned_columns
returns c = refl
