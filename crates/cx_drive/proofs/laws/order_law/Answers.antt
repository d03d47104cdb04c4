use Rattle.std.specs.Prelude.{false}
use Rattle.cx_drive.proofs.Ordered.{saves_first}
use Rattle.cx_drive.proofs.laws.order_law.Goals as goal

pub returns : goal.returns
returns g c = λ peers node trace. saves_first g.M.Machine.rule g.M.Machine.lost g.M.Machine.regards peers node trace false
