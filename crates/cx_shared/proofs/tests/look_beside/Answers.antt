use Rattle.cx_shared.proofs.Renews.{looks}
use Rattle.cx_shared.proofs.tests.look_beside.Goals as goal

pub enter_as-requires : goal.enter_as-requires
enter_as-requires g c = looks _ _
