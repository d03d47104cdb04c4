-- Each step of a daemon keeps what is known.
use Rattle.cx_laws_run.proofs.sent.DaemonAsks.{daemon-stays}
use Rattle.cx_laws_run.proofs.sent.Steps.{DaemonStep}
use Rattle.cx_laws_run.specs.cx_laws_keys.proofs.keys.Uses.{WholeRun}
use Rattle.cx_steps.specs.declared.seals.Logged.{Logged}
use Rattle.std.proofs.Common.{List}

pub daemon-step : (run : WholeRun) (whole : List Logged) → DaemonStep run whole
daemon-step run whole = λ us vs told log line J name handlers d input reading draw r.
    daemon-stays run whole us vs told log J line r.inv r.grows r.known_of r.spelled handlers d input reading draw r.drawn name r.named r.links r.ok r.granted r.inv_behind r.ok_behind
