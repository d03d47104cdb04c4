use Rattle.std.proofs.Common.{refl}
use Rattle.cx_run.proofs.Led.{led-after_lines}
use Rattle.cx_run.proofs.laws.run_laws.Goals as goal
use Rattle.cx_run.specs.Opening.{nodes_of, opening_world}
use Rattle.cx_run.specs.Runs.{setup_of}

pub returns : goal.returns
returns c = λ handlers script. (led-after_lines (nodes_of (setup_of handlers script)) (opening_world (setup_of handlers script)) script (record { to = refl })).to
