use Rattle.cx_drive_commands.proofs.nodes.Stopping.{run_keeps}
use Rattle.cx_drive_commands.proofs.nodes_laws.kept_law.Goals as goal

pub returns : goal.returns
returns g c = λ command a b kept server orders ending entries is has ran.
    run_keeps g.L.Links.follows command a b kept is server ran.run.trace ran.run.ending has ran.run.acts
