use Rattle.cx_drive_commands.proofs.nodes.Stopping.{begins_with}
use Rattle.cx_drive_commands.proofs.nodes_laws.second_monitor_law.Goals as goal

pub returns : goal.returns
returns g c = λ first second bytes a b kept left entries stopped is alike server has.
    begins_with g.L.Links.follows first second bytes a b kept left entries stopped is alike server has
