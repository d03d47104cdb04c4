use Rattle.std.proofs.lemmas.List.Folds.{flat_map-map}
use Rattle.cx_command_line.specs.Words.{peer}
use Rattle.cx_drive_commands.specs.nodes.Clients.{at_peer}
use Rattle.cx_drive_commands.proofs.clients.daemons_of.Goals as goal

pub returns : goal.returns
returns c = search (flat_map-map, c.daemons_seen.ensures)
