use Rattle.std.proofs.Common.{◌≡◌, ◌++◌, drop}
use Rattle.std.specs.List.{flat_map}
use Rattle.cx_command_line.specs.Words.{peer}
use Rattle.cx_drive_commands.specs.nodes.Clients.{at_peer}
use Rattle.cx_drive_commands.proofs.clients.daemons_seen.Given as goal

abbrev pub invariant-loop-word : goal.invariant-loop-word
invariant-loop-word l = l.daemons ++ flat_map (λ w. at_peer (peer w.now)) (drop l.word-index l.words) ≡ flat_map (λ w. at_peer (peer w.now)) l.words
