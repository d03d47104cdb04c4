use Rattle.std.proofs.Common.{◌≡◌, ◌++◌, drop}
use Rattle.cx_schedule.specs.NodeLines.{daemons_in}
use Rattle.cx_schedule.proofs.node_names.add_daemons.Given as goal

abbrev pub invariant-loop-peer : goal.invariant-loop-peer
invariant-loop-peer l = l.names ++ daemons_in (drop l.peer-index l.peers) ≡ l.initial.names ++ daemons_in l.peers
