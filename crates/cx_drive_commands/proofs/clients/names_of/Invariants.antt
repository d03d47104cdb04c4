use Rattle.std.proofs.Common.{◌≡◌, map, take}
use Rattle.cx_drive_commands.proofs.clients.names_of.Given as goal

abbrev pub invariant-loop-daemon : goal.invariant-loop-daemon
invariant-loop-daemon l = l.names ≡ map (λ d. d.name) (take l.daemon-index l.daemons)
