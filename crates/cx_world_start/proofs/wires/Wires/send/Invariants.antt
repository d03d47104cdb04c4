use Rattle.std.proofs.Common.{◌≡◌}
use Rattle.cx_run.specs.Worlds.{sends_all}
use Rattle.cx_world_start.proofs.wires.Wires.send.Given as goal

abbrev pub invariant-loop-piece : goal.invariant-loop-piece
invariant-loop-piece l = l.self ≡ sends_all l.who l.initial.self l.yielded
