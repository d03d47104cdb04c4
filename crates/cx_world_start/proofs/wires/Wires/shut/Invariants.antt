use Rattle.std.proofs.Common.{◌≡◌, take}
use Rattle.cx_run.specs.Worlds.{shuts_all}
use Rattle.cx_world_start.proofs.wires.Wires.shut.Given as goal

abbrev pub invariant-loop-number : goal.invariant-loop-number
invariant-loop-number l = l.self ≡ shuts_all l.who l.initial.self (take l.number-index l.numbers)
