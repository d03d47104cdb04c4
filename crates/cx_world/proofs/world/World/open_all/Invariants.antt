use Rattle.std.proofs.Common.{length, take}
use Rattle.cx_desk.specs.Held.{handlers_of}
use Rattle.cx_world_start.specs.cx_run.specs.Deliveries.{open_all}
use Rattle.cx_world_start.specs.cx_run.specs.Worlds.{opened_wires}
use Rattle.cx_world.specs.Carried.{Makes}
use Rattle.cx_world.proofs.world.World.open_all.Given as goal

abbrev pub invariant-loop-peer : goal.invariant-loop-peer
invariant-loop-peer g l = Makes (handlers_of l.fn.desk) l.initial.self l.self (λ w. open_all w (opened_wires l.who (length w.wires) (take l.peer-index l.peers)))
