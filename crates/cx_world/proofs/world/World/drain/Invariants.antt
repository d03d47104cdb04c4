use Rattle.cx_desk.specs.Held.{handlers_of}
use Rattle.cx_world.specs.Carried.{Makes}
use Rattle.cx_world.specs.Settling.{delivers_many}
use Rattle.cx_world.proofs.world.World.drain.Given as goal

abbrev pub invariant-loop : goal.invariant-loop
invariant-loop g l = Makes (handlers_of l.fn.desk) l.fn.self l.self (delivers_many l.counter l.number l.side)
