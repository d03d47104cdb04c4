use Rattle.std.proofs.Common.{None}
use Rattle.cx_desk.specs.Held.{handlers_of}
use Rattle.cx_world_start.specs.cx_run.specs.Worlds.{World as RunWorld}
use Rattle.cx_world.specs.Carried.{Began, Carries}
use Rattle.cx_world.proofs.Rounds.{IsSettling}
use Rattle.cx_world.proofs.world.World.settle.Given as goal

abbrev pub invariant-loop : goal.invariant-loop
invariant-loop g l = (b : Began (handlers_of l.fn.desk)) (w : RunWorld) → Carries b None l.fn.self w → IsSettling b l.counter w l.self
