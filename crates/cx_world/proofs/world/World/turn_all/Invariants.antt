use Rattle.std.proofs.Common.{ℕ, Option}
use Rattle.cx_desk.specs.Held.{handlers_of}
use Rattle.cx_world_start.specs.cx_run.specs.Worlds.{World as RunWorld}
use Rattle.cx_world.specs.Carried.{Began, Carries}
use Rattle.cx_world.proofs.Turns.{IsTurning}
use Rattle.cx_world.proofs.world.World.turn_all.Given as goal

abbrev pub invariant-loop : goal.invariant-loop
invariant-loop g l = (b : Began (handlers_of l.fn.desk)) (seen : Option ℕ) (w : RunWorld) → Carries b seen l.fn.self w → IsTurning b seen l.who l.number w l.self
