use Rattle.std.proofs.Common.{◌≤◌}
use Rattle.cx_desk.specs.Held.{handlers_of}
use Rattle.cx_world.specs.Carried.{Makes}
use Rattle.cx_world.specs.Settling.{drains_links}
use Rattle.cx_world.proofs.world.World.round.Given as goal

abbrev pub invariant-loop : goal.invariant-loop
invariant-loop g l = Makes (handlers_of l.fn.desk) l.fn.self l.self (drains_links l.drained) × (l.counter ≤ l.drained) × (l.drained ≤ l.last)
