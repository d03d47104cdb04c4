use Rattle.std.proofs.Common.{take}
use Rattle.std.specs.Prelude.{filter}
use Rattle.cx_desk.specs.Held.{handlers_of}
use Rattle.cx_world_start.specs.cx_run.specs.Deliveries.{vanish}
use Rattle.cx_world_start.specs.cx_run.specs.Wires.{has_end}
use Rattle.cx_world.specs.Carried.{Makes}
use Rattle.cx_world.proofs.world.World.vanish.Given as goal

abbrev pub invariant-links : goal.invariant-links
invariant-links g l = Makes (handlers_of l.fn.desk) l.initial.self l.self (λ w. vanish l.who w (filter (has_end l.who) (take l.place w.wires)))
