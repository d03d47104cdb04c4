use Rattle.std.proofs.Common.{◌≡◌, take}
use Rattle.std.specs.Prelude.{filter}
use Rattle.cx_world_start.specs.cx_run.specs.Happenings.{stays}
use Rattle.cx_world.proofs.made.remaining.Given as goal

abbrev pub invariant-loop-seal : goal.invariant-loop-seal
invariant-loop-seal l = l.kept ≡ filter stays (take l.seal-index l.seals)
