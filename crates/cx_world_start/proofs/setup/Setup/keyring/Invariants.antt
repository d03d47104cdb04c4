use Rattle.std.proofs.Common.{◌≡◌, ◌++◌, drop}
use Rattle.std.specs.Prelude.{map}
use Rattle.cx_run.specs.Opening.{principal_of}
use Rattle.cx_world_start.proofs.setup.Setup.keyring.Given as goal

abbrev pub invariant-loop-entity : goal.invariant-loop-entity
invariant-loop-entity l = l.ring ++ map principal_of (drop l.entity-index l.entity-items) ≡ map principal_of l.entity-items
