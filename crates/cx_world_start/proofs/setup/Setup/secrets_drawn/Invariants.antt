use Rattle.std.proofs.Common.{◌≡◌, ◌++◌, drop}
use Rattle.std.specs.Prelude.{map}
use Rattle.cx_run.specs.Opening.{secret_drawn, secrets_drawn}
use Rattle.cx_world_start.proofs.setup.Setup.secrets_drawn.Given as goal

abbrev pub invariant-loop-entity : goal.invariant-loop-entity
invariant-loop-entity l = l.log ++ map secret_drawn (drop l.entity-index l.entity-items) ≡ secrets_drawn l.self
