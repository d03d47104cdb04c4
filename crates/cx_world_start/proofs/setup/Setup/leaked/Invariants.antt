use Rattle.std.proofs.Common.{◌≡◌, ◌++◌, drop}
use Rattle.std.specs.Prelude.{map}
use Rattle.cx_run.specs.Opening.{leaked_of}
use Rattle.cx_world_start.proofs.setup.Setup.leaked.Given as goal

abbrev pub invariant-loop-leak : goal.invariant-loop-leak
invariant-loop-leak l = l.names ++ map (λ leak. leak.client) (drop l.leak-index l.leak-items) ≡ leaked_of l.self
