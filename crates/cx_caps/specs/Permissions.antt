-- A permitted operation as contracts see it.
use Rattle.std.specs.Prelude.{ℕ, List}
use Rattle.cx_base.specs.declared.operations.Operation.{Operation}

-- an operation and the capability text that allows it
pub record Permission : Type 0 where
  pub caps : List ℕ
  pub ask : Operation
