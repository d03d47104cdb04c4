-- What a stream holds of the bytes that it was fed.
use Rattle.std.specs.Prelude.{ℕ, List}

-- the bytes of the banner and the frames that were taken, and those that weren't taken yet
pub record Received : Type 0 where
  pub taken : List ℕ
  pub rest : List ℕ
