-- Times as contracts see them.
use Rattle.std.specs.Prelude.{ℕ, ◌<◌}

pub record Moment : Type 0 where
  pub secs : ℕ
  pub nanos : ℕ

-- a reading that a time can spell: it is below 4,294,967,296 s
abbrev pub IsReading : ℕ → Type 0
IsReading reading = reading < 4294967296000000000
