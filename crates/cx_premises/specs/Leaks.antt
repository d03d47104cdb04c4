-- The clients whose secrets leaked, as they are kept.
use Rattle.std.specs.Prelude.{List, [], Option, Some, None}
use Rattle.cx_base.specs.Names.{Name}

-- where there are none, no list of them is kept
abbrev pub leaked_in : Option (List Name) → List Name
leaked_in None = []
leaked_in (Some names) = names
