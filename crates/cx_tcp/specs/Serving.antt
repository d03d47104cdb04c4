-- What a look at a link gives.
use Rattle.std.specs.Prelude.{ℕ, ◌≤◌}
use Rattle.cx_tcp.specs.declared.socket.Served.{Served}
use Rattle.cx_tcp.specs.declared.socket.Served.TheVariants.{Nothing, Bytes, Ended}

-- bytes that came are at least one, and at most as many as there is room for
abbrev pub IsServedWithin : ℕ → Served → Type 0
IsServedWithin room Nothing = Unit {0}
IsServedWithin room (Bytes count) = (1 ≤ count) × (count ≤ room)
IsServedWithin room Ended = Unit {0}
