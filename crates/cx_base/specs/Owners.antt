-- When the types that own bytes and text refuse.
use Rattle.std.specs.Prelude.{ℕ, ◌≡◌, Bool, List, Some, nat_lt}
use Rattle.std.specs.List.{position}
use Rattle.cx_base.specs.declared.refusals.TextRefusal.{TextRefusal}
use Rattle.cx_base.specs.declared.refusals.TextRefusal.TheVariants.{NotAscii, OutOfMemory}

-- above 0x7f
abbrev pub is_above_ascii : ℕ → Bool
is_above_ascii b = nat_lt 127 b

-- why these bytes are no text: the first byte above 0x7f; want of memory is free
abbrev pub IsTextCause : List ℕ → TextRefusal → Type 0
IsTextCause bytes (NotAscii place) = position is_above_ascii bytes ≡ Some place
IsTextCause bytes OutOfMemory = Unit {0}
