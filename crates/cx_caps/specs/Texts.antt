-- When a text is no capability text.
use Rattle.std.specs.Prelude.{ℕ, ◌<◌, ◌≤◌, ◌≡◌, Bool, not, List, length, Some}
use Rattle.std.specs.List.{position}
use Rattle.cx_base.specs.Texts.{is_caps_byte}
use Rattle.cx_caps.specs.declared.refusals.CapRefusal.{CapRefusal}
use Rattle.cx_caps.specs.declared.refusals.CapRefusal.TheVariants.{TooLong, BadByte, OutOfMemory}

-- a byte that stands in no capability text
abbrev pub is_refused_byte : ℕ → Bool
is_refused_byte b = not (is_caps_byte b)

-- why a text is no capability text: it has more than 4,096 bytes; else the place of its first byte that is none of
-- theirs; want of memory is free
abbrev pub IsCapsCause : List ℕ → CapRefusal → Type 0
IsCapsCause text TooLong = 4096 < length text
IsCapsCause text (BadByte place) = (length text ≤ 4096) × (position is_refused_byte text ≡ Some place)
IsCapsCause text OutOfMemory = Unit {0}
