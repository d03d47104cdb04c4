-- Why an input was not read to its end.
use Rattle.std.specs.Prelude.{ℕ, ◌≡◌, ◌<◌, List, length, drop, Option, Some, None}
use Rattle.cx_base.specs.Streams.{Rose}
use Rattle.cx_top.specs.declared.input.Unread.{Unread}
use Rattle.cx_top.specs.declared.input.Unread.TheVariants.{Fault, TooLong, OutOfMemory}

-- where the source tells it: it had more than the limit, and gave one byte more than that
abbrev pub IsPastLimit : Option (List ℕ) → Option (List ℕ) → Type 0
IsPastLimit None now = Unit {0}
IsPastLimit (Some left) now = (1048576 < length left) × (now ≡ Some (drop 1048577 left))

-- why the input was not read to its end: its count of faults rose, or it is too long; want of memory is free
abbrev pub IsUnread : Option (List ℕ) → Option (List ℕ) → ℕ → ℕ → Unread → Type 0
IsUnread left now before after Fault = Rose before after
IsUnread left now before after TooLong = IsPastLimit left now
IsUnread left now before after OutOfMemory = Unit {0}

-- why no bytes were taken: the count of faults rose; want of memory is free
abbrev pub IsUntaken : ℕ → ℕ → Unread → Type 0
IsUntaken before after Fault = Rose before after
IsUntaken before after TooLong = ⊥
IsUntaken before after OutOfMemory = Unit {0}
