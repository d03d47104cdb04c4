-- How the keeper in memory holds a slot.
use Rattle.std.specs.Prelude.{ℕ, List, Option, Some, None, if◌then◌else◌}
use Rattle.cx_keep.specs.declared.in_memory.HeldSlot.{HeldSlot}

-- what stands in the slot
abbrev pub held_of : HeldSlot → Option (List ℕ)
held_of place = if place.is_filled then Some place.bytes.items else None
