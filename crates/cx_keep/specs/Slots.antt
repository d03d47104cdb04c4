-- What a keeper keeps, and when a fault of its counts.
use Rattle.std.specs.Prelude.{ℕ, ◌≡◌, ◌⊎◌, ◌-◌, ◌≤◌, Bool, not, ◌&&◌, ◌||◌, nat_le, List, length, Option, Some, None, Result, Ok, Err, if◌then◌else◌}
use Rattle.cx_base.specs.Streams.{Rose, is_listed, count_after}
use Rattle.cx_keep.specs.declared.keeper.Slot.{Slot}
use Rattle.cx_keep.specs.declared.keeper.Slot.TheVariants.{Keyring, State}
use Rattle.cx_keep.specs.declared.keeper.KeepError.{KeepError}
use Rattle.cx_keep.specs.declared.keeper.KeepError.TheVariants.{Failed, OutOfMemory}

-- what stands in each slot, if anything does
pub record Kept : Type 0 where
  pub keyring : Option (List ℕ)
  pub state : Option (List ℕ)

abbrev pub slot_of : Slot → Kept → Option (List ℕ)
slot_of Keyring kept = kept.keyring
slot_of State kept = kept.state

-- with these bytes in the slot, and the other slot as it was
abbrev pub with_slot : Slot → List ℕ → Kept → Kept
with_slot Keyring bytes kept = record { keyring = Some bytes; state = kept.state }
with_slot State bytes kept = record { keyring = kept.keyring; state = Some bytes }

-- where the keeper tells what it keeps: this is what stands in the slot
abbrev pub Loads : Option Kept → Slot → Option (List ℕ) → Type 0
Loads None slot loaded = Unit {0}
Loads (Some kept) slot loaded = loaded ≡ slot_of slot kept

-- where the keeper tells what it keeps: the bytes are in the slot
abbrev pub Saves : Option Kept → Option Kept → Slot → List ℕ → Type 0
Saves None new slot bytes = Unit {0}
Saves (Some kept) new slot bytes = new ≡ Some (with_slot slot bytes kept)

-- where the keeper tells what it keeps: all is as before, or the bytes are in the slot
abbrev pub SavesOrNot : Option Kept → Option Kept → Slot → List ℕ → Type 0
SavesOrNot None new slot bytes = Unit {0}
SavesOrNot (Some kept) new slot bytes = (new ≡ Some kept) ⊎ (new ≡ Some (with_slot slot bytes kept))

-- the count of faults stands where a load goes well, and where it wants memory, which is no fault; it rose where the load failed
abbrev pub LoadCounts : {X : Type 0} → ℕ → ℕ → Result X KeepError → Type 0
LoadCounts before now (Ok loaded) = now ≡ before
LoadCounts before now (Err OutOfMemory) = now ≡ before
LoadCounts before now (Err Failed) = (before ≤ now) × Rose before now

-- ---- the keeper in memory

-- a keeper in memory as contracts see it: what it keeps, the room that is left, the numbers of the calls that fail, whether a
-- save that fails leaves the new bytes, the calls and faults so far
pub record Keeping : Type 0 where
  pub kept : Kept
  pub room : ℕ
  pub fails : List ℕ
  pub leaves_new : Bool
  pub calls : ℕ
  pub faults : ℕ

-- whether the next call is one that fails by its number
abbrev pub fails_next : Keeping → Bool
fails_next keeper = is_listed keeper.fails (count_after keeper.calls)

-- whether the next save succeeds: its number isn't listed, and the bytes fit the room
abbrev pub saves_next : Keeping → List ℕ → Bool
saves_next keeper bytes = not (fails_next keeper) && nat_le (length bytes) keeper.room

-- whether the next save leaves its bytes in the slot: they fit the room, and it succeeds or leaves them though it fails
abbrev pub leaves_next : Keeping → List ℕ → Bool
leaves_next keeper bytes = nat_le (length bytes) keeper.room && (not (fails_next keeper) || keeper.leaves_new)

-- behind a load
abbrev pub after_load : Keeping → Keeping
after_load keeper = record {
  kept = keeper.kept;
  room = keeper.room;
  fails = keeper.fails;
  leaves_new = keeper.leaves_new;
  calls = count_after keeper.calls;
  faults = (if fails_next keeper then count_after keeper.faults else keeper.faults);
}

-- behind a save of these bytes into the slot
abbrev pub after_save : Keeping → Slot → List ℕ → Keeping
after_save keeper slot bytes = record {
  kept = (if leaves_next keeper bytes then with_slot slot bytes keeper.kept else keeper.kept);
  room = (if leaves_next keeper bytes then keeper.room - length bytes else keeper.room);
  fails = keeper.fails;
  leaves_new = keeper.leaves_new;
  calls = count_after keeper.calls;
  faults = (if saves_next keeper bytes then keeper.faults else count_after keeper.faults);
}
