-- What a node needs of what is kept: the keyring and the monitor's state; and why it goes without.
use Rattle.std.specs.Prelude.{ℕ, ◌≡◌, ◌≤◌, ◌⊎◌, true, List, [], find, is_some, length, Option, Some, None}
use Rattle.cx_base.specs.Names.{Name}
use Rattle.cx_base.specs.Streams.{Rose}
use Rattle.cx_enc.specs.declared.keys.Key.{Key}
use Rattle.cx_keyring.specs.Entries.{is_named}
use Rattle.cx_keep.specs.Formats.{IsRefusedAt, SpellsState}
use Rattle.cx_keep.specs.Slots.{Kept, Loads}
use Rattle.cx_keep.specs.declared.keeper.Slot.TheVariants as slot
use Rattle.cx_keyring.specs.Rings.{IsKeyringCause, IsReason, KeyringText}
use Rattle.cx_keyring.specs.declared.entries.Entry.{Entry}
use Rattle.cx_keyring.specs.declared.refusals.KeyringRefusal.{KeyringRefusal}
use Rattle.cx_schedule.specs.declared.refusals.ScheduleRefusal.{ScheduleRefusal}
use Rattle.cx_schedule.specs.declared.refusals.ScheduleRefusal.TheVariants as schedule
use Rattle.cx_rotate.specs.declared.states.KeptState.{KeptState}
use Rattle.cx_keep.specs.declared.keeper.KeepError.{KeepError}
use Rattle.cx_keep.specs.declared.keeper.KeepError.TheVariants as keep
use Rattle.cx_keyring.specs.declared.refusals.KeyringRefusal.TheVariants as keyring
use Rattle.cx_loading.specs.declared.unloaded.Unloaded.{Unloaded}
use Rattle.cx_loading.specs.declared.unloaded.Unloaded.TheVariants.{Script, Keeper, NoKeyring, Keyring, NoEntity, State, OutOfMemory}

-- a count rose by a failure
abbrev pub Rises : ℕ → ℕ → Type 0
Rises before now = (before ≤ now) × Rose before now

abbrev pub keep_refusal : KeepError → Unloaded
keep_refusal keep.Failed = Keeper
keep_refusal keep.OutOfMemory = OutOfMemory

abbrev pub ring_refusal : KeyringRefusal → Unloaded
ring_refusal keyring.OutOfMemory = OutOfMemory
ring_refusal (keyring.BadLine line why) = Keyring (keyring.BadLine line why)
ring_refusal (keyring.TooMany limit) = Keyring (keyring.TooMany limit)

abbrev pub script_refusal : ScheduleRefusal → Unloaded
script_refusal schedule.OutOfMemory = OutOfMemory
script_refusal (schedule.BadLine line bad) = Script (schedule.BadLine line bad)
script_refusal schedule.TooLong = Script schedule.TooLong

-- this refusal, or want of memory
abbrev pub IsOrMemory : Unloaded → Unloaded → Type 0
IsOrMemory why got = (got ≡ OutOfMemory) ⊎ (got ≡ why)

-- ---- the keyring

-- the bytes are a keyring of at most 4,096 entries, of this one and no other
pub record IsRing (bytes : List ℕ) (ring : List Entry) : Type 0 where
  pub text : KeyringText bytes ring
  pub few : length ring ≤ 4096
  pub one : (other : List Entry) → KeyringText bytes other → ring ≡ other
  pub unrefused : (why : KeyringRefusal) → IsReason bytes why → ⊥

-- what was loaded is the keyring
abbrev pub IsRingOf : Option (List ℕ) → List Entry → Type 0
IsRingOf None ring = ⊥
IsRingOf (Some bytes) ring = IsRing bytes ring

-- there is a keyring
abbrev pub IsRingServed : Option (List ℕ) → Type 0
IsRingServed None = ⊥
IsRingServed (Some bytes) = (ring : List Entry) × KeyringText bytes ring × (length ring ≤ 4096)

-- why what was loaded is none; want of memory is free
abbrev pub IsRingRefusal : Option (List ℕ) → Unloaded → Type 0
IsRingRefusal loaded NoKeyring = loaded ≡ None
IsRingRefusal loaded (Keyring why) = (bytes : List ℕ) × (loaded ≡ Some bytes) × IsKeyringCause bytes why
IsRingRefusal loaded OutOfMemory = Unit {0}
IsRingRefusal loaded _ = ⊥

-- why it must be refused
abbrev pub IsRingReason : Option (List ℕ) → Unloaded → Type 0
IsRingReason None NoKeyring = Unit {0}
IsRingReason (Some bytes) (Keyring why) = IsReason bytes why
IsRingReason loaded _ = ⊥

-- the keyring that is kept, as far as the keeper tells what it keeps
abbrev pub HasRing : Option Kept → List Entry → Type 0
HasRing kept ring = (loaded : Option (List ℕ)) × Loads kept slot.Keyring loaded × IsRingOf loaded ring

-- why there is none: the keeper failed, or none is kept, or what is kept is none
abbrev pub IsRingEnd : Option Kept → ℕ → ℕ → Unloaded → Type 0
IsRingEnd kept before now Keeper = Rises before now
IsRingEnd kept before now OutOfMemory = Unit {0}
IsRingEnd kept before now why = (loaded : Option (List ℕ)) × Loads kept slot.Keyring loaded × IsRingRefusal loaded why

-- the keeper tells that it keeps a keyring
abbrev pub TellsRing : Option Kept → Type 0
TellsRing None = ⊥
TellsRing (Some kept) = IsRingServed kept.keyring

-- the keeper tells what must be refused so
abbrev pub TellsRingReason : Option Kept → Unloaded → Type 0
TellsRingReason None why = ⊥
TellsRingReason (Some kept) why = IsRingReason kept.keyring why

-- ---- the key of an entity

-- the key of the entity of this name in the keyring that was loaded
pub record IsKeyOf (name : Name) (loaded : Option (List ℕ)) (key : Key) : Type 0 where
  pub ring : List Entry
  pub is_ring : IsRingOf loaded ring
  pub entry : Entry
  pub found : find (is_named name) ring ≡ Some entry
  pub is : key ≡ entry.key

-- why there is none: there is no keyring, or it has no entry of this name
abbrev pub IsKeyRefusal : Name → Option (List ℕ) → Unloaded → Type 0
IsKeyRefusal name loaded NoEntity = (ring : List Entry) × IsRingOf loaded ring × (find (is_named name) ring ≡ None)
IsKeyRefusal name loaded why = IsRingRefusal loaded why

-- the bytes are a keyring with an entry of this name, or without one
abbrev pub IsKeyServed : Name → Option (List ℕ) → Type 0
IsKeyServed name None = ⊥
IsKeyServed name (Some bytes) =
    (ring : List Entry) × KeyringText bytes ring × (length ring ≤ 4096) × (is_some (find (is_named name) ring) ≡ true)

abbrev pub IsNameless : Name → Option (List ℕ) → Type 0
IsNameless name None = ⊥
IsNameless name (Some bytes) =
    (ring : List Entry) × KeyringText bytes ring × (length ring ≤ 4096) × (find (is_named name) ring ≡ None)

-- why what was loaded must be refused
abbrev pub IsKeyReason : Name → Option (List ℕ) → Unloaded → Type 0
IsKeyReason name loaded NoEntity = IsNameless name loaded
IsKeyReason name loaded why = IsRingReason loaded why

abbrev pub HasKey : Name → Option Kept → Key → Type 0
HasKey name kept key = (loaded : Option (List ℕ)) × Loads kept slot.Keyring loaded × IsKeyOf name loaded key

-- why there is none, as far as the keeper tells
abbrev pub IsKeyEnd : Name → Option Kept → ℕ → ℕ → Unloaded → Type 0
IsKeyEnd name kept before now Keeper = Rises before now
IsKeyEnd name kept before now OutOfMemory = Unit {0}
IsKeyEnd name kept before now why = (loaded : Option (List ℕ)) × Loads kept slot.Keyring loaded × IsKeyRefusal name loaded why

-- the keeper tells that it keeps a keyring with that name
abbrev pub TellsKey : Name → Option Kept → Type 0
TellsKey name None = ⊥
TellsKey name (Some kept) = IsKeyServed name kept.keyring

-- the keeper tells what must be refused so
abbrev pub TellsKeyReason : Name → Option Kept → Unloaded → Type 0
TellsKeyReason name None why = ⊥
TellsKeyReason name (Some kept) why = IsKeyReason name kept.keyring why

-- ---- the state

-- the state of a monitor that has kept nothing yet, with these lives
abbrev pub first_state : ℕ × ℕ → KeptState
first_state lives = record {
  next_gid = 1;
  life = lives.0;
  auth_life = lives.1;
  mds = [];
  osd = [];
  mgr = [];
  auth = [];
}

-- what was loaded is the state; none stands for the first one
abbrev pub IsStateOf : ℕ × ℕ → Option (List ℕ) → KeptState → Type 0
IsStateOf lives None state = state ≡ first_state lives
IsStateOf lives (Some bytes) state = SpellsState lives bytes state

-- the bytes spell no state, and are refused at this place
abbrev pub IsUnspelled : ℕ × ℕ → List ℕ → ℕ → Type 0
IsUnspelled lives bytes place = IsRefusedAt bytes place × ((state : KeptState) → SpellsState lives bytes state → ⊥)

-- the state that is kept, as far as the keeper tells what it keeps
abbrev pub HasState : ℕ × ℕ → Option Kept → KeptState → Type 0
HasState lives kept state = (loaded : Option (List ℕ)) × Loads kept slot.State loaded × IsStateOf lives loaded state

-- why what was loaded is none
abbrev pub IsStateRefusal : ℕ × ℕ → Option (List ℕ) → Unloaded → Type 0
IsStateRefusal lives loaded (State bad) = (bytes : List ℕ) × (loaded ≡ Some bytes) × IsUnspelled lives bytes bad.0
IsStateRefusal lives loaded _ = ⊥

-- why there is none: the keeper failed, or what is kept is none; want of memory is free
abbrev pub IsStateEnd : ℕ × ℕ → Option Kept → ℕ → ℕ → Unloaded → Type 0
IsStateEnd lives kept before now Keeper = Rises before now
IsStateEnd lives kept before now (State bad) = (bytes : List ℕ) × Loads kept slot.State (Some bytes) × IsUnspelled lives bytes bad.0
IsStateEnd lives kept before now OutOfMemory = Unit {0}
IsStateEnd lives kept before now _ = ⊥

-- there is a state
abbrev pub IsStateServed : ℕ × ℕ → Option (List ℕ) → Type 0
IsStateServed lives None = Unit {0}
IsStateServed lives (Some bytes) = (state : KeptState) × SpellsState lives bytes state

-- the keeper tells that there is one
abbrev pub TellsState : ℕ × ℕ → Option Kept → Type 0
TellsState lives None = ⊥
TellsState lives (Some kept) = IsStateServed lives kept.state

-- the keeper tells that what it keeps is none
abbrev pub TellsNoState : ℕ × ℕ → Option Kept → Type 0
TellsNoState lives None = ⊥
TellsNoState lives (Some kept) = IsStateServed lives kept.state → ⊥
