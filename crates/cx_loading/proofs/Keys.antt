-- From a keyring to the key of one of its entities.
use Rattle.std.proofs.Common.{◌≡◌, ℕ, true, List, Option, Some, None, find, is_some, inl, inr, refl, sym, ap, ◌∙◌}
use Rattle.cx_base.specs.Names.{Name}
use Rattle.cx_keyring.specs.Entries.{is_named}
use Rattle.cx_keyring.specs.declared.entries.Entry.{Entry}
use Rattle.cx_loading.specs.Loading.{IsKeyReason, IsKeyRefusal, IsKeyServed, IsNameless, IsOrMemory, IsRingOf, IsRingReason, IsRingRefusal, IsRingServed}
use Rattle.cx_loading.specs.declared.unloaded.Unloaded.{Unloaded}
use Rattle.cx_loading.specs.declared.unloaded.Unloaded.TheVariants.{Script, Keeper, NoKeyring, Keyring, NoEntity, State, OutOfMemory}

-- without a keyring there is no key
pub key_refused : (name : Name) (loaded : Option (List ℕ)) (why : Unloaded) → IsRingRefusal loaded why → IsKeyRefusal name loaded why
key_refused name loaded (Script refusal) never = never
key_refused name loaded Keeper never = never
key_refused name loaded NoKeyring never = never
key_refused name loaded (Keyring refusal) never = never
key_refused name loaded NoEntity never = absurd never
key_refused name loaded (State bad) never = never
key_refused name loaded OutOfMemory never = never

-- a keyring with or without the name is one
ring_served : (name : Name) (loaded : Option (List ℕ)) → IsKeyServed name loaded → IsRingServed loaded
ring_served name None served = served
ring_served name (Some bytes) served = (served.0, served.1, served.2)

nameless_served : (name : Name) (loaded : Option (List ℕ)) → IsNameless name loaded → IsRingServed loaded
nameless_served name None served = served
nameless_served name (Some bytes) served = (served.0, served.1, served.2)

pub key_only : (name : Name) (loaded : Option (List ℕ)) (got : Unloaded) → (IsRingServed loaded → got ≡ OutOfMemory) → IsKeyServed name loaded → got ≡ OutOfMemory
key_only name loaded got only served = only (ring_served name loaded served)

-- what refuses the keyring refuses the key
pub key_reason : (name : Name) (loaded : Option (List ℕ)) (got : Unloaded) → (IsRingServed loaded → got ≡ OutOfMemory)
    → ((why : Unloaded) → IsRingReason loaded why → IsOrMemory why got) → (why : Unloaded) → IsKeyReason name loaded why → IsOrMemory why got
key_reason name loaded got only exact (Script refusal) reason = exact (Script refusal) reason
key_reason name loaded got only exact Keeper reason = exact Keeper reason
key_reason name loaded got only exact NoKeyring reason = exact NoKeyring reason
key_reason name loaded got only exact (Keyring refusal) reason = exact (Keyring refusal) reason
key_reason name loaded got only exact NoEntity reason = inl (only (nameless_served name loaded reason))
key_reason name loaded got only exact (State bad) reason = exact (State bad) reason
key_reason name loaded got only exact OutOfMemory reason = exact OutOfMemory reason

-- a keyring that is read has no other reason than a missing entry
pub key_missing : (name : Name) (loaded : Option (List ℕ)) → ((why : Unloaded) → IsRingReason loaded why → ⊥)
    → (why : Unloaded) → IsKeyReason name loaded why → IsOrMemory why NoEntity
key_missing name loaded exact (Script refusal) reason = absurd (exact (Script refusal) reason)
key_missing name loaded exact Keeper reason = absurd (exact Keeper reason)
key_missing name loaded exact NoKeyring reason = absurd (exact NoKeyring reason)
key_missing name loaded exact (Keyring refusal) reason = absurd (exact (Keyring refusal) reason)
key_missing name loaded exact NoEntity reason = inr refl
key_missing name loaded exact (State bad) reason = absurd (exact (State bad) reason)
key_missing name loaded exact OutOfMemory reason = absurd (exact OutOfMemory reason)

-- the one keyring has an entry of the name, or none
found_so : (name : Name) (loaded : Option (List ℕ)) (ring : List Entry) → IsRingOf loaded ring → IsNameless name loaded → find (is_named name) ring ≡ None
found_so name None ring is never = absurd never
found_so name (Some bytes) ring is never = ap (find (is_named name)) (is.one never.0 never.1) ∙ never.3

served_so : (name : Name) (loaded : Option (List ℕ)) (ring : List Entry) → IsRingOf loaded ring → IsKeyServed name loaded → is_some (find (is_named name) ring) ≡ true
served_so name None ring is never = absurd never
served_so name (Some bytes) ring is never = ap (λ (r : List Entry). is_some (find (is_named name) r)) (is.one never.0 never.1) ∙ never.3

pub key_found : (name : Name) (loaded : Option (List ℕ)) (ring : List Entry) (entry : Entry) → IsRingOf loaded ring → find (is_named name) ring ≡ Some entry
    → ((why : Unloaded) → IsRingReason loaded why → ⊥) → (why : Unloaded) → IsKeyReason name loaded why → ⊥
key_found name loaded ring entry is found exact (Script refusal) reason = exact (Script refusal) reason
key_found name loaded ring entry is found exact Keeper reason = exact Keeper reason
key_found name loaded ring entry is found exact NoKeyring reason = exact NoKeyring reason
key_found name loaded ring entry is found exact (Keyring refusal) reason = exact (Keyring refusal) reason
key_found name loaded ring entry is found exact NoEntity reason = (let e : Some entry ≡ None = sym found ∙ found_so name loaded ring is reason in cc)
key_found name loaded ring entry is found exact (State bad) reason = exact (State bad) reason
key_found name loaded ring entry is found exact OutOfMemory reason = exact OutOfMemory reason

none_there : {X : Type 0} (found : Option X) → is_some found ≡ true → found ≡ None → ⊥
none_there None some none = cc
none_there (Some x) some none = cc

pub key_there : (name : Name) (loaded : Option (List ℕ)) (ring : List Entry) → IsRingOf loaded ring → find (is_named name) ring ≡ None → IsKeyServed name loaded → ⊥
key_there name loaded ring is none served = none_there (find (is_named name) ring) (served_so name loaded ring is served) none
