-- What a keyring keeps beside its entries, and why an entry isn't added.
use Rattle.std.specs.Prelude.{◌≡◌, List, String, IsSome, IsTrue, find, position}
use Rattle.std.specs.BTreeMap.{BTreeMap}
use Rattle.std.specs.declared.alloc.Global.{Global}
use Rattle.cx_base.specs.Names.{Name}
use Rattle.cx_keyring.specs.declared.entries.Entry.{Entry}
use Rattle.cx_keyring.specs.declared.index.PlacesByType.{PlacesByType}
use Rattle.cx_keyring.specs.declared.refusals.AddRefusal.{AddRefusal}
use Rattle.cx_keyring.specs.declared.refusals.AddRefusal.TheVariants.{Repeated, OutOfMemory}
use Rattle.cx_keyring.specs.Entries.{is_named, is_ring}
use Rattle.cx_keyring.specs.Indexed.{place_of}

-- the entries are those of a keyring, and the index has the place of each name
pub record IsKept (entries : List Entry) (ids : BTreeMap (String Global) PlacesByType) : Type 0 where
  pub ring : IsTrue (is_ring entries)
  pub placed : (name : Name) → place_of ids name ≡ position (is_named name) entries

-- why an entry isn't added: one of its name stands, and it comes back; want of memory is free
abbrev pub IsAddCause : List Entry → Entry → AddRefusal → Type 0
IsAddCause old entry (Repeated back) = (back ≡ entry) × IsSome (find (is_named entry.name) old)
IsAddCause old entry OutOfMemory = Unit {0}
