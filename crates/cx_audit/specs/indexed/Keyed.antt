-- What entries are found by, and which entries a map has under a key.
use Rattle.std.specs.Prelude.{ℕ, ◌≡◌, ◌==◌, ◌&&◌, Bool, false, List, [], ◌∷◌, ◌++◌, map, Option, Some, None, unwrap_or, if◌then◌else◌}
use Rattle.std.specs.Option.{option_map}
use Rattle.std.specs.Str.{bytes_eq}
use Rattle.std.specs.BTreeMap.{BTreeMap, get}
use Rattle.std.specs.Borrow.{Bor}
use Rattle.std.specs.Global.{Vec}
use Rattle.std.specs.declared.cmp.Ordering.{Ordering}
use Rattle.cx_base.specs.Names.{Name}
use Rattle.cx_base.specs.declared.kinds.EntityType.{EntityType}
use Rattle.cx_base.specs.declared.kinds.EntityType.TheVariants.{Mon, Mds, Osd, Client, Mgr, Auth}
use Rattle.cx_journal.specs.declared.entries.Entry.{Entry}
use Rattle.cx_audit.specs.contracts.key.KeyOrd.TheImpl as key_order
use Rattle.cx_audit.specs.declared.index.Index.{Index}
use Rattle.cx_audit.specs.declared.key.Key.{Key}

-- a number of an entity type, another one for each
abbrev pub kind_number : EntityType → ℕ
kind_number Mon = 0
kind_number Mds = 1
kind_number Osd = 2
kind_number Client = 3
kind_number Mgr = 4
kind_number Auth = 5

-- the bytes by which an entity is found
abbrev pub name_bytes : Name → List ℕ
name_bytes name = kind_number name.kind ∷ name.id

-- a number of an entity, in one of its rounds
abbrev pub name_key : Name → ℕ → ℕ → Key
name_key name number round = record { bytes = name_bytes name; round = round; number = number }

-- a number alone
abbrev pub number_key : ℕ → Key
number_key number = record { bytes = []; round = 0; number = number }

-- bytes, with a number
abbrev pub bytes_key : List ℕ → ℕ → Key
bytes_key bytes number = record { bytes = bytes; round = 0; number = number }

-- whether two keys are one
abbrev pub same_key : Key → Key → Bool
same_key a b = bytes_eq a.bytes b.bytes && ((a.round == b.round) && (a.number == b.number))

abbrev pub order : Key → Key → Ordering
order = (key_order.ghosts).cmp

-- the entries that references lead to
abbrev pub held : Vec (Bor Entry) → List Entry
held entries = map (λ e. e.now) entries.items

-- the entries under a key, where there are any
abbrev pub found : BTreeMap Key (Vec (Bor Entry)) → Key → Option (List Entry)
found by_key key = option_map held (get order by_key key)

-- the same, no entries where there are none
abbrev pub listed : BTreeMap Key (Vec (Bor Entry)) → Key → List Entry
listed by_key key = unwrap_or (found by_key key) []

-- the same of an index
abbrev pub at : Index → Key → Option (List Entry)
at index key = found index.by_key key

abbrev pub under : Index → Key → List Entry
under index key = listed index.by_key key

-- whether an entry of this key, where it has one, is put under the other
abbrev pub is_under : Option Key → Key → Bool
is_under None key = false
is_under (Some own) key = same_key own key

-- what stands under each key once an entry more is put under one
abbrev pub put_of : Option Key → Entry → (Key → List Entry) → Key → List Entry
put_of None e lists key = lists key
put_of (Some own) e lists key = if same_key own key then lists key ++ e ∷ [] else lists key

-- an index has an entry more, under this key, where there is one
abbrev pub Puts : Option Key → Entry → Index → Index → Type 0
Puts own e old new = (key : Key) → under new key ≡ put_of own e (under old) key
