-- Where names stand in a list, as the index keeps it.
use Rattle.std.specs.Prelude.{ℕ, Bool, Option, Some, None, String, if◌then◌else◌}
use Rattle.std.specs.BTreeMap.{BTreeMap, get_by_text}
use Rattle.std.specs.declared.alloc.Global.{Global}
use Rattle.cx_base.specs.Names.{Name}
use Rattle.cx_base.specs.declared.kinds.EntityType.{EntityType}
use Rattle.cx_base.specs.declared.kinds.EntityType.TheVariants.{Mon, Mds, Osd, Client, Mgr, Auth}
use Rattle.cx_name_index.specs.declared.index.PlacesByType.{PlacesByType}

-- the place of the name of a type
abbrev pub place_at : PlacesByType → EntityType → Option ℕ
place_at places Mon = places.mon
place_at places Mds = places.mds
place_at places Osd = places.osd
place_at places Client = places.client
place_at places Mgr = places.mgr
place_at places Auth = places.auth

abbrev pub place_among : Option PlacesByType → EntityType → Option ℕ
place_among None kind = None
place_among (Some places) kind = place_at places kind

-- the place of a name
abbrev pub place_of : BTreeMap (String Global) PlacesByType → Name → Option ℕ
place_of ids name = place_among (get_by_text ids name.id) name.kind

-- the place of a name behind one that was noted at this place, which it has if it is that name and had none
abbrev pub first_place : Option ℕ → Bool → ℕ → Option ℕ
first_place (Some before) same place = Some before
first_place None same place = if same then Some place else None
