-- Where the entities of names stand, as it is kept.
use Rattle.std.specs.Prelude.{ℕ, Option, String}
use Rattle.std.specs.BTreeMap.{BTreeMap, get_by_text}
use Rattle.std.specs.declared.alloc.Global.{Global}
use Rattle.cx_base.specs.Names.{Name, name_text}

-- the place of a name
abbrev pub place_of : BTreeMap (String Global) ℕ → Name → Option ℕ
place_of texts name = get_by_text texts (name_text name)
