-- Entity types and names as Ceph's documents spell them: a type word, a point and an id ("user management",
-- "Cephx"), with the id's alphabet of this project's profile.
use Rattle.std.specs.Prelude.{ℕ, ◌==◌, Bool, true, false, List, length, nat_le, codes, ◌&&◌, ◌||◌, Option, Some, None, if◌then◌else◌}
use Rattle.std.specs.List.{list_all}
use Rattle.std.specs.Str.{bytes_eq}
use Rattle.cx_base.specs.Joined.{◌<>◌}
use Rattle.cx_base.specs.declared.kinds.EntityType.{EntityType}
use Rattle.cx_base.specs.declared.kinds.EntityType.TheVariants.{Mon, Mds, Osd, Client, Mgr, Auth}
use Rattle.cx_base.specs.declared.kinds.Access.{Access}
use Rattle.cx_base.specs.declared.kinds.Access.TheVariants.{Read, Write, Exec}

-- an entity's name as contracts see it
pub record Name : Type 0 where
  pub kind : EntityType
  pub id : List ℕ

-- the word of an entity type
abbrev pub type_word : EntityType → List ℕ
type_word Mon = codes "mon"
type_word Mds = codes "mds"
type_word Osd = codes "osd"
type_word Client = codes "client"
type_word Mgr = codes "mgr"
type_word Auth = codes "auth"

-- whether two entity types are one
abbrev pub same_kind : EntityType → EntityType → Bool
same_kind Mon Mon = true
same_kind Mds Mds = true
same_kind Osd Osd = true
same_kind Client Client = true
same_kind Mgr Mgr = true
same_kind Auth Auth = true
same_kind _ _ = false

-- the types of daemons
abbrev pub is_daemon_type : EntityType → Bool
is_daemon_type Mds = true
is_daemon_type Osd = true
is_daemon_type Mgr = true
is_daemon_type _ = false

-- a letter, a digit, or one of _ - . : + /
abbrev pub is_id_byte : ℕ → Bool
is_id_byte b =
    (nat_le 97 b && nat_le b 122)
    || (nat_le 65 b && nat_le b 90)
    || (nat_le 48 b && nat_le b 57)
    || (b == 95)
    || (b == 45)
    || (b == 46)
    || (b == 58)
    || (b == 43)
    || (b == 47)

-- 1 to 64 such bytes; none are allowed for the monitor alone
abbrev pub is_id : EntityType → List ℕ → Bool
is_id kind id =
    (same_kind kind Mon || nat_le 1 (length id)) && (nat_le (length id) 64 && list_all is_id_byte id)

-- an id behind an entity type, as far as there is one and they make a name
abbrev pub with_id : List ℕ → Option EntityType → Option Name
with_id id None = None
with_id id (Some kind) = if is_id kind id then Some (record { kind = kind; id = id }) else None

-- the text of a name, as osd.0
abbrev pub name_text : Name → List ℕ
name_text name = type_word name.kind <> codes "." <> name.id

-- whether two names are one
abbrev pub same_name : Name → Name → Bool
same_name a b = same_kind a.kind b.kind && bytes_eq a.id b.id

-- the word of an access
abbrev pub access_word : Access → List ℕ
access_word Read = codes "read"
access_word Write = codes "write"
access_word Exec = codes "exec"
