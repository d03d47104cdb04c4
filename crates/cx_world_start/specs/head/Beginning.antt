-- What a schedule says of the nodes of its run, and why they can begin so.
use Rattle.std.specs.Prelude.{ℕ, ◌≡◌, false, List, map, IsTrue, String, position}
use Rattle.std.specs.BTreeMap.{BTreeMap}
use Rattle.std.specs.List.{list_any}
use Rattle.std.specs.declared.alloc.Global.{Global}
use Rattle.cx_base.specs.Names.{Name}
use Rattle.cx_desk.specs.Handlers.{Handlers}
use Rattle.cx_keyring.specs.Entries.{are_grants, is_named, is_ring}
use Rattle.cx_lines.specs.declared.lines.Line.{Line}
use Rattle.cx_lines.specs.declared.lines.Line.TheVariants as line
use Rattle.cx_lines.specs.declared.lines.Numbered.{Numbered}
use Rattle.cx_lines.specs.declared.settings.Setting.{Setting}
use Rattle.cx_lines.specs.declared.settings.Setting.TheVariants as setting
use Rattle.cx_words.specs.lines.Known.{is_declarable}
use Rattle.cx_words.specs.lines.Values.{is_life}
use Rattle.cx_run.specs.Opening.{Declared, Setup, principal_of}
use Rattle.cx_schedule.specs.Files.{Lines}
use Rattle.cx_words.specs.Cutting.{IsShort}
use Rattle.cx_world_start.specs.head.Places.{place_of}

-- the lines are those of a schedule: bytes within the limits spell them
abbrev pub IsSchedule : List Numbered → Type 0
IsSchedule lines = (bytes : List ℕ) × IsShort bytes × Lines bytes lines

-- no line of a schedule says for which kinds of operation daemons have handlers: what its lines say is told of daemons with none
abbrev pub unhandled : Handlers
unhandled = record { read = false; write = false; exec = false }

-- the same, where the daemons have these
abbrev pub with_handlers : Handlers → Setup → Setup
with_handlers handlers setup = record setup { handlers = handlers }

-- the nodes can begin: the lives are within their bounds, and the entities are those of a keyring
pub record CanBegin (setup : Setup) : Type 0 where
  pub life : IsTrue (is_life setup.life)
  pub auth_life : IsTrue (is_life setup.auth_life)
  pub ring : IsTrue (is_ring (map principal_of setup.entities))

-- what a head line may say behind this: a life within its bounds, a client or a daemon of a new name with caps that one may have
abbrev pub MaySay : Setup → Setting → Type 0
MaySay setup (setting.Lifetime seconds) = IsTrue (is_life seconds)
MaySay setup (setting.AuthLifetime seconds) = IsTrue (is_life seconds)
MaySay setup (setting.Entity name grants) =
    (list_any (is_named name) (map principal_of setup.entities) ≡ false) × IsTrue (is_declarable name) × IsTrue (are_grants grants)
MaySay setup (setting.Seed node seed) = Unit {0}
MaySay setup (setting.Modes client modes) = Unit {0}
MaySay setup (setting.Leak client) = Unit {0}

-- which line may stand behind this
abbrev pub MayFollow : Setup → Line → Type 0
MayFollow setup (line.Setting setting) = MaySay setup setting
MayFollow setup _ = Unit {0}

-- how it is held: the nodes can begin, and each entity is found by its name
pub record AreHeld (life auth_life : ℕ) (entities : List Declared) (texts : BTreeMap (String Global) ℕ) : Type 0 where
  pub life_within : IsTrue (is_life life)
  pub auth_life_within : IsTrue (is_life auth_life)
  pub ring : IsTrue (is_ring (map principal_of entities))
  pub placed : (name : Name) → place_of texts name ≡ position (is_named name) (map principal_of entities)
