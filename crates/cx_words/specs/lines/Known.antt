-- What the lines above a line say, as far as it decides what may stand in the line.
use Rattle.std.specs.Prelude.{Bool, true, false, ◌&&◌, ◌||◌, []}
use Rattle.cx_base.specs.declared.kinds.EntityType.TheVariants.{Mds, Osd, Client, Mgr}
use Rattle.cx_base.specs.Names.{Name, is_daemon_type, same_kind}
use Rattle.cx_words.specs.declared.known.Known.{Known}
use Rattle.cx_base.specs.declared.nodes.NodeName.{NodeName}
use Rattle.cx_base.specs.declared.nodes.NodeName.TheVariants.{Monitor, Entity}
use Rattle.cx_words.specs.lines.Named.{is_among}

-- what no lines say
abbrev pub nothing : Known
nothing = record {
  declared = [];
  seeded = [];
  is_monitor_seeded = false;
  moded = [];
  leaked = [];
  has_life = false;
  has_auth_life = false;
  has_begun = false;
}

-- the types of entities that a schedule declares
abbrev pub is_declarable : Name → Bool
is_declarable name =
    same_kind name.kind Client || (same_kind name.kind Mds || (same_kind name.kind Osd || same_kind name.kind Mgr))

-- a declared client
abbrev pub is_client : Known → Name → Bool
is_client known name = same_kind name.kind Client && is_among known.declared name

-- a declared daemon
abbrev pub is_daemon : Known → Name → Bool
is_daemon known name = is_daemon_type name.kind && is_among known.declared name

-- the monitor, or a declared entity
abbrev pub is_node : Known → NodeName → Bool
is_node known Monitor = true
is_node known (Entity name) = is_among known.declared name

-- a node that has a seed
abbrev pub is_seeded : Known → NodeName → Bool
is_seeded known Monitor = known.is_monitor_seeded
is_seeded known (Entity name) = is_among known.seeded name
