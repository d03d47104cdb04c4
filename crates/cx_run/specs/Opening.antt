-- How a run begins: what the head lines of a schedule say of the nodes.
use Rattle.std.specs.Prelude.{ℕ, ◌+◌, ◌*◌, ◌^◌, suc, true, false, List, [], ◌∷◌, ◌++◌, length, map, take, Option, Some, None, unwrap_or, if◌then◌else◌}
use Rattle.cx_base.specs.Names.{Name, is_daemon_type, same_name}
use Rattle.cx_base.specs.declared.addresses.Addr.{Addr}
use Rattle.cx_rules_session.specs.cx_desk.specs.Handlers.{Handlers}
use Rattle.cx_rules_session.specs.cx_dice.specs.Rolls.{seed_draw}
use Rattle.cx_rules_session.specs.cx_journal.specs.declared.entries.Entry.TheVariants as entry
use Rattle.cx_base.specs.declared.nodes.NodeName.TheVariants as node
use Rattle.cx_rules_session.specs.cx_keyring.specs.declared.entries.Entry.{Entry as Principal}
use Rattle.cx_base.specs.declared.grants.Grant.{Grant}
use Rattle.cx_lines.specs.declared.lines.Line.{Line}
use Rattle.cx_lines.specs.declared.lines.Line.TheVariants as line
use Rattle.cx_lines.specs.declared.lines.Numbered.{Numbered}
use Rattle.cx_lines.specs.declared.settings.Setting.{Setting}
use Rattle.cx_lines.specs.declared.settings.Setting.TheVariants as setting
use Rattle.cx_lines.specs.cx_words.specs.declared.choices.Modes.{Modes}
use Rattle.cx_lines.specs.cx_words.specs.declared.choices.Modes.TheVariants.{Crc, Secure, Both}
use Rattle.cx_base.specs.declared.nodes.NodeName.{NodeName}
use Rattle.cx_rules_session.specs.cx_rotate.specs.declared.states.KeptState.{KeptState}
use Rattle.cx_rules_session.specs.ClientRule.{opening_whole_client}
use Rattle.cx_rules_session.specs.cx_rules.specs.Holdings.{MonClient, holds_nothing, modes_of, no_view}
use Rattle.cx_rules_session.specs.cx_rules.specs.Monitor.{MonitorNode}
use Rattle.cx_rules_session.specs.cx_rules.specs.MonitorRule.{opening_monitor}
use Rattle.cx_rules_session.specs.DaemonRule.{DaemonState, opening_daemon}
use Rattle.cx_rules_session.specs.cx_session.specs.Book.{empty_book}
use Rattle.cx_rules_session.specs.cx_steps.specs.declared.seals.DrawMark.TheVariants as draw
use Rattle.cx_rules_session.specs.cx_steps.specs.declared.seals.Logged.{Logged}
use Rattle.cx_rules_session.specs.cx_steps.specs.declared.seals.SealEntry.TheVariants as seal
use Rattle.cx_run.specs.Happenings.{Entered, EntityNode, OfClient, OfDaemon, Nodes}
use Rattle.cx_run.specs.Worlds.{Post, World}

-- ---- what head lines say

-- an entity: which one it is of those that are declared, from 1; its line; its name and its caps; the seed of its dice, where one is told; and
-- the modes that it offers
pub record Declared : Type 0 where
  pub number : ℕ
  pub line : ℕ
  pub name : Name
  pub grants : List Grant
  pub seed : Option ℕ
  pub modes : Modes

-- a client that is leaked, and the line that says so
pub record Leak : Type 0 where
  pub line : ℕ
  pub client : Name

-- with what a run begins. What the head lines say: both lives in seconds, the entities, the seed of the monitor's dice, and the leaked clients; and for
-- which kinds of operation the daemons have handlers
pub record Setup : Type 0 where
  pub life : ℕ
  pub auth_life : ℕ
  pub entities : List Declared
  pub monitor_seed : ℕ
  pub leaks : List Leak
  pub handlers : Handlers

-- where nothing is said, and the daemons have these handlers
abbrev pub plain_setup : Handlers → Setup
plain_setup handlers = record { life = 3600; auth_life = 43200; entities = []; monitor_seed = 0; leaks = []; handlers = handlers }

-- the entity of a name is changed
abbrev pub changed : Name → (Declared → Declared) → Setup → Setup
changed name change setup = record setup { entities = map (λ e. if same_name e.name name then change e else e) setup.entities }

abbrev pub seeded : NodeName → ℕ → Setup → Setup
seeded node.Monitor seed setup = record setup { monitor_seed = seed }
seeded (node.Entity name) seed setup = changed name (λ e. record e { seed = Some seed }) setup

abbrev pub declared : ℕ → Name → List Grant → Setup → Setup
declared number name grants setup = record setup {
  entities = setup.entities ++ record { number = suc (length setup.entities); line = number; name = name; grants = grants; seed = None; modes = Both } ∷ [];
}

-- what a line with this number says
abbrev pub set_up_by : Setup → ℕ → Setting → Setup
set_up_by setup number (setting.Lifetime seconds) = record setup { life = seconds }
set_up_by setup number (setting.AuthLifetime seconds) = record setup { auth_life = seconds }
set_up_by setup number (setting.Entity name grants) = declared number name grants setup
set_up_by setup number (setting.Seed who seed) = seeded who seed setup
set_up_by setup number (setting.Modes name modes) = changed name (λ e. record e { modes = modes }) setup
set_up_by setup number (setting.Leak name) = record setup { leaks = setup.leaks ++ record { line = number; client = name } ∷ [] }

abbrev pub set_up_line : Setup → ℕ → Line → Setup
set_up_line setup number (line.Setting setting) = set_up_by setup number setting
set_up_line setup number _ = setup

abbrev pub set_up : Setup → List Numbered → Setup
set_up setup [] = setup
set_up setup (l ∷ lines) = set_up (set_up_line setup l.number l.line) lines

-- ---- the nodes

-- the secret of an entity: the first 16 bytes that the seed 2^63 and its number give
abbrev pub secret_of : Declared → List ℕ
secret_of e = take 16 (seed_draw (2 ^ 63 + e.number) 0)

-- an address on this machine: the monitor has nonce 0 and port 6789, an entity its number as nonce and port 0
abbrev pub local : ℕ → ℕ → Addr
local nonce port = record { nonce = nonce; ip = 127 ∷ 0 ∷ 0 ∷ 1 ∷ []; port = port }

-- the entity in the monitor's keyring
abbrev pub principal_of : Declared → Principal
principal_of e = record {
  name = e.name;
  key = record { created = record { secs = 0; nanos = 0 }; secret = secret_of e };
  caps = e.grants;
}

-- the state with which the monitor begins
abbrev pub first_state : Setup → KeptState
first_state setup = record {
  next_gid = 1;
  life = setup.life * 1000000000;
  auth_life = setup.auth_life * 1000000000;
  mds = [];
  osd = [];
  mgr = [];
  auth = [];
}

abbrev pub monitor_of : Setup → MonitorNode
monitor_of setup = opening_monitor (record { ring = map principal_of setup.entities; state = first_state setup }) (local 0 6789)

abbrev pub modes_in : Modes → List ℕ
modes_in Crc = modes_of true false
modes_in Secure = modes_of false true
modes_in Both = modes_of true true

-- the modes that an entity offers: a daemon the secure one alone
abbrev pub modes_offered : Declared → List ℕ
modes_offered e = if is_daemon_type e.name.kind then modes_of false true else modes_in e.modes

abbrev pub mon_client_of : Declared → MonClient
mon_client_of e = record {
  name = e.name;
  secret = secret_of e;
  address = local e.number 0;
  modes = modes_offered e;
  global_seq = 0;
  holdings = holds_nothing;
  view = no_view;
}

-- a daemon as it begins, which has no session
abbrev pub daemon_opening : MonClient → DaemonState
daemon_opening mon_client = record { node = opening_daemon mon_client; book = empty_book }

-- the node of an entity, by its type
abbrev pub entity_in : Declared → EntityNode
entity_in e = if is_daemon_type e.name.kind then OfDaemon (daemon_opening (mon_client_of e)) else OfClient (opening_whole_client (mon_client_of e))

abbrev pub nodes_of : Setup → Nodes
nodes_of setup = record { monitor = monitor_of setup; entities = map entity_in setup.entities; handlers = setup.handlers }

-- the seed of an entity's dice is its number, where none is told
abbrev pub post_for : Declared → Post
post_for e = record { node = node.Entity e.name; reading = 0; seed = unwrap_or e.seed e.number; rolled = 0 }

abbrev pub posts_of : Setup → List Post
posts_of setup = record { node = node.Monitor; reading = 0; seed = setup.monitor_seed; rolled = 0 } ∷ map post_for setup.entities

-- the world before anything happened
abbrev pub opening_world : Setup → World
opening_world setup = record { nodes = nodes_of setup; posts = posts_of setup; wires = []; left = None; line = 0; past = [] }

-- ---- what stands in journal and log before all events

-- each leaked client is entered
abbrev pub leaks_entered : Setup → List Entered
leaks_entered setup = map (λ leak. record { line = leak.line; reading = 0; entry = entry.Leaked leak.client }) setup.leaks

abbrev pub leaked_of : Setup → List Name
leaked_of setup = map (λ leak. leak.client) setup.leaks

-- the secret of an entity counts as drawn at its line
abbrev pub secret_drawn : Declared → Logged
secret_drawn e = record { node = node.Entity e.name; line = e.line; entry = seal.Drawn (draw.Principal (secret_of e) e.name) }

abbrev pub secrets_drawn : Setup → List Logged
secrets_drawn setup = map secret_drawn setup.entities
