-- The monitor's key server ("Cephx": the monitor keeps the keyring, the rotating secrets of the services, and the next global id).
use Rattle.std.specs.Prelude.{ℕ, Bool, ◌&&◌, ◌||◌, nat_lt, List, [], Result, Ok, Err, is_some, find, if◌then◌else◌}
use Rattle.cx_base.specs.declared.kinds.EntityType.{EntityType}
use Rattle.cx_base.specs.declared.kinds.EntityType.TheVariants.{Mon, Mds, Osd, Client, Mgr, Auth}
use Rattle.cx_base.specs.Names.{Name, is_daemon_type, same_kind}
use Rattle.cx_keyring.specs.declared.entries.Entry.{Entry}
use Rattle.cx_keyring.specs.Entries.{is_named}
use Rattle.cx_rotate.specs.declared.generations.Generation.{Generation}
use Rattle.cx_rotate.specs.declared.states.KeptState.{KeptState}
use Rattle.cx_rotate.specs.Rotation.{rotated, additions}
use Rattle.cx_dice.specs.Draws.{rotation_of}
use Rattle.cx_keyserver.specs.declared.refusals.NotADaemon.{NotADaemon}

-- a key server as contracts see it: the entities of the keyring, and the state that is to be kept
pub record Server : Type 0 where
  pub ring : List Entry
  pub state : KeptState

-- the generations of a service's secret; MON and CLIENT have none
abbrev pub generations_of : KeptState → EntityType → List Generation
generations_of state Mds = state.mds
generations_of state Osd = state.osd
generations_of state Mgr = state.mgr
generations_of state Auth = state.auth
generations_of state Mon = []
generations_of state Client = []

-- how long a service's secrets and tickets live
abbrev pub life_of : KeptState → EntityType → ℕ
life_of state service = if same_kind service Auth then state.auth_life else state.life

-- a service's generations, rotated at a reading with the keys of a draw
abbrev pub rotated_of : ℕ → List ℕ → KeptState → EntityType → List Generation
rotated_of now draw state service = rotated now (life_of state service) (rotation_of service draw) (generations_of state service)

-- the state with the generations of all four services rotated
abbrev pub rotated_state : ℕ → List ℕ → KeptState → KeptState
rotated_state now draw state = record {
  next_gid = state.next_gid;
  life = state.life;
  auth_life = state.auth_life;
  mds = rotated_of now draw state Mds;
  osd = rotated_of now draw state Osd;
  mgr = rotated_of now draw state Mgr;
  auth = rotated_of now draw state Auth;
}

abbrev pub rotated_server : ℕ → List ℕ → Server → Server
rotated_server now draw server = record { ring = server.ring; state = rotated_state now draw server.state }

-- whether a rotation adds a generation of a service
abbrev pub adds : ℕ → List ℕ → KeptState → EntityType → Bool
adds now draw state service = nat_lt 0 (additions now (life_of state service) (rotation_of service draw) (generations_of state service))

abbrev pub adds_any : ℕ → List ℕ → KeptState → Bool
adds_any now draw state = adds now draw state Mds || adds now draw state Osd || adds now draw state Mgr || adds now draw state Auth

-- the generations that an entity is told: those of its own type, where it is a daemon of the keyring
abbrev pub secrets_of : Server → Name → Result (List Generation) NotADaemon
secrets_of server name =
    if is_some (find (is_named name) server.ring) && is_daemon_type name.kind
    then Ok (generations_of server.state name.kind)
    else Err (record {})
