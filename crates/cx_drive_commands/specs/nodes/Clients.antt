-- The command that runs a client.
use Rattle.std.specs.Prelude.{ℕ, ◌≡◌, ◌<◌, true, List, [], ◌∷◌, map, vec_len, Option, Some, None}
use Rattle.std.specs.List.{flat_map}
use Rattle.cx_base.specs.Names.{Name}
use Rattle.cx_base.specs.declared.addresses.Addr.{Addr}
use Rattle.cx_drive.specs.Held.{lost_client, opening_mon_client, regard_client}
use Rattle.cx_command_line.specs.Commands.{AskedClient}
use Rattle.cx_command_line.specs.Words.{Word, peer}
use Rattle.cx_drive.specs.declared.flow.Order.{Order}
use Rattle.cx_drive.specs.declared.peers.DaemonAt.{DaemonAt}
use Rattle.cx_drive.specs.declared.peers.Peers.{Peers}
use Rattle.cx_enc.specs.declared.keys.Key.{Key}
use Rattle.cx_holdings.specs.declared.offers.OfferedModes.{OfferedModes}
use Rattle.cx_journal.specs.declared.entries.Entry.{Entry as JournalEntry}
use Rattle.cx_keep.specs.Slots.{Kept}
use Rattle.cx_outside.specs.linking.Acts.{LinkAct}
use Rattle.cx_loading.specs.declared.ends.NodeEnd.{NodeEnd}
use Rattle.cx_loading.specs.declared.ends.NodeEnd.TheVariants as end
use Rattle.cx_rules_session.specs.Forgets.{WholeClientStandsFor}
use Rattle.cx_rules_session.specs.ClientRule.{WholeClientNode, is_idle, opening_whole_client, whole_client_rule}
use Rattle.cx_drive_commands.specs.nodes.Named.{IsNamedRefusal, NamedLoad}
use Rattle.cx_drive_commands.specs.nodes.Outside.{Outside}
use Rattle.cx_drive_commands.specs.nodes.Runs.{Runs}
use Rattle.cx_drive_commands.specs.declared.hosting.Ready.{Ready}

-- ---- its peers

abbrev pub at_peer : Option (Name × Addr) → List DaemonAt
at_peer None = []
at_peer (Some p) = record { name = p.0; at = p.1 } ∷ []

-- the daemons that its words spell, with their addresses
abbrev pub daemons_of : List Word → List DaemonAt
daemons_of words = flat_map (λ word. at_peer (peer word)) words

-- their names, which its script may have
abbrev pub names_of : List DaemonAt → List Name
names_of daemons = map (λ daemon. daemon.name) daemons

abbrev pub client_peers : AskedClient → List Name
client_peers asked = names_of (daemons_of asked.peers)

abbrev pub peers_of : AskedClient → Peers
peers_of asked = record { monitor = Some asked.monitor; daemons = daemons_of asked.peers }

-- ---- how it begins

-- it offers both modes, the CRC one first, and has no address of its own, since it doesn't listen
abbrev pub both_modes : OfferedModes
both_modes = record { crc = true; secure = true }

abbrev pub nowhere : Addr
nowhere = record { nonce = 0; ip = 0 ∷ 0 ∷ 0 ∷ 0 ∷ []; port = 0 }

abbrev pub client_with : Name → Key → WholeClientNode
client_with name key = opening_whole_client (opening_mon_client name key both_modes nowhere)

-- a client that may run, with what it begins with, and room for what comes on its links
pub record IsClientReady (asked : AskedClient) (bytes : List ℕ) (kept : Option Kept) (ready : Ready WholeClientNode) : Type 0 where
  pub key : Key
  pub load : NamedLoad asked.name (client_peers asked) bytes kept ready.orders key
  pub node : ready.node ≡ client_with asked.name key
  pub stands : WholeClientStandsFor ready.node ready.node
  pub peers : ready.peers ≡ peers_of asked
  pub events : ready.events ≡ asked.events
  pub room : 0 < vec_len ready.room

module _ {L : Type 0} (follows : L → L → List LinkAct → Type 0) (asked : AskedClient) (bytes : List ℕ) (a b : Outside L) where
  -- from what it begins with it ran as its rule has it
  pub record ClientRan (ending : NodeEnd) (entries : List JournalEntry) : Type 0 where
    pub orders : List Order
    pub key : Key
    pub load : NamedLoad asked.name (client_peers asked) bytes a.kept orders key
    pub runs : Runs follows whole_client_rule lost_client is_idle regard_client (peers_of asked) [] a b (client_with asked.name key) orders asked.events ending entries

  -- how the command ends, and what was entered
  abbrev pub ClientEnds : NodeEnd → List JournalEntry → Type 0
  ClientEnds (end.Unloaded why) entries =
      (entries ≡ []) × IsNamedRefusal asked.name (client_peers asked) bytes a.kept a.keeper_faults b.keeper_faults why
  ClientEnds ending entries = ClientRan ending entries
