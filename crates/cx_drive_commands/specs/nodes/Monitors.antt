-- The command that runs the monitor.
use Rattle.std.specs.Prelude.{ℕ, ◌*◌, ◌≡◌, ◌≤◌, ◌<◌, ◌⊎◌, List, [], map, vec_len, Option, None}
use Rattle.cx_base.specs.Names.{Name}
use Rattle.cx_command_line.specs.declared.commands.MonitorCommand.{MonitorCommand}
use Rattle.cx_drive.specs.declared.flow.Order.{Order}
use Rattle.cx_drive.specs.Held.{lost_monitor, no_peers, regard_monitor}
use Rattle.cx_drive_commands.specs.nodes.Orders.{order_of}
use Rattle.cx_journal.specs.declared.entries.Entry.{Entry as JournalEntry}
use Rattle.cx_keep.specs.Slots.{Kept}
use Rattle.cx_keyserver.specs.Servers.{Server}
use Rattle.cx_outside.specs.linking.Acts.{LinkAct}
use Rattle.cx_loading.specs.Loading.{HasRing, HasState, IsRingEnd, IsStateEnd, TellsNoState, TellsRing, TellsRingReason, TellsState}
use Rattle.cx_loading.specs.Scripts.{IsScript, IsScriptEnd, IsScriptReason, IsServed as IsServedScript}
use Rattle.cx_loading.specs.declared.ends.NodeEnd.{NodeEnd}
use Rattle.cx_loading.specs.declared.ends.NodeEnd.TheVariants as end
use Rattle.cx_loading.specs.declared.unloaded.Unloaded.{Unloaded}
use Rattle.cx_rules.specs.Abridged.{MonitorStandsFor}
use Rattle.cx_rules.specs.Monitor.{MonitorNode}
use Rattle.cx_rules.specs.MonitorRule.{is_idle, monitor_rule, opening_monitor}
use Rattle.cx_schedule.specs.NodeLines.{node_names}
use Rattle.cx_schedule.specs.declared.node_lines.NodeLine.{NodeLine}
use Rattle.cx_schedule.specs.declared.node_names.NodeNames.{NodeNames}
use Rattle.cx_drive_commands.specs.nodes.Outside.{Outside}
use Rattle.cx_drive_commands.specs.nodes.Runs.{Listens}
use Rattle.cx_drive_commands.specs.declared.hosting.Ready.{Ready}

-- its lifetimes are from a second to a year
pub record IsMonitorCommand (command : MonitorCommand) : Type 0 where
  pub life : 1 ≤ command.life
  pub life_most : command.life ≤ 31536000
  pub auth_life : 1 ≤ command.auth_life
  pub auth_life_most : command.auth_life ≤ 31536000

-- both, in nanoseconds
abbrev pub lives_of : MonitorCommand → ℕ × ℕ
lives_of command = (command.life * 1000000000, command.auth_life * 1000000000)

-- the monitor has no name in its script
abbrev pub nobody : Option NodeNames
nobody = let name : Option Name = None in node_names name []

-- the key server of what is kept
pub record HasServer (command : MonitorCommand) (kept : Option Kept) (server : Server) : Type 0 where
  pub ring : HasRing kept server.ring
  pub state : HasState (lives_of command) kept server.state

-- what it begins with: its script, as orders, and its key server
pub record MonitorLoad (command : MonitorCommand) (bytes : List ℕ) (kept : Option Kept) (orders : List Order) (server : Server) : Type 0 where
  pub script : List NodeLine
  pub is_script : IsScript nobody bytes script
  pub told : orders ≡ map order_of script
  pub is_server : HasServer command kept server

-- why there is no key server
abbrev pub IsServerRefusal : MonitorCommand → Option Kept → ℕ → ℕ → Unloaded → Type 0
IsServerRefusal command kept before now why = IsRingEnd kept before now why ⊎ IsStateEnd (lives_of command) kept before now why

-- why it doesn't run
abbrev pub IsMonitorRefusal : MonitorCommand → List ℕ → Option Kept → ℕ → ℕ → Unloaded → Type 0
IsMonitorRefusal command bytes kept before now why =
    IsScriptEnd nobody bytes why ⊎ IsServerRefusal command kept before now why

-- what it needs is there
pub record IsMonitorServed (command : MonitorCommand) (bytes : List ℕ) (kept : Option Kept) : Type 0 where
  pub script : IsServedScript nobody bytes
  pub ring : TellsRing kept
  pub state : TellsState (lives_of command) kept

-- why it must not run: the first of its script, its keyring and its state that is none
abbrev pub IsMonitorReason : MonitorCommand → List ℕ → Option Kept → Unloaded → Type 0
IsMonitorReason command bytes kept why =
    IsScriptReason nobody bytes why ⊎ (IsServedScript nobody bytes × TellsRingReason kept why)

-- what is kept as its state is none
pub record HasNoState (command : MonitorCommand) (bytes : List ℕ) (kept : Option Kept) : Type 0 where
  pub script : IsServedScript nobody bytes
  pub ring : TellsRing kept
  pub state : TellsNoState (lives_of command) kept

-- a monitor that may run, with what it begins with, and room for what comes on its links
pub record IsMonitorReady (command : MonitorCommand) (bytes : List ℕ) (kept : Option Kept) (ready : Ready MonitorNode) : Type 0 where
  pub server : Server
  pub load : MonitorLoad command bytes kept ready.orders server
  pub node : ready.node ≡ opening_monitor server command.listen
  pub stands : MonitorStandsFor ready.node ready.node
  pub peers : ready.peers ≡ no_peers
  pub events : ready.events ≡ command.events
  pub room : 0 < vec_len ready.room

module _ {L : Type 0} (follows : L → L → List LinkAct → Type 0) (command : MonitorCommand) (bytes : List ℕ) (a b : Outside L) where
  -- from what it begins with it ran as its rule has it, once it listened
  pub record MonitorRan (ending : NodeEnd) (entries : List JournalEntry) : Type 0 where
    pub orders : List Order
    pub server : Server
    pub load : MonitorLoad command bytes a.kept orders server
    pub listens : Listens follows monitor_rule lost_monitor is_idle regard_monitor no_peers command.listen a b (opening_monitor server command.listen) orders command.events ending entries

  -- how the command ends, and what was entered
  abbrev pub MonitorEnds : NodeEnd → List JournalEntry → Type 0
  MonitorEnds (end.Unloaded why) entries = (entries ≡ []) × IsMonitorRefusal command bytes a.kept a.keeper_faults b.keeper_faults why
  MonitorEnds ending entries = MonitorRan ending entries
