-- The command that runs a daemon.
use Rattle.std.specs.Prelude.{ℕ, ◌≡◌, ◌<◌, true, false, List, [], vec_len, Option, Some}
use Rattle.cx_base.specs.Names.{Name}
use Rattle.cx_base.specs.declared.addresses.Addr.{Addr}
use Rattle.cx_drive_commands.specs.daemon.Held.{lost_daemon, regard_daemon, rests_daemon}
use Rattle.cx_command_line.specs.Commands.{AskedDaemon}
use Rattle.cx_drive_commands.specs.nodes.Driving.{Order, Peers}
use Rattle.cx_drive_commands.specs.nodes.Named.{IsNamedRefusal, NamedLoad}
use Rattle.cx_drive_commands.specs.nodes.Outside.{Outside}
use Rattle.cx_drive_commands.specs.nodes.Runs.{Listens}
use Rattle.cx_drive_commands.specs.declared.hosting.Ready.{Ready}
use Rattle.cx_daemon.specs.cx_daemon_events.specs.Machine.{opening_mon_client, opening_state}
use Rattle.cx_desk.specs.Handlers.{Handlers}
use Rattle.cx_enc.specs.declared.keys.Key.{Key}
use Rattle.cx_holdings.specs.declared.offers.OfferedModes.{OfferedModes}
use Rattle.cx_journal.specs.declared.entries.Entry.{Entry as JournalEntry}
use Rattle.cx_keep.specs.Slots.{Kept}
use Rattle.cx_outside.specs.linking.Acts.{LinkAct}
use Rattle.cx_loading.specs.declared.ends.NodeEnd.{NodeEnd}
use Rattle.cx_loading.specs.declared.ends.NodeEnd.TheVariants as end
use Rattle.cx_rules_session.specs.DaemonRule.{DaemonState, daemon_step}
use Rattle.cx_rules_session.specs.Forgets.{DaemonStandsFor}

-- it knows the monitor alone
abbrev pub monitor_at : Addr → Peers
monitor_at at = record { monitor = Some at; daemons = [] }

-- it offers the secure mode alone
abbrev pub secure_mode : OfferedModes
secure_mode = record { crc = false; secure = true }

abbrev pub daemon_with : Name → Key → Addr → DaemonState
daemon_with name key at = opening_state (opening_mon_client name key secure_mode at)

-- a daemon that may run, with what it begins with, and room for what comes on its links
pub record IsDaemonReady (asked : AskedDaemon) (bytes : List ℕ) (kept : Option Kept) (ready : Ready DaemonState) : Type 0 where
  pub key : Key
  pub load : NamedLoad asked.name [] bytes kept ready.orders key
  pub node : ready.node ≡ daemon_with asked.name key asked.listen
  pub stands : DaemonStandsFor ready.node ready.node
  pub peers : ready.peers ≡ monitor_at asked.monitor
  pub events : ready.events ≡ asked.events
  pub room : 0 < vec_len ready.room

module _ {L : Type 0} (follows : L → L → List LinkAct → Type 0) (handlers : Handlers) (asked : AskedDaemon) (bytes : List ℕ) (a b : Outside L) where
  -- from what it begins with it ran as its rule has it, once it listened; the operations that were allowed were served by these handlers
  pub record DaemonRan (ending : NodeEnd) (entries : List JournalEntry) : Type 0 where
    pub orders : List Order
    pub key : Key
    pub load : NamedLoad asked.name [] bytes a.kept orders key
    pub listens : Listens follows (daemon_step handlers) lost_daemon rests_daemon regard_daemon (monitor_at asked.monitor) asked.listen a b
        (daemon_with asked.name key asked.listen) orders asked.events ending entries

  -- how the command ends, and what was entered
  abbrev pub DaemonEnds : NodeEnd → List JournalEntry → Type 0
  DaemonEnds (end.Unloaded why) entries = (entries ≡ []) × IsNamedRefusal asked.name [] bytes a.kept a.keeper_faults b.keeper_faults why
  DaemonEnds ending entries = DaemonRan ending entries
