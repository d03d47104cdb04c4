-- How a node ran: the clauses of `run_monitor`, `run_client` and `run_daemon` of cx_drive_commands, each as one.
use Rattle.std.specs.Prelude.{ℕ, ◌≡◌, List, [], Some}
use Rattle.cx_base.specs.Streams.{Rose}
use Rattle.cx_drive_commands.specs.daemon.Daemons.{DaemonEnds}
use Rattle.cx_drive_commands.specs.nodes.Clients.{ClientEnds, client_peers}
use Rattle.cx_drive_commands.specs.nodes.Monitors.{HasNoState, IsMonitorReason, IsMonitorServed, MonitorEnds}
use Rattle.cx_drive_commands.specs.nodes.Named.{IsNamedReason, IsNamedServed}
use Rattle.cx_drive_commands.specs.nodes.Outside.{Outside}
use Rattle.cx_drive_commands.specs.nodes.Runs.{HasCause, IsFaultless, IsRefusedFor, IsServed, IsStateless}
use Rattle.cx_drive_commands.specs.nodes.Stops.{IsStopped}
use Rattle.cx_command_line.specs.Commands.{AskedClient, AskedDaemon}
use Rattle.cx_command_line.specs.declared.commands.MonitorCommand.{MonitorCommand}
use Rattle.cx_desk.specs.Handlers.{Handlers}
use Rattle.cx_journal.specs.declared.entries.Entry.{Entry}
use Rattle.cx_keep.specs.Slots.{Kept}
use Rattle.cx_outside.specs.linking.Acts.{LinkAct}
use Rattle.cx_loading.specs.declared.ends.NodeEnd.{NodeEnd}
use Rattle.cx_loading.specs.declared.ends.NodeEnd.TheVariants as end
use Rattle.cx_loading.specs.declared.unloaded.Unloaded.{Unloaded}
use Rattle.cx_commands.specs.Lent.{Lent}

module _ {K L C D : Type 0} (follows : L → L → List LinkAct → Type 0) (v w : Lent K L C D) (a b : Outside L) where
  -- nothing was done but to load
  abbrev pub OnlyLoaded : Type 0
  OnlyLoaded = (b.kept ≡ a.kept) × (w.links ≡ v.links) × (w.clock ≡ v.clock) × (w.dice ≡ v.dice)

  -- the monitor
  pub record MonitorRun (command : MonitorCommand) (bytes : List ℕ) (ending : NodeEnd) (entries : List Entry) : Type 0 where
    pub ends : MonitorEnds follows command bytes a b ending entries
    pub cause : HasCause a b ending
    pub complete : IsMonitorServed command bytes a.kept → IsFaultless a b → IsServed ending
    pub exact : (why : Unloaded) → IsMonitorReason command bytes a.kept why → ¬ Rose a.keeper_faults b.keeper_faults → IsRefusedFor why ending
    pub stateless : HasNoState command bytes a.kept → ¬ Rose a.keeper_faults b.keeper_faults → IsStateless ending
    pub stopped : (kept : Kept) → a.kept ≡ Some kept → ending ≡ end.Keeper → IsStopped follows command bytes a b kept entries
    pub untouched : (why : Unloaded) → ending ≡ end.Unloaded why → OnlyLoaded

  -- a daemon, whose operations are served by these handlers
  pub record DaemonRun (handlers : Handlers) (asked : AskedDaemon) (bytes : List ℕ) (ending : NodeEnd) (entries : List Entry) : Type 0 where
    pub ends : DaemonEnds follows handlers asked bytes a b ending entries
    pub cause : HasCause a b ending
    pub complete : IsNamedServed asked.name [] bytes a.kept → IsFaultless a b → IsServed ending
    pub exact : (why : Unloaded) → IsNamedReason asked.name [] bytes a.kept why → ¬ Rose a.keeper_faults b.keeper_faults → IsRefusedFor why ending
    pub untouched : (why : Unloaded) → ending ≡ end.Unloaded why → OnlyLoaded

  -- a client
  pub record ClientRun (asked : AskedClient) (bytes : List ℕ) (ending : NodeEnd) (entries : List Entry) : Type 0 where
    pub ends : ClientEnds follows asked bytes a b ending entries
    pub cause : HasCause a b ending
    pub complete : IsNamedServed asked.name (client_peers asked) bytes a.kept → IsFaultless a b → IsServed ending
    pub exact : (why : Unloaded) → IsNamedReason asked.name (client_peers asked) bytes a.kept why → ¬ Rose a.keeper_faults b.keeper_faults → IsRefusedFor why ending
    pub untouched : (why : Unloaded) → ending ≡ end.Unloaded why → OnlyLoaded
