-- How a command ends that runs a node.
use Rattle.std.proofs.Common.{ℕ, ◌≡◌, ◌⊎◌, List, Option, Some, None, inl, inr, sym, ◌∙◌, subst}
use Rattle.cx_base.specs.Names.{Name}
use Rattle.cx_drive_commands.specs.nodes.Outside.{Outside}
use Rattle.cx_command_line.specs.Commands.{AskedClient, AskedDaemon, Client, Daemon, Monitor}
use Rattle.cx_command_line.specs.declared.commands.MonitorCommand.{MonitorCommand}
use Rattle.cx_desk.specs.Handlers.{Handlers}
use Rattle.cx_journal.specs.declared.entries.Entry.{Entry}
use Rattle.cx_outside.specs.linking.Acts.{LinkAct}
use Rattle.cx_loading.specs.declared.ends.NodeEnd.{NodeEnd}
use Rattle.cx_loading.specs.declared.ends.NodeEnd.TheVariants as end
use Rattle.cx_help.specs.declared.scripts.NodeKind.{NodeKind}
use Rattle.cx_help.specs.declared.scripts.NodeKind.TheVariants as kind
use Rattle.cx_top.specs.declared.status.Status.TheVariants.{OutOfMemory, Usage, WriteFault}
use Rattle.cx_commands.specs.Lent.{Lent, Streams}
use Rattle.cx_commands.specs.NodeRuns.{ClientRun, DaemonRun, MonitorRun}
use Rattle.cx_commands.specs.Nodes.{HasNotRun, HasRun, IsAnswered, IsUnreadStatus, NodeAnswers, unwritten}
use Rattle.cx_commands.specs.declared.ends.CommandEnd.{CommandEnd}
use Rattle.cx_commands.specs.declared.ends.CommandStatus.{CommandStatus}
use Rattle.cx_commands.specs.declared.ends.CommandStatus.TheVariants.{Node, Text}

-- ---- that it isn't as of wrong words

unwritten_is_none : (ending : NodeEnd) → unwritten ending ≡ Text Usage → ⊥
unwritten_is_none end.Done is = let no : Text WriteFault ≡ Text Usage = is in cc
unwritten_is_none end.Links is = let no : Node end.Links ≡ Text Usage = is in cc
unwritten_is_none end.Dice is = let no : Node end.Dice ≡ Text Usage = is in cc
unwritten_is_none end.Keeper is = let no : Node end.Keeper ≡ Text Usage = is in cc
unwritten_is_none end.OutOfMemory is = let no : Node end.OutOfMemory ≡ Text Usage = is in cc
unwritten_is_none (end.Unloaded why) is = let no : Node (end.Unloaded why) ≡ Text Usage = is in cc

answered_is_none : {O : Type 0} (ending : NodeEnd) (entries : List Entry) (taken after : Option (List ℕ)) (misses missed : ℕ) (out written : O) (status : CommandStatus)
    → IsAnswered ending entries taken after misses missed out written status → status ≡ Text Usage → ⊥
answered_is_none ending entries taken after misses missed out written status (inl all) usage = let no : Node ending ≡ Text Usage = sym all.0 ∙ usage in cc
answered_is_none ending entries taken after misses missed out written status (inr (inl front)) usage = unwritten_is_none ending (sym front.0 ∙ usage)
answered_is_none ending entries taken after misses missed out written status (inr (inr none)) usage = let no : Text OutOfMemory ≡ Text Usage = sym none.0 ∙ usage in cc

module _ {I O K L C D : Type 0} (kind : NodeKind) (name : Option Name) (Ran : List ℕ → NodeEnd → List Entry → Type 0) (a b : Streams I O) (v w : Lent K L C D) (result : CommandEnd) where
  ends_is_none : (run : HasRun kind name Ran a b v w result ⊎ HasNotRun kind name Ran a b v w result) → result.status ≡ Text Usage → ⊥
  ends_is_none (inl ran) usage = answered_is_none ran.ending ran.entries a.taken b.taken a.misses b.misses a.out b.out result.status ran.answers usage
  ends_is_none (inr unrun) usage = subst (λ (s : CommandStatus). IsUnreadStatus a.left b.left a.faults b.faults s) usage unrun.why

  pub node_is_none : NodeAnswers kind name Ran a b v w result → result.status ≡ Text Usage → ⊥
  node_is_none answers usage = ends_is_none answers usage

-- ---- the command that ran is the one that was asked for

module _ {I O K L C D : Type 0} (follows : L → L → List LinkAct → Type 0) (v w : Lent K L C D) (p q : Outside L) (a b : Streams I O) (result : CommandEnd) where
  pub monitor_ended : (ran command : MonitorCommand) → Monitor ran ≡ Monitor command → NodeAnswers kind.Monitor None (MonitorRun follows v w p q ran) a b v w result
      → NodeAnswers kind.Monitor None (MonitorRun follows v w p q command) a b v w result
  monitor_ended ran command is ended =
      let same : ran ≡ command = cc in subst (λ (c : MonitorCommand). NodeAnswers kind.Monitor None (MonitorRun follows v w p q c) a b v w result) same ended

  pub daemon_ended : (handlers : Handlers) (ran command : AskedDaemon) → Daemon ran ≡ Daemon command → NodeAnswers kind.Daemon (Some ran.name) (DaemonRun follows v w p q handlers ran) a b v w result
      → NodeAnswers kind.Daemon (Some command.name) (DaemonRun follows v w p q handlers command) a b v w result
  daemon_ended handlers ran command is ended =
      let same : ran ≡ command = cc in subst (λ (c : AskedDaemon). NodeAnswers kind.Daemon (Some c.name) (DaemonRun follows v w p q handlers c) a b v w result) same ended

  pub client_ended : (ran command : AskedClient) → Client ran ≡ Client command → NodeAnswers kind.Client (Some ran.name) (ClientRun follows v w p q ran) a b v w result
      → NodeAnswers kind.Client (Some command.name) (ClientRun follows v w p q command) a b v w result
  client_ended ran command is ended =
      let same : ran ≡ command = cc in subst (λ (c : AskedClient). NodeAnswers kind.Client (Some c.name) (ClientRun follows v w p q c) a b v w result) same ended
