-- What happens to the nodes of a run, one event of one node at a time, and what comes of it by the rules.
use Rattle.std.specs.Prelude.{ℕ, Bool, true, false, List, [], ◌∷◌, ◌++◌, map, filter, find, Option, Some, None, if◌then◌else◌}
use Rattle.cx_base.specs.Names.{Name, same_name}
use Rattle.cx_rules_session.specs.cx_journal.specs.declared.entries.Entry.{Entry}
use Rattle.cx_base.specs.declared.nodes.NodeName.{NodeName}
use Rattle.cx_base.specs.declared.nodes.NodeName.TheVariants as node
use Rattle.cx_lines.specs.cx_words.specs.declared.choices.LeftState.{LeftState}
use Rattle.cx_lines.specs.cx_words.specs.declared.choices.LeftState.TheVariants as left
use Rattle.cx_rules_session.specs.cx_rotate.specs.declared.states.KeptState.{KeptState}
use Rattle.cx_rules_session.specs.cx_desk.specs.Handlers.{Handlers}
use Rattle.cx_rules_session.specs.cx_rules.specs.Holdings.{MonClient}
use Rattle.cx_rules_session.specs.cx_rules.specs.Inputs.{Input}
use Rattle.cx_rules_session.specs.cx_rules.specs.Monitor.{MonitorNode}
use Rattle.cx_rules_session.specs.cx_rules.specs.MonitorRule.{monitor_rule, unsaved}
use Rattle.cx_rules_session.specs.cx_rules.specs.Rows.{Outcome}
use Rattle.cx_rules_session.specs.ClientRule.{WholeClientNode, whole_client_rule}
use Rattle.cx_rules_session.specs.DaemonRule.{DaemonState, daemon_step}
use Rattle.cx_rules_session.specs.cx_steps.specs.Nothing.{nothing}
use Rattle.cx_rules_session.specs.cx_steps.specs.declared.effects.Effects.{Effects}
use Rattle.cx_rules_session.specs.cx_steps.specs.declared.seals.Logged.{Logged}
use Rattle.cx_rules_session.specs.cx_steps.specs.declared.seals.SealEntry.{SealEntry}
use Rattle.cx_rules_session.specs.cx_steps.specs.declared.seals.SealEntry.TheVariants as seal

-- one event: what comes to a node, at this reading of its clock, with this draw, by this line of the schedule; and which state a save of it
-- leaves, where a save is to fail
pub record Happening : Type 0 where
  pub node : NodeName
  pub input : Input
  pub reading : ℕ
  pub draw : List ℕ
  pub line : ℕ
  pub left : Option LeftState

-- the node of an entity: of a client, or of a daemon with its book of sessions
pub data EntityNode : Type 0 where
  OfClient : WholeClientNode → EntityNode
  OfDaemon : DaemonState → EntityNode

-- the nodes of a run: one monitor, and the entities; and for which kinds of operation the daemons have handlers
pub record Nodes : Type 0 where
  pub monitor : MonitorNode
  pub entities : List EntityNode
  pub handlers : Handlers

-- the nodes behind an event, its effects, and whether a save failed
pub record Stepped : Type 0 where
  pub nodes : Nodes
  pub out : Effects
  pub failed : Bool

-- ---- an entity

-- itself as one that asks the monitor
abbrev pub mon_client_in : EntityNode → MonClient
mon_client_in (OfClient client) = client.own.mon_client
mon_client_in (OfDaemon daemon) = daemon.node.own.mon_client

abbrev pub is_of : Name → EntityNode → Bool
is_of name entity = same_name (mon_client_in entity).name name

abbrev pub entity_of : Name → Nodes → Option EntityNode
entity_of name nodes = find (is_of name) nodes.entities

abbrev pub with_entity : Nodes → Name → EntityNode → Nodes
with_entity nodes name entity = record nodes { entities = map (λ e. if is_of name e then entity else e) nodes.entities }

-- what a node's step comes to, as that of an entity of its kind
abbrev pub outcome_of : {Kind : Type 0} → (Kind → EntityNode) → Outcome Kind → Outcome EntityNode
outcome_of kind o = record { state = kind o.state; out = o.out }

-- by the rule of its kind
abbrev pub entity_rule : Handlers → EntityNode → Input → ℕ → List ℕ → Outcome EntityNode
entity_rule handlers (OfClient client) input reading draw = outcome_of OfClient (whole_client_rule client input reading draw)
entity_rule handlers (OfDaemon daemon) input reading draw = outcome_of OfDaemon (daemon_step handlers daemon input reading draw)

-- nothing comes to an entity that isn't declared
abbrev pub entity_steps : Nodes → Happening → Name → Option EntityNode → Stepped
entity_steps nodes h name None = record { nodes = nodes; out = nothing; failed = false }
entity_steps nodes h name (Some entity) =
    let o = entity_rule nodes.handlers entity h.input h.reading h.draw in
    record { nodes = with_entity nodes name o.state; out = o.out; failed = false }

-- ---- the monitor

-- where a save fails, what was sealed and signed counts for nothing
abbrev pub stays : SealEntry → Bool
stays (seal.Sealed mark) = false
stays (seal.Signed mark) = false
stays (seal.Opened mark) = true
stays (seal.Checked mark) = true
stays (seal.Drawn mark) = true

-- nothing of a step whose save fails is sent, opened, shut or entered
abbrev pub failed_out : Effects → Effects
failed_out out = record nothing { seals = filter stays out.seals; turned = out.turned }

-- the state that was saved last, behind a save that failed: the one before it, or the new one
abbrev pub left_as : LeftState → MonitorNode → MonitorNode
left_as left.Old monitor = unsaved monitor
left_as left.New monitor = monitor

abbrev pub monitor_steps : Nodes → Outcome MonitorNode → Option LeftState → Option KeptState → Stepped
monitor_steps nodes o (Some left) (Some saved) =
    record { nodes = record nodes { monitor = left_as left o.state }; out = failed_out o.out; failed = true }
monitor_steps nodes o None saved = record { nodes = record nodes { monitor = o.state }; out = o.out; failed = false }
monitor_steps nodes o left None = record { nodes = record nodes { monitor = o.state }; out = o.out; failed = false }

-- ---- any node

abbrev pub steps_of : Nodes → Happening → NodeName → Stepped
steps_of nodes h node.Monitor = let o = monitor_rule nodes.monitor h.input h.reading h.draw in monitor_steps nodes o h.left o.out.save
steps_of nodes h (node.Entity name) = entity_steps nodes h name (entity_of name nodes)

-- what an event comes to
abbrev pub steps : Nodes → Happening → Stepped
steps nodes h = steps_of nodes h h.node

-- ---- journal and log of a list of events

-- an entry of a journal, and where it stands: the line, and the reading of the node
pub record Entered : Type 0 where
  pub line : ℕ
  pub reading : ℕ
  pub entry : Entry

abbrev pub entered_by : Happening → Effects → List Entered
entered_by h out = map (λ e. record { line = h.line; reading = h.reading; entry = e }) out.entries

abbrev pub logged_by : Happening → Effects → List Logged
logged_by h out = map (λ e. record { node = h.node; line = h.line; entry = e }) out.seals

-- the journal of these events, from these nodes on
abbrev pub journal_from : Nodes → List Happening → List Entered
journal_from nodes [] = []
journal_from nodes (h ∷ hs) = let s = steps nodes h in entered_by h s.out ++ journal_from s.nodes hs

-- what they log
abbrev pub seals_from : Nodes → List Happening → List Logged
seals_from nodes [] = []
seals_from nodes (h ∷ hs) = let s = steps nodes h in logged_by h s.out ++ seals_from s.nodes hs

-- the nodes behind them
abbrev pub nodes_behind : Nodes → List Happening → Nodes
nodes_behind nodes [] = nodes
nodes_behind nodes (h ∷ hs) = nodes_behind (steps nodes h).nodes hs
