-- A node of a run alone: what its rule gives on what comes to it.
use Rattle.std.specs.Prelude.{List, [], ◌∷◌, ◌++◌, filter, Bool, true, false, Option, Some, None}
use Rattle.cx_base.specs.declared.nodes.NodeName.{NodeName}
use Rattle.cx_words.specs.declared.choices.LeftState.{LeftState}
use Rattle.cx_rotate.specs.declared.states.KeptState.{KeptState}
use Rattle.cx_desk.specs.Handlers.{Handlers}
use Rattle.cx_run.specs.cx_rules_session.specs.ClientRule.{WholeClientNode, whole_client_rule}
use Rattle.cx_laws_keys.specs.cx_rules.specs.Monitor.{MonitorNode}
use Rattle.cx_laws_keys.specs.cx_rules.specs.MonitorRule.{monitor_rule}
use Rattle.cx_laws_keys.specs.cx_rules.specs.Rows.{Outcome}
use Rattle.cx_run.specs.cx_rules_session.specs.DaemonRule.{DaemonState, daemon_step}
use Rattle.cx_run.specs.Happenings.{EntityNode, Happening, Nodes, entity_rule, failed_out, left_as, steps}
use Rattle.cx_run.specs.Wires.{same_node}
use Rattle.cx_steps.specs.Nothing.{nothing}
use Rattle.cx_steps.specs.declared.effects.Effects.{Effects}

-- what comes to this node, in order
abbrev pub of_node : NodeName → List Happening → List Happening
of_node who hs = filter (λ h. same_node h.node who) hs

-- ---- in the run

-- what an event gives, where it comes to this node
abbrev pub given_if : Bool → Effects → List Effects
given_if true out = out ∷ []
given_if false out = []

-- what this node gives, event by event
abbrev pub given_at : NodeName → Nodes → List Happening → List Effects
given_at who nodes [] = []
given_at who nodes (h ∷ hs) = given_if (same_node h.node who) (steps nodes h).out ++ given_at who (steps nodes h).nodes hs

-- ---- the monitor alone

-- where a save is to fail, and the step saves
abbrev pub monitor_alone : Outcome MonitorNode → Option LeftState → Option KeptState → Outcome MonitorNode
monitor_alone o (Some left) (Some saved) = record { state = left_as left o.state; out = failed_out o.out }
monitor_alone o None saved = o
monitor_alone o left None = o

abbrev pub monitor_steps_alone : MonitorNode → Happening → Outcome MonitorNode
monitor_steps_alone m h = let o = monitor_rule m h.input h.reading h.draw in monitor_alone o h.left o.out.save

abbrev pub monitor_behind : MonitorNode → List Happening → MonitorNode
monitor_behind m [] = m
monitor_behind m (h ∷ hs) = monitor_behind (monitor_steps_alone m h).state hs

abbrev pub monitor_outs : MonitorNode → List Happening → List Effects
monitor_outs m [] = []
monitor_outs m (h ∷ hs) = (monitor_steps_alone m h).out ∷ monitor_outs (monitor_steps_alone m h).state hs

-- ---- an entity alone

abbrev pub entity_steps_alone : Handlers → EntityNode → Happening → Outcome EntityNode
entity_steps_alone handlers entity h = entity_rule handlers entity h.input h.reading h.draw

abbrev pub entity_behind : Handlers → EntityNode → List Happening → EntityNode
entity_behind handlers entity [] = entity
entity_behind handlers entity (h ∷ hs) = entity_behind handlers (entity_steps_alone handlers entity h).state hs

-- one that isn't declared gives nothing
abbrev pub entity_outs : Handlers → Option EntityNode → List Happening → List Effects
entity_outs handlers entity [] = []
entity_outs handlers None (h ∷ hs) = nothing ∷ entity_outs handlers None hs
entity_outs handlers (Some entity) (h ∷ hs) =
    (entity_steps_alone handlers entity h).out ∷ entity_outs handlers (Some (entity_steps_alone handlers entity h).state) hs

-- ---- a client alone

abbrev pub client_steps_alone : WholeClientNode → Happening → Outcome WholeClientNode
client_steps_alone c h = whole_client_rule c h.input h.reading h.draw

abbrev pub client_behind : WholeClientNode → List Happening → WholeClientNode
client_behind c [] = c
client_behind c (h ∷ hs) = client_behind (client_steps_alone c h).state hs

abbrev pub client_outs : WholeClientNode → List Happening → List Effects
client_outs c [] = []
client_outs c (h ∷ hs) = (client_steps_alone c h).out ∷ client_outs (client_steps_alone c h).state hs

-- ---- a daemon alone, with its book of sessions

abbrev pub daemon_steps_alone : Handlers → DaemonState → Happening → Outcome DaemonState
daemon_steps_alone handlers d h = daemon_step handlers d h.input h.reading h.draw

abbrev pub daemon_behind : Handlers → DaemonState → List Happening → DaemonState
daemon_behind handlers d [] = d
daemon_behind handlers d (h ∷ hs) = daemon_behind handlers (daemon_steps_alone handlers d h).state hs

abbrev pub daemon_outs : Handlers → DaemonState → List Happening → List Effects
daemon_outs handlers d [] = []
daemon_outs handlers d (h ∷ hs) = (daemon_steps_alone handlers d h).out ∷ daemon_outs handlers (daemon_steps_alone handlers d h).state hs
