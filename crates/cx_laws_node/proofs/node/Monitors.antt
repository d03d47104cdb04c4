-- The monitor of a run does what it does alone.
use Rattle.std.proofs.Common.{◌≡◌, List, [], ◌∷◌, ◌++◌, Option, Some, None, refl, ap, ◌∙◌}
use Rattle.cx_base.specs.Names.{Name}
use Rattle.cx_base.specs.declared.nodes.NodeName.{NodeName}
use Rattle.cx_base.specs.declared.nodes.NodeName.TheVariants as node
use Rattle.cx_laws_node.specs.node.Alone.{given_at, given_if, monitor_alone, monitor_behind, monitor_outs, of_node}
use Rattle.cx_words.specs.declared.choices.LeftState.{LeftState}
use Rattle.cx_rotate.specs.declared.states.KeptState.{KeptState}
use Rattle.cx_laws_keys.specs.cx_rules.specs.Monitor.{MonitorNode}
use Rattle.cx_laws_keys.specs.cx_rules.specs.MonitorRule.{monitor_rule}
use Rattle.cx_laws_keys.specs.cx_rules.specs.Rows.{Outcome}
use Rattle.cx_run.specs.Happenings.{EntityNode, Happening, Nodes, entity_of, entity_steps, monitor_steps, nodes_behind, steps}
use Rattle.cx_run.specs.Wires.{same_node}
use Rattle.cx_steps.specs.declared.effects.Effects.{Effects}

-- a step of the monitor in the run is its step alone
state_alone : (nodes : Nodes) (o : Outcome MonitorNode) (left : Option LeftState) (save : Option KeptState) → (monitor_steps nodes o left save).nodes.monitor ≡ (monitor_alone o left save).state
state_alone nodes o (Some left) (Some saved) = refl
state_alone nodes o (Some left) None = refl
state_alone nodes o None save = refl

out_alone : (nodes : Nodes) (o : Outcome MonitorNode) (left : Option LeftState) (save : Option KeptState) → (monitor_steps nodes o left save).out ≡ (monitor_alone o left save).out
out_alone nodes o (Some left) (Some saved) = refl
out_alone nodes o (Some left) None = refl
out_alone nodes o None save = refl

-- an entity's step leaves the monitor as it is
other_steps : (nodes : Nodes) (h : Happening) (name : Name) (e : Option EntityNode) → (entity_steps nodes h name e).nodes.monitor ≡ nodes.monitor
other_steps nodes h name None = refl
other_steps nodes h name (Some e) = refl

-- an event that comes to this node
abbrev at : Happening → NodeName → Happening
at h who = record h { node = who }

-- by the node to which an event comes
behind_of : (nodes : Nodes) (h : Happening) (hs : List Happening) (who : NodeName)
    → monitor_behind (steps nodes (at h who)).nodes.monitor (of_node node.Monitor hs) ≡ monitor_behind nodes.monitor (of_node node.Monitor (at h who ∷ hs))
behind_of nodes h hs node.Monitor =
    let o : Outcome MonitorNode = monitor_rule nodes.monitor h.input h.reading h.draw in
    ap (λ (m : MonitorNode). monitor_behind m (of_node node.Monitor hs)) (state_alone nodes o h.left o.out.save)
behind_of nodes h hs (node.Entity name) =
    ap (λ (m : MonitorNode). monitor_behind m (of_node node.Monitor hs)) (other_steps nodes h name (entity_of name nodes))

pub monitor_is : (nodes : Nodes) (hs : List Happening) → (nodes_behind nodes hs).monitor ≡ monitor_behind nodes.monitor (of_node node.Monitor hs)
monitor_is nodes [] = refl
monitor_is nodes (h ∷ hs) = monitor_is (steps nodes h).nodes hs ∙ behind_of nodes h hs h.node

outs_of : (nodes : Nodes) (h : Happening) (hs : List Happening) (who : NodeName)
    → given_if (same_node who node.Monitor) (steps nodes (at h who)).out ++ monitor_outs (steps nodes (at h who)).nodes.monitor (of_node node.Monitor hs)
    ≡ monitor_outs nodes.monitor (of_node node.Monitor (at h who ∷ hs))
outs_of nodes h hs node.Monitor =
    let o : Outcome MonitorNode = monitor_rule nodes.monitor h.input h.reading h.draw in
    ap (λ (out : Effects). out ∷ monitor_outs (monitor_steps nodes o h.left o.out.save).nodes.monitor (of_node node.Monitor hs)) (out_alone nodes o h.left o.out.save)
    ∙ ap (λ (m : MonitorNode). (monitor_alone o h.left o.out.save).out ∷ monitor_outs m (of_node node.Monitor hs)) (state_alone nodes o h.left o.out.save)
outs_of nodes h hs (node.Entity name) =
    ap (λ (m : MonitorNode). monitor_outs m (of_node node.Monitor hs)) (other_steps nodes h name (entity_of name nodes))

pub monitor_gives : (nodes : Nodes) (hs : List Happening) → given_at node.Monitor nodes hs ≡ monitor_outs nodes.monitor (of_node node.Monitor hs)
monitor_gives nodes [] = refl
monitor_gives nodes (h ∷ hs) =
    ap (λ (outs : List Effects). given_if (same_node h.node node.Monitor) (steps nodes h).out ++ outs) (monitor_gives (steps nodes h).nodes hs)
    ∙ outs_of nodes h hs h.node
