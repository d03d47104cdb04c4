-- What came to a node on a link and is left to be taken. It bounds how often the node is turned.
use Rattle.std.specs.Prelude.{ℕ, List, [], Option, Some, None}
use Rattle.cx_base.specs.declared.nodes.NodeName.{NodeName}
use Rattle.cx_base.specs.declared.nodes.NodeName.TheVariants as node
use Rattle.cx_rules_session.specs.cx_rules.specs.Fronts.{ahead_of}
use Rattle.cx_rules_session.specs.cx_rules.specs.Links.{Link, link_of}
use Rattle.cx_run.specs.Happenings.{EntityNode, OfClient, OfDaemon, Nodes, entity_of}

-- the bytes that came on a link and weren't taken
abbrev pub untaken_on : {Stage : Type 0} → Option (Link Stage) → List ℕ
untaken_on None = []
untaken_on (Some link) = ahead_of link

abbrev pub untaken_to : ℕ → Option EntityNode → List ℕ
untaken_to number None = []
untaken_to number (Some (OfClient client)) = untaken_on (link_of number client.links)
untaken_to number (Some (OfDaemon daemon)) = untaken_on (link_of number daemon.node.links)

-- those of a link of a node; none where there is no such node or link
abbrev pub untaken_at : Nodes → ℕ → NodeName → List ℕ
untaken_at nodes number node.Monitor = untaken_on (link_of number nodes.monitor.links)
untaken_at nodes number (node.Entity name) = untaken_to number (entity_of name nodes)
