-- The nodes of a run.
use Rattle.std.specs.Prelude.{Bool, false}
use Rattle.cx_base.specs.Names.{Name, same_name}
use Rattle.cx_base.specs.declared.nodes.NodeName.{NodeName}
use Rattle.cx_base.specs.declared.nodes.NodeName.TheVariants as node

-- whether the node is that of this entity
abbrev pub is_node_of : Name → NodeName → Bool
is_node_of name node.Monitor = false
is_node_of name (node.Entity other) = same_name other name
