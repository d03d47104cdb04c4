-- The nodes of a run, as a schedule and a journal write them.
use Rattle.std.specs.Prelude.{ℕ, List, codes}
use Rattle.cx_base.specs.Names.{name_text}
use Rattle.cx_base.specs.declared.nodes.NodeName.{NodeName}
use Rattle.cx_base.specs.declared.nodes.NodeName.TheVariants as node

-- the text of a node: the monitor has none of an entity's
abbrev pub node_text : NodeName → List ℕ
node_text node.Monitor = codes "mon"
node_text (node.Entity name) = name_text name
