-- Links that open and that vanish.
use Rattle.std.specs.Prelude.{suc, length, filter, Option, Some, None, if◌then◌else◌}
use Rattle.cx_base.specs.declared.nodes.NodeName.{NodeName}
use Rattle.cx_world_start.specs.cx_run.specs.Deliveries.{far_side, opens, vanish}
use Rattle.cx_world_start.specs.cx_run.specs.Wires.{Wire, ended, has_end, new_wire, with_wire}
use Rattle.cx_world_start.specs.cx_run.specs.Worlds.{World, node_of}
use Rattle.cx_steps.specs.declared.events.Peer.{Peer}
use Rattle.cx_world.specs.Ends.{end_seen, tells_end}
use Rattle.cx_world.specs.declared.ends.LinkEnd.{LinkEnd}

-- a node opens a link, which gets the next number
abbrev pub opens_to : NodeName → World → Peer → World
opens_to who w to = opens w (new_wire (suc (length w.wires)) who (node_of to)) to

-- all links of a node vanish
abbrev pub vanished : NodeName → World → World
vanished who w = vanish who w (filter (has_end who) w.wires)

-- the other end of a link, where it is one of the node
abbrev pub far_seen : NodeName → Option Wire → Option LinkEnd
far_seen who None = None
far_seen who (Some wire) = if has_end who wire then Some (end_seen wire (far_side who wire)) else None

-- a link vanishes, where it is one of the node, and its other end is told
abbrev pub vanished_at : NodeName → Option Wire → World → World
vanished_at who None w = w
vanished_at who (Some wire) w =
    if has_end who wire then tells_end (record w { wires = with_wire w.wires (ended wire) }) (end_seen wire (far_side who wire)) else w
