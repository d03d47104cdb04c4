-- The end of a link, as it is told of what comes.
use Rattle.std.specs.Prelude.{ℕ, List, if◌then◌else◌}
use Rattle.cx_base.specs.declared.nodes.NodeName.{NodeName}
use Rattle.cx_words.specs.declared.choices.Side.{Side}
use Rattle.cx_world_start.specs.cx_rules.specs.Inputs.{Gone}
use Rattle.cx_world_start.specs.cx_run.specs.Deliveries.{arrives, tells}
use Rattle.cx_world_start.specs.cx_run.specs.Wires.{Wire, end_of, node_at}
use Rattle.cx_world_start.specs.cx_run.specs.Worlds.{World}
use Rattle.cx_world.specs.declared.ends.LinkEnd.{LinkEnd}

-- an end of a link as it is now
abbrev pub end_seen : Wire → Side → LinkEnd
end_seen wire side = record { number = wire.number; node = node_at wire side; lives = (end_of wire side).lives }

-- it is told that the link is gone, where it lives
abbrev pub tells_end : World → LinkEnd → World
tells_end w end = if end.lives then tells w end.node (Gone end.number) else w

-- bytes come to it, where it lives
abbrev pub arrives_end : World → LinkEnd → List ℕ → World
arrives_end w end bytes = if end.lives then arrives w end.node end.number bytes else w
