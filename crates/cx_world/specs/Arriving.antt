-- What arrives at the end of a link, as it was seen before.
use Rattle.std.specs.Prelude.{ℕ, Bool, false, List, Option, Some, None, if◌then◌else◌}
use Rattle.cx_base.specs.declared.nodes.NodeName.{NodeName}
use Rattle.cx_words.specs.declared.choices.Side.{Side}
use Rattle.cx_world_start.specs.cx_run.specs.Deliveries.{came_at, gone_arrives, turns}
use Rattle.cx_world_start.specs.cx_run.specs.Wires.{Wire, owes_gone}
use Rattle.cx_world_start.specs.cx_run.specs.Worlds.{World}
use Rattle.cx_world.specs.Ends.{arrives_end, tells_end}
use Rattle.cx_world.specs.declared.ends.LinkEnd.{LinkEnd}

-- a node is turned until it handles nothing of what came on a link
abbrev pub turns_all : NodeName → ℕ → World → World
turns_all who number w = turns w who number (came_at w.nodes number who)

-- an end is told that the link is gone, where there is one and it lives
abbrev pub tells_there : World → Option LinkEnd → World
tells_there w None = w
tells_there w (Some end) = tells_end w end

-- bytes come to an end, where there is one and it lives
abbrev pub arrives_there : World → Option LinkEnd → List ℕ → World
arrives_there w None bytes = w
arrives_there w (Some end) bytes = arrives_end w end bytes

-- whether the other end of a link is still to be told that this side is gone
abbrev pub owed_on : Side → Option Wire → Bool
owed_on side None = false
owed_on side (Some wire) = owes_gone wire side

-- no piece is under way from a side: that it is gone arrives, where it is
abbrev pub delivers_gone : World → Side → Option Wire → World
delivers_gone w side None = w
delivers_gone w side (Some wire) = if owes_gone wire side then gone_arrives w wire side else w
