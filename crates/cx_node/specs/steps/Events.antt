-- Events, by the link that they are about, and what is told of it where memory is wanting.
use Rattle.std.specs.Prelude.{ℕ, Option, Some, None}
use Rattle.cx_node.specs.cx_rules.specs.Inputs.{Input, Opened, Bytes, Turn, Gone}
use Rattle.cx_steps.specs.Nothing.{nothing}
use Rattle.cx_steps.specs.declared.effects.Effects.{Effects}

-- the link that an event is about
abbrev pub link_in : Input → Option ℕ
link_in (Opened number peer) = Some number
link_in (Bytes number bytes) = Some number
link_in (Turn number) = Some number
link_in (Gone number) = Some number
link_in _ = None

-- where memory is wanting, the event's link is told as lost, and nothing else
abbrev pub losing : Input → Effects
losing input = record nothing { lost = link_in input }
