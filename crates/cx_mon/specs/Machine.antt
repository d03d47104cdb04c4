-- The monitor as its machine holds it.
use Rattle.std.specs.Prelude.{List}
use Rattle.cx_mon.specs.acceptor.Stages.{MonitorLink}
use Rattle.cx_node.specs.steps.Events.{link_in}
use Rattle.cx_rules.specs.Abridged.{abridged_link}
use Rattle.cx_rules.specs.Inputs.{Input}
use Rattle.cx_rules.specs.Monitor.{MonitorNode}
use Rattle.cx_rules.specs.MonitorRule.{noted}
use Rattle.cx_rules.specs.Rows.{Outcome}
use Rattle.cx_steps.specs.declared.effects.Effects.{Effects}
use Rattle.cx_node.specs.steps.Steps as steps
use Rattle.cx_node.specs.steps.Steps.{without_lost}

-- how the monitor holds its links
abbrev pub AreHeld : List MonitorLink → Type 0
AreHeld links = steps.AreHeld abridged_link links

-- where memory is wanting, the event's link is forgotten, and nothing else happens than that the step begins
abbrev pub lost : MonitorNode → Input → MonitorNode
lost m input = without_lost (link_in input) (noted m)

-- what a step gave, and the monitor behind it, are those of the rules, abridged
abbrev pub IsStep : MonitorNode → Outcome MonitorNode → Effects → Type 0
IsStep m due given = steps.IsStep abridged_link m due given
