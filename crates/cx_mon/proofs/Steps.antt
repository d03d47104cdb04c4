-- A link that is gone, over plain values: the step is that of the rules, abridged, and the links are held behind it as before.
use Rattle.std.proofs.Common.{◌≡◌, ℕ, List, refl}
use Rattle.cx_rules.specs.Abridged.{abridged_link}
use Rattle.cx_rules.specs.Links.{without_link}
use Rattle.cx_rules.specs.Monitor.{Monitor}
use Rattle.cx_rules.specs.Rows.{forgotten, idles}
use Rattle.cx_steps.specs.Nothing.{nothing}
use Rattle.cx_steps.specs.declared.effects.Effects.{Effects}
use Rattle.cx_mon.specs.acceptor.Stages.{MonitorLink}
use Rattle.cx_node.specs.steps.Steps.{node_of}
use Rattle.cx_mon.specs.Machine.{AreHeld, IsStep}
use Rattle.cx_node.proofs.steps.Steps as steps
use Rattle.cx_rules.proofs.AcceptorForgets.{acceptor-forgets}

pub without_held : (number : ℕ) (all links : List MonitorLink) → AreHeld all → links ≡ without_link number all → AreHeld links
without_held number all links h l = steps.without_held abridged_link acceptor-forgets number all links h l

pub goes_step : (own : Monitor) (number : ℕ) (all links : List MonitorLink) (given : Effects) → AreHeld all → links ≡ without_link number all → given ≡ nothing
    → IsStep (node_of own links) (idles (forgotten (node_of own all) number)) given
goes_step own number all links given h l g =
    steps.idles_step abridged_link acceptor-forgets own (without_link number all) links given (without_held number all (without_link number all) h refl) l g
