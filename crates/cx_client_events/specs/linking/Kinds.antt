-- Links of both kinds as one.
use Rattle.cx_node.specs.cx_rules.specs.Links.{Link}
use Rattle.cx_node.specs.cx_rules_session.specs.ClientRule.{ClientStage, ToMonitor, ToDaemon}
use Rattle.cx_node.specs.cx_rules_session.specs.Kinds.{of_kind}
use Rattle.cx_client_events.specs.declared.links.Kind.{Kind}
use Rattle.cx_client_events.specs.declared.links.Kind.TheVariants.{Monitor, Daemon}

abbrev pub ClientLink : Type 0
ClientLink = Link ClientStage

-- a link as the rules have it
abbrev pub link_held : Kind → ClientLink
link_held (Monitor link) = of_kind ToMonitor link
link_held (Daemon link) = of_kind ToDaemon link.value
