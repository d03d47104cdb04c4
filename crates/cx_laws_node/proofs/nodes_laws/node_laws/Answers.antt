use Rattle.cx_laws_node.proofs.node.Entities.{client_gives, client_is, daemon_gives, daemon_is, entity_gives, entity_is}
use Rattle.cx_laws_node.proofs.node.Monitors.{monitor_gives, monitor_is}
use Rattle.cx_laws_node.proofs.nodes_laws.node_laws.Goals as goal

pub returns-clause-monitor : goal.returns-clause-monitor
returns-clause-monitor c = monitor_is

pub returns-clause-monitor_gives : goal.returns-clause-monitor_gives
returns-clause-monitor_gives c = monitor_gives

pub returns-clause-entity : goal.returns-clause-entity
returns-clause-entity c = entity_is

pub returns-clause-entity_gives : goal.returns-clause-entity_gives
returns-clause-entity_gives c = entity_gives

pub returns-clause-client : goal.returns-clause-client
returns-clause-client c = client_is

pub returns-clause-client_gives : goal.returns-clause-client_gives
returns-clause-client_gives c = client_gives

pub returns-clause-daemon : goal.returns-clause-daemon
returns-clause-daemon c = daemon_is

pub returns-clause-daemon_gives : goal.returns-clause-daemon_gives
returns-clause-daemon_gives c = daemon_gives
