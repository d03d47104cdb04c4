-- What is found among the links of a client.
use Rattle.std.specs.Prelude.{◌≡◌, true, List}
use Rattle.std.specs.Option.{option_map}
use Rattle.cx_base.specs.Names.{Name, same_name}
use Rattle.cx_node.specs.cx_rules.specs.Connector as connector
use Rattle.cx_node.specs.cx_rules.specs.Links.{Link}
use Rattle.cx_node.specs.cx_rules.specs.Requests.{first_open}
use Rattle.cx_node.specs.cx_rules_session.specs.ClientRule.{ToMonitor, ToDaemon, asking_open, call_open, first_call}
use Rattle.cx_node.specs.cx_rules_session.specs.Kinds.{of_kind}
use Rattle.cx_node.specs.cx_rules_session.specs.Presenter as call
use Rattle.cx_node.specs.cx_rules_session.specs.Presenter.{CallStage}
use Rattle.cx_client_events.specs.linking.Kinds.{ClientLink}

-- the first of these links that is an open one to the monitor
pub record IsFirstOpen (links : List ClientLink) (link : Link connector.Stage) : Type 0 where
  pub opened : connector.is_open link.stage ≡ true
  pub first : first_open asking_open links ≡ option_map (λ kept. (of_kind ToMonitor link, kept)) (connector.kept_open link.stage)

-- the first of these links that is an open one to this daemon
pub record IsFirstCall (daemon : Name) (links : List ClientLink) (link : Link CallStage) : Type 0 where
  pub opened : call.is_open link.stage ≡ true
  pub called : same_name (call.callee_of link.stage).daemon daemon ≡ true
  pub first : first_call daemon links ≡ option_map (λ kept. (of_kind ToDaemon link, kept)) (call_open daemon (ToDaemon link.stage))
