-- What a client stands for where memory is wanting.
use Rattle.std.proofs.Common.{ℕ, Option, Some, None}
use Rattle.cx_node.specs.cx_rules.specs.Inputs as input
use Rattle.cx_node.specs.cx_rules.specs.Inputs.{Input}
use Rattle.cx_node.specs.cx_rules.specs.Rows.{forgotten}
use Rattle.cx_client.specs.cx_rules_session.specs.ClientRule.{WholeClientNode, undialled}
use Rattle.cx_client.specs.cx_rules_session.specs.Forgets.{WholeClientStandsFor}
use Rattle.cx_steps.specs.declared.events.Peer.{Peer}
use Rattle.cx_node.specs.steps.Events.{link_in}
use Rattle.cx_node.specs.steps.Steps.{without_lost}
use Rattle.cx_client.specs.Machine.{lost, undialled_at}

module _ (loses : (c s : WholeClientNode) (n : ℕ) → WholeClientStandsFor c s → WholeClientStandsFor (forgotten c n) (forgotten s n))
    (gives_up : (c s : WholeClientNode) (peer : Peer) → WholeClientStandsFor c s → WholeClientStandsFor (undialled c peer) (undialled s peer)) where
  by_link : (link : Option ℕ) (c s : WholeClientNode) → WholeClientStandsFor c s → WholeClientStandsFor (without_lost link c) (without_lost link s)
  by_link None c s st = st
  by_link (Some number) c s st = loses c s number st

  undials : (i : Input) (c s : WholeClientNode) → WholeClientStandsFor c s → WholeClientStandsFor (undialled_at i c) (undialled_at i s)
  undials (input.Opened number (Some peer)) c s st = gives_up c s peer st
  undials (input.Opened number None) c s st = st
  undials (input.NoLink peer) c s st = gives_up c s peer st
  undials (input.Bytes number bytes) c s st = st
  undials (input.Turn number) c s st = st
  undials (input.Gone number) c s st = st
  undials (input.Look view) c s st = st
  undials input.Tick c s st = st
  undials (input.Submit command) c s st = st
  undials input.Restart c s st = st

  pub client_loses : (c s : WholeClientNode) (i : Input) → WholeClientStandsFor c s → WholeClientStandsFor (lost c i) (lost s i)
  client_loses c s i st = by_link (link_in i) (undialled_at i c) (undialled_at i s) (undials i c s st)
