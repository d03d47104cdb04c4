-- Of what a machine holds of its links as much is left to be taken as of those for which they stand.
use Rattle.std.proofs.Common.{◌≡◌, ℕ, Option, Some, None, refl, ap, ◌∙◌}
use Rattle.std.specs.Option.{option_map}
use Rattle.cx_rules_session.specs.cx_rules.specs.Abridged.{MonitorStandsFor, abridged_link}
use Rattle.cx_rules_session.specs.cx_rules.specs.Acceptor.{AwaitsBanner, AwaitsHello, AwaitsRequest, AwaitsProof, AwaitsSignature, AwaitsIdent, Open}
use Rattle.cx_rules_session.specs.cx_rules.specs.Connector as connector
use Rattle.cx_rules_session.specs.cx_rules.specs.Fronts.{ahead_of}
use Rattle.cx_rules_session.specs.cx_rules.specs.Links.{Link, link_of}
use Rattle.cx_rules_session.specs.cx_rules.specs.Monitor.{MonitorNode, MonitorStage}
use Rattle.cx_rules_session.specs.cx_rules.proofs.AcceptorForgets.{acceptor_link_of}
use Rattle.cx_rules_session.specs.cx_rules.proofs.Abridging.{link_of_map}
use Rattle.cx_rules_session.proofs.DaemonForgets.{daemon-forgets-links}
use Rattle.cx_rules_session.proofs.WholeClientForgets.{client-forgets-links}
use Rattle.cx_rules_session.specs.ClientRule.{ClientStage, ToMonitor, ToDaemon, WholeClientNode}
use Rattle.cx_rules_session.specs.DaemonRule.{DaemonNode, DaemonStage, DaemonState, AsAcceptor, AsConnector}
use Rattle.cx_rules_session.specs.Forgets.{DaemonStandsFor, WholeClientStandsFor, abridged_client_link, abridged_daemon_link}
use Rattle.cx_rules_session.specs.IncomingLinks.{IncomingStage}
use Rattle.cx_rules_session.specs.Presenter as call
use Rattle.cx_run.specs.Turning.{untaken_on}

-- ---- the monitor

acceptor-ahead : (l : Link MonitorStage) (stage : MonitorStage) → (let k : Link MonitorStage = record l { stage = stage } in ahead_of (abridged_link k)) ≡ ahead_of l
acceptor-ahead l AwaitsBanner = refl
acceptor-ahead l AwaitsHello = refl
acceptor-ahead l AwaitsRequest = refl
acceptor-ahead l (AwaitsProof offered) = refl
acceptor-ahead l (AwaitsSignature s entity) = refl
acceptor-ahead l (AwaitsIdent s entity) = refl
acceptor-ahead l (Open s entity) = refl

acceptor-found : (found : Option (Link MonitorStage)) → untaken_on (option_map abridged_link found) ≡ untaken_on found
acceptor-found None = refl
acceptor-found (Some l) = acceptor-ahead l l.stage

pub monitor-untaken : (m s : MonitorNode) (n : ℕ) → MonitorStandsFor m s → untaken_on (link_of n m.links) ≡ untaken_on (link_of n s.links)
monitor-untaken m s n stands =
    ap (λ (x : MonitorNode). untaken_on (link_of n x.links)) stands.held
    ∙ ap (λ (o : Option (Link MonitorStage)). untaken_on o) (acceptor_link_of n s.links)
    ∙ acceptor-found (link_of n s.links)

-- ---- a client

client-ahead : (l : Link ClientStage) (stage : ClientStage) → (let k : Link ClientStage = record l { stage = stage } in ahead_of (abridged_client_link k)) ≡ ahead_of l
client-ahead l (ToMonitor (connector.AwaitsBanner services)) = refl
client-ahead l (ToMonitor (connector.AwaitsHello services)) = refl
client-ahead l (ToMonitor (connector.AwaitsChallenge services)) = refl
client-ahead l (ToMonitor connector.AwaitsDone) = refl
client-ahead l (ToMonitor (connector.AwaitsSignature s login)) = refl
client-ahead l (ToMonitor (connector.AwaitsIdent s session)) = refl
client-ahead l (ToMonitor (connector.Open s requests)) = refl
client-ahead l (ToDaemon (call.AwaitsBanner called)) = refl
client-ahead l (ToDaemon (call.AwaitsHello called)) = refl
client-ahead l (ToDaemon (call.AwaitsChallenge callee p)) = refl
client-ahead l (ToDaemon (call.AwaitsDone callee answered)) = refl
client-ahead l (ToDaemon (call.AwaitsSignature s callee)) = refl
client-ahead l (ToDaemon (call.AwaitsIdent s callee cookie)) = refl
client-ahead l (ToDaemon (call.AwaitsReconnect s callee cookie)) = refl
client-ahead l (ToDaemon (call.Open s callee cookie)) = refl

client-found : (found : Option (Link ClientStage)) → untaken_on (option_map abridged_client_link found) ≡ untaken_on found
client-found None = refl
client-found (Some l) = client-ahead l l.stage

pub client-untaken : (c s : WholeClientNode) (n : ℕ) → WholeClientStandsFor c s → untaken_on (link_of n c.links) ≡ untaken_on (link_of n s.links)
client-untaken c s n stands =
    ap (λ (x : WholeClientNode). untaken_on (link_of n x.links)) stands.held
    ∙ ap (λ (o : Option (Link ClientStage)). untaken_on o) (link_of_map abridged_client_link client-forgets-links.number n s.links)
    ∙ client-found (link_of n s.links)

-- ---- a daemon

incoming-ahead : (l : Link DaemonStage) (stage : IncomingStage) → (let k : Link DaemonStage = record l { stage = AsAcceptor stage } in ahead_of (abridged_daemon_link k)) ≡ ahead_of l
incoming-ahead l AwaitsBanner = refl
incoming-ahead l AwaitsHello = refl
incoming-ahead l AwaitsRequest = refl
incoming-ahead l (AwaitsProof awaited) = refl
incoming-ahead l (AwaitsSignature s owner) = refl
incoming-ahead l (AwaitsIdent s owner) = refl
incoming-ahead l (Open s served) = refl

own-ahead : (l : Link DaemonStage) (stage : connector.Stage) → (let k : Link DaemonStage = record l { stage = AsConnector stage } in ahead_of (abridged_daemon_link k)) ≡ ahead_of l
own-ahead l (connector.AwaitsBanner asked) = refl
own-ahead l (connector.AwaitsHello asked) = refl
own-ahead l (connector.AwaitsChallenge asked) = refl
own-ahead l connector.AwaitsDone = refl
own-ahead l (connector.AwaitsSignature s login) = refl
own-ahead l (connector.AwaitsIdent s session) = refl
own-ahead l (connector.Open s requests) = refl

daemon-ahead : (l : Link DaemonStage) (stage : DaemonStage) → (let k : Link DaemonStage = record l { stage = stage } in ahead_of (abridged_daemon_link k)) ≡ ahead_of l
daemon-ahead l (AsAcceptor stage) = incoming-ahead l stage
daemon-ahead l (AsConnector stage) = own-ahead l stage

daemon-found : (found : Option (Link DaemonStage)) → untaken_on (option_map abridged_daemon_link found) ≡ untaken_on found
daemon-found None = refl
daemon-found (Some l) = daemon-ahead l l.stage

pub daemon-untaken : (d s : DaemonState) (n : ℕ) → DaemonStandsFor d s → untaken_on (link_of n d.node.links) ≡ untaken_on (link_of n s.node.links)
daemon-untaken d s n stands =
    ap (λ (x : DaemonNode). untaken_on (link_of n x.links)) stands.node.held
    ∙ ap (λ (o : Option (Link DaemonStage)). untaken_on o) (link_of_map abridged_daemon_link daemon-forgets-links.number n s.node.links)
    ∙ daemon-found (link_of n s.node.links)
