-- What a daemon forgets of its links doesn't count for how it regards them.
use Rattle.std.proofs.Common.{◌≡◌, ◌∙◌, ℕ, Option, Some, None, refl, ap}
use Rattle.std.specs.Option.{option_map}
use Rattle.cx_daemon_events.specs.Regards.{regard_at, regard_of}
use Rattle.cx_daemon_events.specs.cx_rules_session.proofs.DaemonForgets.{daemon-forgets-links}
use Rattle.cx_daemon_events.specs.cx_rules_session.specs.DaemonRule.{DaemonNode, DaemonStage, AsAcceptor, AsConnector}
use Rattle.cx_daemon_events.specs.cx_rules_session.specs.Forgets.{DaemonNodeStandsFor, abridged_daemon_link}
use Rattle.cx_node.specs.cx_rules.proofs.Abridging.{link_of_map}
use Rattle.cx_node.specs.cx_rules.specs.Acceptor as acceptor
use Rattle.cx_node.specs.cx_rules.specs.Connector as connector
use Rattle.cx_node.specs.cx_rules.specs.Links.{Link, link_of}

at_stage : (l : Link DaemonStage) (stage : DaemonStage) → regard_at (abridged_daemon_link (record l { stage = stage })).stage ≡ regard_at stage
at_stage l (AsAcceptor acceptor.AwaitsBanner) = refl
at_stage l (AsAcceptor acceptor.AwaitsHello) = refl
at_stage l (AsAcceptor acceptor.AwaitsRequest) = refl
at_stage l (AsAcceptor (acceptor.AwaitsProof awaited)) = refl
at_stage l (AsAcceptor (acceptor.AwaitsSignature s owner)) = refl
at_stage l (AsAcceptor (acceptor.AwaitsIdent s owner)) = refl
at_stage l (AsAcceptor (acceptor.Open s served)) = refl
at_stage l (AsConnector (connector.AwaitsBanner asked)) = refl
at_stage l (AsConnector (connector.AwaitsHello asked)) = refl
at_stage l (AsConnector (connector.AwaitsChallenge asked)) = refl
at_stage l (AsConnector connector.AwaitsDone) = refl
at_stage l (AsConnector (connector.AwaitsSignature s login)) = refl
at_stage l (AsConnector (connector.AwaitsIdent s session)) = refl
at_stage l (AsConnector (connector.Open s requests)) = refl

at_link : (found : Option (Link DaemonStage)) → option_map (λ l. regard_at l.stage) (option_map abridged_daemon_link found) ≡ option_map (λ l. regard_at l.stage) found
at_link None = refl
at_link (Some l) = ap (λ r. Some r) (at_stage l l.stage)

pub regard_stands : (m s : DaemonNode) (number : ℕ) → DaemonNodeStandsFor m s → regard_of m number ≡ regard_of s number
regard_stands m s number st =
    ap (λ (k : DaemonNode). regard_of k number) st.held
    ∙ ap (λ (found : Option (Link DaemonStage)). option_map (λ l. regard_at l.stage) found)
    (link_of_map abridged_daemon_link daemon-forgets-links.number number s.links)
    ∙ at_link (link_of number s.links)
