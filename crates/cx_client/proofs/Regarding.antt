-- What a client forgets of its links doesn't count for how it regards them.
use Rattle.std.proofs.Common.{◌≡◌, ◌∙◌, ℕ, List, Option, Some, None, refl, ap}
use Rattle.std.specs.Option.{option_map}
use Rattle.cx_client.specs.Regards.{regard_at, regard_of}
use Rattle.cx_client.specs.cx_rules_session.proofs.WholeClientForgets.{client-forgets-links}
use Rattle.cx_client.specs.cx_rules_session.specs.ClientRule.{ClientStage, ToMonitor, ToDaemon, WholeClientNode}
use Rattle.cx_client.specs.cx_rules_session.specs.Forgets.{WholeClientStandsFor, abridged_client_link}
use Rattle.cx_client.specs.cx_rules_session.specs.Presenter as call
use Rattle.cx_client.specs.cx_rules_session.specs.Sessions.{HeldSession}
use Rattle.cx_node.specs.cx_rules.proofs.Abridging.{link_of_map}
use Rattle.cx_node.specs.cx_rules.specs.Connector as connector
use Rattle.cx_node.specs.cx_rules.specs.Links.{Link, link_of}

at_stage : (sessions : List HeldSession) (l : Link ClientStage) (stage : ClientStage)
    → regard_at sessions (abridged_client_link (record l { stage = stage })).stage ≡ regard_at sessions stage
at_stage sessions l (ToMonitor (connector.AwaitsBanner asked)) = refl
at_stage sessions l (ToMonitor (connector.AwaitsHello asked)) = refl
at_stage sessions l (ToMonitor (connector.AwaitsChallenge asked)) = refl
at_stage sessions l (ToMonitor connector.AwaitsDone) = refl
at_stage sessions l (ToMonitor (connector.AwaitsSignature s login)) = refl
at_stage sessions l (ToMonitor (connector.AwaitsIdent s session)) = refl
at_stage sessions l (ToMonitor (connector.Open s requests)) = refl
at_stage sessions l (ToDaemon (call.AwaitsBanner called)) = refl
at_stage sessions l (ToDaemon (call.AwaitsHello called)) = refl
at_stage sessions l (ToDaemon (call.AwaitsChallenge callee presented)) = refl
at_stage sessions l (ToDaemon (call.AwaitsDone callee answered)) = refl
at_stage sessions l (ToDaemon (call.AwaitsSignature s callee)) = refl
at_stage sessions l (ToDaemon (call.AwaitsIdent s callee cookie)) = refl
at_stage sessions l (ToDaemon (call.AwaitsReconnect s callee cookie)) = refl
at_stage sessions l (ToDaemon (call.Open s callee cookie)) = refl

at_link : (sessions : List HeldSession) (found : Option (Link ClientStage))
    → option_map (λ l. regard_at sessions l.stage) (option_map abridged_client_link found) ≡ option_map (λ l. regard_at sessions l.stage) found
at_link sessions None = refl
at_link sessions (Some l) = ap (λ r. Some r) (at_stage sessions l l.stage)

pub regard_stands : (m s : WholeClientNode) (number : ℕ) → WholeClientStandsFor m s → regard_of m number ≡ regard_of s number
regard_stands m s number st =
    ap (λ (k : WholeClientNode). regard_of k number) st.held
    ∙ ap (λ (found : Option (Link ClientStage)). option_map (λ l. regard_at s.own.sessions l.stage) found)
    (link_of_map abridged_client_link client-forgets-links.number number s.links)
    ∙ at_link s.own.sessions (link_of number s.links)
