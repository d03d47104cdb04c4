-- What the monitor forgets of its links doesn't count for how it regards them.
use Rattle.std.proofs.Common.{◌≡◌, ◌∙◌, ℕ, Option, Some, None, refl, ap}
use Rattle.std.specs.Option.{option_map}
use Rattle.cx_mon.specs.Regards.{regard_at, regard_of}
use Rattle.cx_rules.proofs.AcceptorForgets.{acceptor_link_of}
use Rattle.cx_rules.specs.Abridged.{MonitorStandsFor, abridged_link}
use Rattle.cx_rules.specs.Acceptor.{AwaitsBanner, AwaitsHello, AwaitsRequest, AwaitsProof, AwaitsSignature, AwaitsIdent, Open}
use Rattle.cx_rules.specs.Links.{Link, link_of}
use Rattle.cx_rules.specs.Monitor.{MonitorNode, MonitorStage}

at_stage : (l : Link MonitorStage) (stage : MonitorStage) → regard_at (abridged_link (record l { stage = stage })).stage ≡ regard_at stage
at_stage l AwaitsBanner = refl
at_stage l AwaitsHello = refl
at_stage l AwaitsRequest = refl
at_stage l (AwaitsProof offered) = refl
at_stage l (AwaitsSignature s bearer) = refl
at_stage l (AwaitsIdent s bearer) = refl
at_stage l (Open s bearer) = refl

at_link : (found : Option (Link MonitorStage)) → option_map (λ l. regard_at l.stage) (option_map abridged_link found) ≡ option_map (λ l. regard_at l.stage) found
at_link None = refl
at_link (Some l) = ap (λ r. Some r) (at_stage l l.stage)

pub regard_stands : (m s : MonitorNode) (number : ℕ) → MonitorStandsFor m s → regard_of m number ≡ regard_of s number
regard_stands m s number st =
    ap (λ (k : MonitorNode). regard_of k number) st.held
    ∙ ap (λ (found : Option (Link MonitorStage)). option_map (λ l. regard_at l.stage) found) (acceptor_link_of number s.links)
    ∙ at_link (link_of number s.links)
