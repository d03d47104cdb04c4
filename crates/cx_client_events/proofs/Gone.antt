-- A link that is gone, over plain values: the step is that of the rules, abridged.
use Rattle.std.proofs.Common.{◌≡◌, ◌∙◌, ℕ, Bool, List, [], ◌∷◌, map, Option, Some, Result, Ok, Err, IfOk, sym, ap}
use Rattle.std.specs.Prelude.{if◌then◌else◌}
use Rattle.cx_journal.specs.declared.outcomes.Reason.TheVariants.{Lost}
use Rattle.cx_node.specs.cx_rules.specs.Connector as connector
use Rattle.cx_node.specs.cx_rules.specs.Links.{Link, without_link}
use Rattle.cx_node.specs.cx_rules.specs.Rows.{refused_entry}
use Rattle.cx_client_events.specs.cx_rules_session.specs.ClientRule.{ToDaemon, ToMonitor, WholeClient, WholeClientNode, loses, me, own_behind_gone}
use Rattle.cx_client_events.specs.cx_rules_session.specs.Forgets.{abridged_client_link}
use Rattle.cx_client_events.specs.cx_rules_session.specs.Kinds.{of_kind}
use Rattle.cx_client_events.specs.cx_rules_session.specs.Presenter as call
use Rattle.cx_client_events.specs.cx_rules_session.specs.Presenter.{CallStage}
use Rattle.cx_steps.specs.Nothing.{nothing}
use Rattle.cx_steps.specs.declared.effects.Effects.{Effects}
use Rattle.cx_node.specs.steps.Steps.{node_of}
use Rattle.cx_client_events.specs.linking.Kinds.{ClientLink}
use Rattle.cx_client_events.specs.Machine.{AreHeld, IsStep}
use Rattle.cx_client_events.proofs.Steps.{without_held}

-- what is told of a link of this number that is lost, which was open or wasn't
abbrev pub telling : WholeClient → ℕ → Bool → Effects
telling own number was_open = record nothing { entries = if was_open then [] else refused_entry (me own) number Lost ∷ [] }

module _ {E : Type 0} (own new : WholeClient) (number : ℕ) (all links : List ClientLink) (o : Option ClientLink) (r : Result Effects E) (h : AreHeld all)
    (l : links ≡ without_link number all) where
  -- the link is forgotten, with this of the client's own behind it, and this is told
  forgets : (due : WholeClient) (given out : Effects) → new ≡ due → given ≡ out → IsStep (node_of new links) (record { state = node_of due (without_link number all); out = out }) given
  forgets due given out n g =
      let held : AreHeld links = without_held number all links h l in
      let owns : WholeClient → WholeClientNode = λ p. node_of p links in
      let tables : List ClientLink → WholeClientNode = λ ls. node_of due ls in
      let cut : List ClientLink → List ClientLink = λ ls. map abridged_client_link ls in
      record { out = g; state = ap owns n ∙ ap tables (sym held.whole ∙ ap cut l) }

  abbrev IsGone : Result Effects E → Type 0
  IsGone given = IfOk given (IsStep (node_of new links) (loses (node_of own all) o))

  module _ (link : Link connector.Stage) (was_open : Bool) (is : o ≡ Some (of_kind ToMonitor link)) (n : link.number ≡ number)
      (w : was_open ≡ connector.is_open link.stage) (same : new ≡ own) where
    monitor_by : (given : Result Effects E) → IfOk given (λ out. out ≡ telling own number was_open) → IsGone given
    monitor_by (Err e) g = tt
    monitor_by (Ok given) g =
        let told : Bool → Effects = λ t. telling own number t in
        rw (is, n) (forgets own given (told (connector.is_open link.stage)) same (g ∙ ap told w))

  pub gone_monitor : (link : Link connector.Stage) (was_open : Bool) → o ≡ Some (of_kind ToMonitor link) → link.number ≡ number → was_open ≡ connector.is_open link.stage → new ≡ own
      → IfOk r (λ out. out ≡ telling own number was_open) → IsGone r
  gone_monitor link was_open is n w same g = monitor_by link was_open is n w same r g

  module _ (link : Link CallStage) (is : o ≡ Some (of_kind ToDaemon link)) (n : link.number ≡ number) where
    daemon_by : (given : Result Effects E) → IfOk given (λ out. out ≡ telling own number (call.is_open link.stage))
        → IfOk given (λ _. new ≡ own_behind_gone own (ToDaemon link.stage)) → IsGone given
    daemon_by (Err e) g b = tt
    daemon_by (Ok given) g b =
        rw (is, n) (forgets (own_behind_gone own (ToDaemon link.stage)) given (telling own number (call.is_open link.stage)) b g)

  pub gone_daemon : (link : Link CallStage) → o ≡ Some (of_kind ToDaemon link) → link.number ≡ number
      → IfOk r (λ out. out ≡ telling own number (call.is_open link.stage)) → IfOk r (λ _. new ≡ own_behind_gone own (ToDaemon link.stage)) → IsGone r
  gone_daemon link is n g b = daemon_by link is n r g b
