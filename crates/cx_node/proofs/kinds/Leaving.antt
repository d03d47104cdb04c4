-- Where links that pass a test are given up, those that are left are held as before.
use Rattle.std.proofs.Common.{◌≡◌, ◌∙◌, Bool, List, map, sym, ap}
use Rattle.std.specs.Prelude.{not, filter}
use Rattle.cx_rules_session.specs.cx_rules.specs.Links.{Link}
use Rattle.cx_rules_session.specs.cx_rules.proofs.Abridging.{Forgets}
use Rattle.cx_rules_session.proofs.KindsAlike.{links-left}
use Rattle.cx_node.specs.steps.Steps.{AreHeld}
use Rattle.cx_node.proofs.steps.Rising.{filter_rising}

module _ {Stage : Type 0} (abridged : Link Stage → Link Stage) (forgets : Forgets abridged) (p : Link Stage → Bool) (same : (l : Link Stage) → p (abridged l) ≡ p l) where
  pub whole_left : (links : List (Link Stage)) → map abridged links ≡ links → map abridged (filter (λ l. not (p l)) links) ≡ filter (λ l. not (p l)) links
  whole_left links whole =
      let left : List (Link Stage) → List (Link Stage) = λ ls. filter (λ l. not (p l)) ls in
      sym (links-left abridged forgets.number p same links) ∙ ap left whole

  pub left_held : (all links : List (Link Stage)) → AreHeld abridged all → links ≡ filter (λ l. not (p l)) all → AreHeld abridged links
  left_held all links h is = rw is (record {
    whole = whole_left all h.whole;
    rising = filter_rising (λ l. not (p l)) 0 all h.rising;
  })
