-- The nodes of a world are those to which its events lead.
use Rattle.std.proofs.Common.{◌≡◌, List, [], ◌∷◌, ◌++◌, Option, Some, None, refl, ap}
use Rattle.cx_lines.specs.declared.lines.Numbered.{Numbered}
use Rattle.cx_rules_session.specs.cx_rules.specs.Inputs.{Input}
use Rattle.cx_run.specs.Deliveries.{given}
use Rattle.cx_run.specs.Happenings.{Happening, Nodes, nodes_behind, steps}
use Rattle.cx_run.specs.Schedules.{after_lines}
use Rattle.cx_run.specs.Visits.{IsNoLook}
use Rattle.cx_run.specs.Worlds.{Post, World, happening}
use Rattle.cx_run.proofs.Walking.{kept-after_lines}

led-append : (start : Nodes) (hs : List Happening) (h : Happening) → nodes_behind start (hs ++ h ∷ []) ≡ (steps (nodes_behind start hs) h).nodes
led-append start [] h = refl
led-append start (x ∷ hs) h = led-append (steps start x).nodes hs h

pub record Led (start : Nodes) (w : World) : Type 0 where
  pub to : w.nodes ≡ nodes_behind start w.past

module _ (start : Nodes) where
  led-like : (w v : World) → v.nodes ≡ w.nodes → v.past ≡ w.past → Led start w → Led start v
  led-like w v n p k = record { to = rw (n, p) k.to }

  led-given : (w : World) (input : Input) (post : Option Post) → IsNoLook input → Led start w → Led start (given w input post).world
  led-given w input None untold k = k
  led-given w input (Some post) untold k =
      let h = happening w input post in
      record { to = rw (led-append start w.past h) (ap (λ (n : Nodes). (steps n h).nodes) k.to) }

  pub led-after_lines : (w : World) (lines : List Numbered) → Led start w → Led start (after_lines w lines)
  led-after_lines = kept-after_lines (Led start) led-like led-given
