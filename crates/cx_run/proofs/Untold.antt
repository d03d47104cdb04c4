-- No view is told by hand in the run of a schedule.
use Rattle.std.proofs.Common.{◌≡◌, List, Option, Some, None, sym, subst}
use Rattle.cx_rules_session.specs.cx_desk.specs.Handlers.{Handlers}
use Rattle.cx_lines.specs.declared.lines.Numbered.{Numbered}
use Rattle.cx_rules_session.specs.cx_rules.specs.Inputs.{Input}
use Rattle.cx_run.specs.Deliveries.{given}
use Rattle.cx_run.specs.Happenings.{Happening}
use Rattle.cx_run.specs.Opening.{opening_world}
use Rattle.cx_run.specs.Runs.{setup_of, trace}
use Rattle.cx_run.specs.Visits.{AreUntold, IsNoLook}
use Rattle.cx_run.specs.Worlds.{Post, World, happening}
use Rattle.cx_run.proofs.Walking.{all-push, kept-after_lines}

-- of each event so far
abbrev Untold : World → Type 0
Untold w = AreUntold w.past

untold-like : (w v : World) → v.nodes ≡ w.nodes → v.past ≡ w.past → Untold w → Untold v
untold-like w v n p k = subst (λ (hs : List Happening). AreUntold hs) (sym p) k

untold-given : (w : World) (input : Input) (post : Option Post) → IsNoLook input → Untold w → Untold (given w input post).world
untold-given w input None is k = k
untold-given w input (Some post) is k = all-push (λ (h : Happening). IsNoLook h.input) w.past (happening w input post) k is

pub untold : (handlers : Handlers) (script : List Numbered) → AreUntold (trace handlers script)
untold handlers script = kept-after_lines Untold untold-like untold-given (opening_world (setup_of handlers script)) script tt
