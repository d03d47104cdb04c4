-- The link is the one of the event.
use Rattle.std.proofs.Common.{◌≡◌, ◌∙◌, ap, sym}
use Rattle.cx_rules_session.specs.cx_desk.specs.Handlers.{Handlers}
use Rattle.cx_verifying.specs.Stages.{IncomingLink}
use Rattle.cx_verifying.proofs.Stages.{number_held}
use Rattle.cx_verifying.proofs.turns.turned.Goals as goal

pub returns : goal.returns
returns c =
    let number : c.link.inside.number ≡ c.args.at.now.number =
    sym (number_held c.link.inside.number c.link.inside.stage.value) ∙ ap (λ (l : IncomingLink). l.number) c.link.view_is ∙ c.requires in
    λ (handlers : Handlers). rw (← c.link.view_is, number) (rw c.into_inner.ensures at c.by_stage.ensures handlers)
