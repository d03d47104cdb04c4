-- The link is the one of the event.
use Rattle.std.proofs.Common.{◌≡◌, ◌∙◌, ap, sym}
use Rattle.cx_client_session.specs.cx_client_connect.specs.presenting.Stages.{CallLink}
use Rattle.cx_client_session.specs.cx_client_connect.proofs.presenting.Stages.{number_held}
use Rattle.cx_client_session.proofs.operations_turns.turned.Goals as goal

pub returns : goal.returns
returns c =
    let number : c.link.inside.number ≡ c.args.at.now.number =
    sym (number_held c.link.inside.number c.link.inside.stage.value) ∙ ap (λ (l : CallLink). l.number) c.link.view_is ∙ c.requires.number in
    rw (← c.link.view_is, number) (rw c.into_inner.ensures at c.by_stage.ensures)
