use Rattle.std.proofs.Common.{Option, None}
use Rattle.cx_client_connect.specs.cx_rules_session.specs.Presenter.{CallStage}
use Rattle.cx_client_connect.specs.cx_rules_session.specs.Sessions.{HeldSession}
use Rattle.cx_client_session.proofs.calling.Sending.{reset}
use Rattle.cx_client_session.proofs.idents.resets.Goals as goal

pub returns : goal.returns
returns c =
    λ (session : Option HeldSession) (stage : CallStage).
    rw (c.in_ok-entered.ensures, c.in_ok-first.ensures, c.in_ok-me.ensures)
    (reset c.args.mon_client.now session c.args.at.now c.args.link stage c.args.callee c.args.before c.in_ok-row.row (c.in_ok-row.ensures None stage))
