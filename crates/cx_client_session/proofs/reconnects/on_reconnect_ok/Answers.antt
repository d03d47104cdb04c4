use Rattle.cx_client_connect.specs.cx_rules_session.specs.Presenter.{CallStage}
use Rattle.cx_client_session.proofs.reconnects.on_reconnect_ok.Goals as goal

pub returns-in_ok-row-in-Some : goal.returns-in_ok-row-in-Some
returns-in_ok-row-in-Some c = λ (stage : CallStage). rw (c.in_ok-ok.was, c.in-Some.is) (c.in_ok-row-in-Some.ensures stage)
