use Rattle.cx_client_connect.specs.cx_rules_session.specs.Presenter.{CallStage}
use Rattle.cx_client_session.proofs.reconnects.on_retry.Goals as goal

pub returns : goal.returns
returns c = λ (stage : CallStage). rw c.in_ok-retry.was (c.in_ok-row.ensures stage)
