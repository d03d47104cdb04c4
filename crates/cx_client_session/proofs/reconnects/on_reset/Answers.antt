use Rattle.std.proofs.Common.{Option}
use Rattle.cx_client_connect.specs.cx_rules_session.specs.Presenter.{CallStage}
use Rattle.cx_client_connect.specs.cx_rules_session.specs.Sessions.{HeldSession}
use Rattle.cx_client_session.proofs.reconnects.on_reset.Goals as goal

pub returns : goal.returns
returns c =
    λ (session : Option HeldSession) (stage : CallStage).
    let m = rw c.new.ensures at (c.in_ok-row.ensures session stage) in
    rw c.in_ok-read.was m
