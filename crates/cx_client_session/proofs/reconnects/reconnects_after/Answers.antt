use Rattle.cx_client_connect.specs.cx_rules_session.specs.Presenter.{CallStage}
use Rattle.cx_client_session.proofs.calling.Sending.{took_up}
use Rattle.cx_client_session.proofs.reconnects.reconnects_after.Goals as goal

pub returns : goal.returns
returns c =
    λ (stage : CallStage).
    let is = rw c.requires at (c.in_ok-row.ensures stage) in
    took_up c.args.mon_client.now c.args.at.now c.args.link stage c.args.callee c.args.before c.args.session.now c.args.connect_seq c.in_ok-row.row is
