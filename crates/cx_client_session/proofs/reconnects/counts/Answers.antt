use Rattle.cx_client_connect.specs.cx_rules_session.specs.Presenter.{CallStage}
use Rattle.cx_client_session.proofs.calling.Sending.{counted}
use Rattle.cx_client_session.proofs.reconnects.counts.Goals as goal

pub returns : goal.returns
returns c =
    λ (stage : CallStage).
    let is = rw c.connect_seq-connect_seq.ensures at (c.in_ok-row.ensures stage) in
    counted c.args.mon_client.now c.args.at.now c.args.link stage c.args.callee c.args.before c.args.session.now c.args.count c.in_ok-row.row is
