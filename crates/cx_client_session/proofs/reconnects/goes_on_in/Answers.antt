use Rattle.cx_client_connect.specs.cx_rules_session.specs.Presenter.{CallStage}
use Rattle.cx_client_session.proofs.calling.Sending.{waiting_sent}
use Rattle.cx_client_session.proofs.reconnects.goes_on_in.Goals as goal

pub returns : goal.returns
returns c =
    λ (stage : CallStage).
    let is = rw c.new.ensures at c.in_ok-row.ensures in
    waiting_sent c.args.mon_client.now c.args.at.now c.args.link stage c.args.callee c.args.cookie c.args.last c.args.session.now c.in_ok-made.made c.in_ok-row.row c.in_ok-made.ensures is
