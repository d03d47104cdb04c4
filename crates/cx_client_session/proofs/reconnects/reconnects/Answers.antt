use Rattle.cx_node.specs.cx_rules.specs.Holdings.{MonClient}
use Rattle.cx_client_connect.specs.cx_rules_session.specs.Presenter.{CallStage}
use Rattle.cx_client_connect.specs.session.Table.{taken_up}
use Rattle.cx_client_session.proofs.calling.Sending.{reconnected}
use Rattle.cx_client_session.proofs.reconnects.reconnects.Goals as goal

pub returns : goal.returns
returns c =
    λ (stage : CallStage).
    let mon_client : MonClient = record c.args.mon_client.now { global_seq = c.args.global_seq } in
    let is = rw c.client_cookie-cookie.ensures at c.in_ok-row.ensures in
    reconnected mon_client c.args.at.now c.args.link stage c.args.callee c.args.before (taken_up c.args.connect_seq c.args.session.now) _ c.in_ok-made.made c.in_ok-row.row
    c.session_reconnect-reconnect.ensures c.in_ok-made.ensures is
