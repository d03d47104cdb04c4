use Rattle.std.proofs.Common.{Some}
use Rattle.cx_link.specs.Wires.{secured_link}
use Rattle.cx_client_connect.specs.cx_rules_session.specs.Presenter.{CallArrival, CallStage, resets, takes_up}
use Rattle.cx_node.specs.steps.Stages.{keys_alone}
use Rattle.cx_client_connect.specs.presenting.Rows.{arrived, caller}
use Rattle.cx_client_session.proofs.calling.Sending.{last_taken, makes_ok, more_taken}
use Rattle.cx_client_session.proofs.reconnects.takes_up.Goals as goal

pub returns-then-count : goal.returns-then-count
returns-then-count c =
    λ (stage : CallStage).
    let a : CallArrival = arrived (caller c.args.mon_client.now (Some c.args.session.now)) c.args.at.now (secured_link c.args.at.now.number c.args.link.ahead stage) in
    makes_ok a (resets a (keys_alone c.args.link.keys) c.args.callee c.args.before) (takes_up a (keys_alone c.args.link.keys) c.args.callee c.args.before c.args.session.now) c.resets.result
    (last_taken a (keys_alone c.args.link.keys) c.args.callee c.args.before c.args.session.now _ c.connect_seq-count.ensures c.if-count.true) (c.resets.ensures (Some c.args.session.now) stage)

pub returns-else-count : goal.returns-else-count
returns-else-count c =
    λ (stage : CallStage).
    let a : CallArrival = arrived (caller c.args.mon_client.now (Some c.args.session.now)) c.args.at.now (secured_link c.args.at.now.number c.args.link.ahead stage) in
    makes_ok a _ (takes_up a (keys_alone c.args.link.keys) c.args.callee c.args.before c.args.session.now) c.reconnects_after.result
    (more_taken a (keys_alone c.args.link.keys) c.args.callee c.args.before c.args.session.now _ c.connect_seq-count.ensures c.if-count.false) (c.reconnects_after.ensures stage)
