use Rattle.std.proofs.Common.{Some, None, []}
use Rattle.cx_link.specs.Wires.{secured_link}
use Rattle.cx_client_connect.specs.cx_rules_session.specs.Presenter.{CallArrival, CallStage, resets, retries_global}
use Rattle.cx_node.specs.steps.Stages.{keys_alone}
use Rattle.cx_client_connect.specs.presenting.Rows.{arrived, caller}
use Rattle.cx_client_session.proofs.calling.Sending.{last_counted, makes_ok, more_counted}
use Rattle.cx_client_session.proofs.reconnects.retries_global.Goals as goal

pub returns-then-kept-eq-LAST : goal.returns-then-kept-eq-LAST
returns-then-kept-eq-LAST c =
    λ (stage : CallStage).
    let a : CallArrival = arrived (caller c.args.mon_client.now (Some c.in-Some.session.now)) c.args.at.now (secured_link c.args.at.now.number c.args.link.ahead stage) in
    let m = rw c.new-before.ensures at (c.resets.ensures (Some c.in-Some.session.now) stage) in
    rw c.in-Some.is (makes_ok a (resets a (keys_alone c.args.link.keys) c.args.callee []) (retries_global a (keys_alone c.args.link.keys) c.args.callee c.args.kept (Some c.in-Some.session.now)) c.resets.result
    (last_counted a (keys_alone c.args.link.keys) c.args.callee c.args.kept c.in-Some.session.now c.if-kept-eq-LAST.true) m)

pub returns-else-kept-eq-LAST : goal.returns-else-kept-eq-LAST
returns-else-kept-eq-LAST c =
    λ (stage : CallStage).
    let a : CallArrival = arrived (caller c.args.mon_client.now (Some c.in-Some.session.now)) c.args.at.now (secured_link c.args.at.now.number c.args.link.ahead stage) in
    let m = rw c.new-before.ensures at (c.counts.ensures stage) in
    rw c.in-Some.is (makes_ok a _ (retries_global a (keys_alone c.args.link.keys) c.args.callee c.args.kept (Some c.in-Some.session.now)) c.counts.result
    (more_counted a (keys_alone c.args.link.keys) c.args.callee c.args.kept c.in-Some.session.now c.if-kept-eq-LAST.false) m)

pub returns-in-None : goal.returns-in-None
returns-in-None c =
    λ (stage : CallStage).
    let m = rw c.new-before.ensures at (c.resets-in-None.ensures None stage) in
    rw c.in-None.is m
