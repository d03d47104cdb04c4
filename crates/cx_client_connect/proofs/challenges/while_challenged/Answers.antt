use Rattle.std.proofs.Common.{Option, ap}
use Rattle.cx_control.specs.Auth.{auth_reply_more_layout}
use Rattle.cx_node.specs.cx_rules.specs.Payloads.{due}
use Rattle.cx_client_connect.specs.cx_rules_session.specs.Forgets.{abridged_call_link}
use Rattle.cx_client_connect.specs.cx_rules_session.specs.Presenter.{AwaitsChallenge, CallArrival, CallRow, on_reply_more, while_challenged}
use Rattle.cx_client_connect.specs.cx_rules_session.specs.Sessions.{HeldSession}
use Rattle.cx_node.proofs.steps.MadeRows.{makes_as}
use Rattle.cx_node.specs.steps.Making.{row_due}
use Rattle.cx_client_connect.specs.presenting.Rows.{arrived, caller, changed, denied}
use Rattle.cx_client_connect.specs.presenting.Stages.{awaiting_challenge}
use Rattle.cx_client_connect.proofs.presenting.Behind.{read_denied, read_due}
use Rattle.cx_client_connect.proofs.challenges.while_challenged.Goals as goal

pub returns-in_ok-read : goal.returns-in_ok-read
returns-in_ok-read c =
    λ (session : Option HeldSession).
    let a : CallArrival = arrived (caller c.args.mon_client.now session) c.args.at.now (awaiting_challenge c.args.at.now.number c.args.link c.args.callee c.args.presenting) in
    makes_as abridged_call_link changed a (denied a c.in_ok-read.read) (while_challenged a c.args.callee c.args.presenting c.args.frame.now) c.on_bad_method.result
    (ap (λ (row : CallRow). row_due abridged_call_link row)
    (read_denied a c.args.frame.now (on_reply_more a c.args.callee c.args.presenting (due 4 auth_reply_more_layout.form c.args.frame.now)) c.in_ok-read.read c.if-frame-eq-AUTH_BAD_METHOD.true c.in_ok-read.ensures))
    (c.on_bad_method.ensures c.args.link (AwaitsChallenge c.args.callee c.args.presenting) session)

pub returns-in_ok-read-2 : goal.returns-in_ok-read-2
returns-in_ok-read-2 c =
    λ (session : Option HeldSession).
    let a : CallArrival = arrived (caller c.args.mon_client.now session) c.args.at.now (awaiting_challenge c.args.at.now.number c.args.link c.args.callee c.args.presenting) in
    let m = rw c.in_ok-read-2.ensures at (c.on_reply_more.ensures session) in
    makes_as abridged_call_link changed a (on_reply_more a c.args.callee c.args.presenting (due 4 auth_reply_more_layout.form c.args.frame.now))
    (while_challenged a c.args.callee c.args.presenting c.args.frame.now) c.on_reply_more.result
    (ap (λ (row : CallRow). row_due abridged_call_link row)
    (read_due a c.args.frame.now (on_reply_more a c.args.callee c.args.presenting (due 4 auth_reply_more_layout.form c.args.frame.now)) c.if-frame-eq-AUTH_BAD_METHOD.false)) m
