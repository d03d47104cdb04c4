-- What opened is logged first.
use Rattle.std.proofs.Common.{Option, [], arith}
use Rattle.cx_node.specs.cx_rules.specs.Payloads.{whole}
use Rattle.cx_client_connect.specs.cx_rules_session.specs.Forgets.{abridged_call_link}
use Rattle.cx_client_connect.specs.cx_rules_session.specs.Presenter.{AwaitsChallenge, CallArrival, on_challenge}
use Rattle.cx_client_connect.specs.cx_rules_session.specs.Sessions.{HeldSession}
use Rattle.cx_node.proofs.steps.MadeRows.{behind_as}
use Rattle.cx_login.specs.cx_wire.specs.Logins.{authorize_challenge_layout}
use Rattle.cx_client_connect.specs.presenting.Rows.{arrived, caller, changed}
use Rattle.cx_client_connect.specs.presenting.Stages.{awaiting_challenge}
use Rattle.cx_client_connect.proofs.presenting.Behind.{answered_row, challenge_refused, challenge_taken}
use Rattle.cx_client_connect.proofs.challenges.on_challenge.Goals as goal

pub returns-in_ok-row-in-Ok : goal.returns-in_ok-row-in-Ok
returns-in_ok-row-in-Ok c =
    λ (session : Option HeldSession).
    let a : CallArrival = arrived (caller c.args.mon_client.now session) c.args.at.now (awaiting_challenge c.args.at.now.number c.args.link c.args.callee c.args.presenting) in
    let asked = rw c.new-opened.ensures at c.in-Ok.ensures in
    behind_as abridged_call_link changed a c.asked.new.log (answered_row a c.args.callee c.args.presenting [] c.in-Ok.challenge)
    (on_challenge a c.args.callee c.args.presenting (whole authorize_challenge_layout.form c.args.payload.now)) c.answer-made.result c.in_ok-row-in-Ok.row
    (challenge_taken a c.args.callee c.args.presenting c.args.payload.now c.asked.new.log c.in-Ok.challenge asked)
    (c.answer-made.ensures (AwaitsChallenge c.args.callee c.args.presenting) session) c.in_ok-row-in-Ok.ensures

pub returns-in_ok-row-in-Err : goal.returns-in_ok-row-in-Err
returns-in_ok-row-in-Err c =
    λ (session : Option HeldSession).
    let a : CallArrival = arrived (caller c.args.mon_client.now session) c.args.at.now (awaiting_challenge c.args.at.now.number c.args.link c.args.callee c.args.presenting) in
    let refused = rw c.new-opened.ensures at c.in-Err.ensures in
    let is = rw c.no_row.ensures at c.in_ok-row-in-Err.ensures in
    challenge_refused a c.args.callee c.args.presenting c.args.payload.now c.asked.new.log c.in-Err.why c.in_ok-row-in-Err.row (λ i. omega (arith, c.type_inv.payload i)) refused is
