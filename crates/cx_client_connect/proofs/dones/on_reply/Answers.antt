-- What opened is logged first.
use Rattle.std.proofs.Common.{List, Option, Err, [], arith, subst}
use Rattle.cx_authorize.specs.Client.{IsAgreed}
use Rattle.cx_steps.specs.declared.seals.SealEntry.{SealEntry}
use Rattle.cx_node.specs.cx_rules.specs.Payloads.{whole}
use Rattle.cx_client_connect.specs.cx_rules_session.specs.Forgets.{abridged_call_link}
use Rattle.cx_client_connect.specs.cx_rules_session.specs.Presenter.{AwaitsDone, CallArrival, on_authorize_reply}
use Rattle.cx_client_connect.specs.cx_rules_session.specs.Sessions.{HeldSession}
use Rattle.cx_node.proofs.steps.MadeRows.{behind_as}
use Rattle.cx_login.specs.cx_wire.specs.Logins.{authorize_reply_layout}
use Rattle.cx_client_connect.specs.presenting.Rows.{arrived, caller, changed}
use Rattle.cx_client_connect.specs.presenting.Stages.{awaiting_done}
use Rattle.cx_client_connect.proofs.presenting.Behind.{reply_refused, reply_taken, signed_row}
use Rattle.cx_client_connect.proofs.dones.on_reply.Goals as goal

pub returns-in_ok-row-in-Ok : goal.returns-in_ok-row-in-Ok
returns-in_ok-row-in-Ok c =
    λ (session : Option HeldSession).
    let a : CallArrival = arrived (caller c.args.mon_client.now session) c.args.at.now (awaiting_done c.args.at.now.number c.args.link c.args.callee c.args.answering) in
    let agreed = rw c.new-opened.ensures at c.in-Ok.ensures in
    behind_as abridged_call_link changed a c.done.new.log (signed_row a c.args.callee c.args.answering.nonce [] c.in-Ok.agreed)
    (on_authorize_reply a c.args.callee c.args.answering (whole authorize_reply_layout.form c.args.payload.now)) c.signs-made.result c.in_ok-row-in-Ok.row
    (reply_taken a c.args.callee c.args.answering c.args.payload.now c.done.new.log c.in-Ok.agreed agreed)
    (c.signs-made.ensures (AwaitsDone c.args.callee c.args.answering) c.args.answering.nonce session) c.in_ok-row-in-Ok.ensures

pub returns-in_ok-row-in-Err : goal.returns-in_ok-row-in-Err
returns-in_ok-row-in-Err c =
    λ (session : Option HeldSession).
    let a : CallArrival = arrived (caller c.args.mon_client.now session) c.args.at.now (awaiting_done c.args.at.now.number c.args.link c.args.callee c.args.answering) in
    let Refused : List SealEntry → Type 0 = λ old. IsAgreed c.args.answering c.args.payload.now old c.done.new.log (Err c.in-Err.why) in
    let refused : Refused [] = subst Refused c.new-opened.ensures c.in-Err.ensures in
    let is = rw c.no_row.ensures at c.in_ok-row-in-Err.ensures in
    reply_refused a c.args.callee c.args.answering c.args.payload.now c.done.new.log c.in-Err.why c.in_ok-row-in-Err.row (λ i. omega (arith, c.type_inv.payload i)) refused is
