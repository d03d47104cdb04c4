use Rattle.std.proofs.lemmas.Bool.{ne_eqb}
use Rattle.std.proofs.Common.{◌==◌, Option, ap}
use Rattle.cx_control.specs.Upkeep.{ack_layout}
use Rattle.cx_node.specs.cx_rules.specs.Messages.{message_in}
use Rattle.cx_node.specs.cx_rules.specs.Payloads.{payload}
use Rattle.cx_node.specs.cx_rules.specs.Secured.{Secured}
use Rattle.cx_client_session.specs.cx_rules_session.specs.Forgets.{abridged_call_link}
use Rattle.cx_client_session.specs.cx_rules_session.specs.Presenter.{CallArrival, CallRow, end_in, on_ack, on_answer, on_answer_or_ack}
use Rattle.cx_client_session.specs.cx_rules_session.specs.Sessions.{HeldSession}
use Rattle.cx_node.proofs.steps.MadeRows.{makes_as}
use Rattle.cx_node.specs.steps.Making.{row_due}
use Rattle.cx_node.specs.steps.Stages.{keys_alone}
use Rattle.cx_client_session.specs.cx_client_connect.specs.presenting.Rows.{arrived, caller, changed}
use Rattle.cx_client_session.specs.cx_client_connect.specs.presenting.Stages.{open_link}
use Rattle.cx_client_session.specs.cx_client_connect.proofs.presenting.Behind.{first_of, same_number, second_of}
use Rattle.cx_client_session.proofs.open.on_answer_or_ack.Goals as goal

pub returns-in_ok-read : goal.returns-in_ok-read
returns-in_ok-read c =
    λ (session : Option HeldSession).
    let a : CallArrival = arrived (caller c.args.mon_client.now session) c.args.at.now (open_link c.args.at.now.number c.args.link c.args.callee c.args.cookie) in
    let s : Secured = keys_alone c.args.link.keys in
    let acks : CallRow = on_ack a s c.args.callee c.args.cookie (payload ack_layout.form c.args.frame.now) in
    let answers : CallRow = on_answer a s c.args.callee c.args.cookie (end_in (message_in c.args.frame.now)) in
    let m = rw c.in_ok-read.ensures at (c.on_ack.ensures session) in
    makes_as abridged_call_link changed a acks (on_answer_or_ack a s c.args.callee c.args.cookie c.args.frame.now) c.on_ack.result
    (ap (λ (row : CallRow). row_due abridged_call_link row) (first_of (c.args.frame.now.tag == 20) acks answers (same_number c.args.frame.now.tag 20 c.if-frame-eq-ACK.true))) m

pub returns-in_ok-read-2 : goal.returns-in_ok-read-2
returns-in_ok-read-2 c =
    λ (session : Option HeldSession).
    let a : CallArrival = arrived (caller c.args.mon_client.now session) c.args.at.now (open_link c.args.at.now.number c.args.link c.args.callee c.args.cookie) in
    let s : Secured = keys_alone c.args.link.keys in
    let acks : CallRow = on_ack a s c.args.callee c.args.cookie (payload ack_layout.form c.args.frame.now) in
    let answers : CallRow = on_answer a s c.args.callee c.args.cookie (end_in (message_in c.args.frame.now)) in
    let m = rw c.in_ok-read-2.ensures at (c.on_answer.ensures session) in
    makes_as abridged_call_link changed a answers (on_answer_or_ack a s c.args.callee c.args.cookie c.args.frame.now) c.on_answer.result
    (ap (λ (row : CallRow). row_due abridged_call_link row) (second_of (c.args.frame.now.tag == 20) acks answers (ne_eqb c.args.frame.now.tag 20 c.if-frame-eq-ACK.false))) m
