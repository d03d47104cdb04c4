use Rattle.std.proofs.Common.{◌∙◌, [], Option, ap, sym}
use Rattle.cx_node.specs.cx_rules.specs.Rows.{secure_sent}
use Rattle.cx_client_session.specs.cx_rules_session.specs.Forgets.{abridged_call_link}
use Rattle.cx_client_session.specs.cx_rules_session.specs.Presenter.{CallArrival, CallRow, Open, on_answer_or_ack}
use Rattle.cx_client_session.specs.cx_rules_session.specs.Sessions.{HeldSession}
use Rattle.cx_node.proofs.steps.Keeping.{keepalive-row, other-row}
use Rattle.cx_node.proofs.steps.MadeRows.{makes_as}
use Rattle.cx_node.specs.steps.Making.{row_due}
use Rattle.cx_node.specs.steps.Stages.{keys_alone}
use Rattle.cx_node.specs.steps.Upkeep.{upkept}
use Rattle.cx_client_session.specs.cx_client_connect.specs.presenting.Rows.{arrived, caller, changed}
use Rattle.cx_client_session.specs.cx_client_connect.specs.presenting.Stages.{open_link}
use Rattle.cx_client_session.specs.operations.Frames.{on_open}
use Rattle.cx_client_session.proofs.open.on_open.Goals as goal

pub returns-then-is_keepalive : goal.returns-then-is_keepalive
returns-then-is_keepalive c =
    λ (session : Option HeldSession).
    let a : CallArrival = arrived (caller c.args.mon_client.now session) c.args.at.now (open_link c.args.at.now.number c.args.link c.args.callee c.args.cookie) in
    let due : CallRow → CallRow = λ row. row_due abridged_call_link row in
    makes_as abridged_call_link changed a (secure_sent a (keys_alone c.args.link.keys) (λ behind. Open behind c.args.callee c.args.cookie) [] (upkept c.args.link.keys c.args.frame.now))
    (on_open a (keys_alone c.args.link.keys) c.args.callee c.args.cookie c.args.frame.now) c.stays_open.result
    (ap due (keepalive-row a c.args.link.keys (λ behind. Open behind c.args.callee c.args.cookie) (on_answer_or_ack a (keys_alone c.args.link.keys) c.args.callee c.args.cookie) c.args.frame.now
    (sym c.is_keepalive.ensures ∙ c.if-is_keepalive.true)))
    (c.stays_open.ensures session)

pub returns-else-is_keepalive : goal.returns-else-is_keepalive
returns-else-is_keepalive c =
    λ (session : Option HeldSession).
    let a : CallArrival = arrived (caller c.args.mon_client.now session) c.args.at.now (open_link c.args.at.now.number c.args.link c.args.callee c.args.cookie) in
    let due : CallRow → CallRow = λ row. row_due abridged_call_link row in
    makes_as abridged_call_link changed a (on_answer_or_ack a (keys_alone c.args.link.keys) c.args.callee c.args.cookie c.args.frame.now)
    (on_open a (keys_alone c.args.link.keys) c.args.callee c.args.cookie c.args.frame.now) c.on_answer_or_ack.result
    (ap due (other-row a (keys_alone c.args.link.keys) (λ behind. Open behind c.args.callee c.args.cookie) (on_answer_or_ack a (keys_alone c.args.link.keys) c.args.callee c.args.cookie)
    c.args.frame.now (sym c.is_keepalive.ensures ∙ c.if-is_keepalive.false)))
    (c.on_answer_or_ack.ensures session)
