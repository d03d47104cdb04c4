use Rattle.std.proofs.Common.{ap, sym, []}
use Rattle.std.specs.Option.{option_copied}
use Rattle.cx_control.specs.Reconnects.{session_reconnect_ok_layout, session_reset_layout, session_retry_layout, session_retry_global_layout}
use Rattle.cx_journal.specs.declared.faults.BytesFault.TheVariants.{Unexpected}
use Rattle.cx_node.specs.cx_rules.specs.Payloads.{payload}
use Rattle.cx_node.specs.cx_rules.specs.Rows.{refuses_bytes}
use Rattle.cx_node.specs.cx_rules.specs.Secured.{Secured}
use Rattle.cx_client_connect.specs.cx_rules_session.specs.Forgets.{abridged_call_link}
use Rattle.cx_client_connect.specs.cx_rules_session.specs.Presenter.{AwaitsReconnect, CallArrival, CallRow, on_reconnect_ok, on_reset, on_retry, on_retry_global, while_reconnecting}
use Rattle.cx_node.proofs.steps.MadeRows.{makes_as}
use Rattle.cx_node.specs.steps.Making.{row_due}
use Rattle.cx_node.specs.steps.Stages.{keys_alone}
use Rattle.cx_client_connect.specs.presenting.Rows.{arrived, caller, changed}
use Rattle.cx_client_connect.specs.presenting.Stages.{awaiting_reconnect}
use Rattle.cx_client_session.proofs.calling.Sending.{tag_global, tag_ok, tag_other, tag_reset, tag_retry}
use Rattle.cx_client_session.proofs.reconnects.while_reconnecting.Goals as goal

pub returns-in_ok-read : goal.returns-in_ok-read
returns-in_ok-read c =
    let a : CallArrival = arrived (caller c.args.mon_client.now (option_copied c.args.session)) c.args.at.now (awaiting_reconnect c.args.at.now.number c.args.link c.args.callee c.args.cookie) in
    let s : Secured = keys_alone c.args.link.keys in
    let due : CallRow → CallRow = λ row. row_due abridged_call_link row in
    let ok : CallRow = on_reconnect_ok a s c.args.callee c.args.cookie (payload session_reconnect_ok_layout.form c.args.frame.now) in
    let reset : CallRow = on_reset a s c.args.callee (payload session_reset_layout.form c.args.frame.now) in
    let retry : CallRow = on_retry a s c.args.callee (payload session_retry_layout.form c.args.frame.now) in
    let global : CallRow = on_retry_global a s c.args.callee (payload session_retry_global_layout.form c.args.frame.now) in
    let other : CallRow = refuses_bytes a (Unexpected c.args.frame.now.tag) [] in
    let m = rw c.in_ok-read.ensures at (c.on_reconnect_ok.ensures (AwaitsReconnect s c.args.callee c.args.cookie)) in
    makes_as abridged_call_link changed a ok (while_reconnecting a s c.args.callee c.args.cookie c.args.frame.now) c.on_reconnect_ok.result
    (ap due (tag_ok c.args.frame.now.tag ok reset retry global other c.if-frame-eq-SESSION_RECONNECT_OK.true)) m

pub returns-in_ok-read-2 : goal.returns-in_ok-read-2
returns-in_ok-read-2 c =
    let a : CallArrival = arrived (caller c.args.mon_client.now (option_copied c.args.session)) c.args.at.now (awaiting_reconnect c.args.at.now.number c.args.link c.args.callee c.args.cookie) in
    let s : Secured = keys_alone c.args.link.keys in
    let due : CallRow → CallRow = λ row. row_due abridged_call_link row in
    let ok : CallRow = on_reconnect_ok a s c.args.callee c.args.cookie (payload session_reconnect_ok_layout.form c.args.frame.now) in
    let reset : CallRow = on_reset a s c.args.callee (payload session_reset_layout.form c.args.frame.now) in
    let retry : CallRow = on_retry a s c.args.callee (payload session_retry_layout.form c.args.frame.now) in
    let global : CallRow = on_retry_global a s c.args.callee (payload session_retry_global_layout.form c.args.frame.now) in
    let other : CallRow = refuses_bytes a (Unexpected c.args.frame.now.tag) [] in
    let m = rw c.in_ok-read-2.ensures at (c.on_reset.ensures (option_copied c.args.session) (AwaitsReconnect s c.args.callee c.args.cookie)) in
    makes_as abridged_call_link changed a reset (while_reconnecting a s c.args.callee c.args.cookie c.args.frame.now) c.on_reset.result
    (ap due (tag_reset c.args.frame.now.tag ok reset retry global other c.if-frame-eq-SESSION_RESET.true)) m

pub returns-in_ok-read-3 : goal.returns-in_ok-read-3
returns-in_ok-read-3 c =
    let a : CallArrival = arrived (caller c.args.mon_client.now (option_copied c.args.session)) c.args.at.now (awaiting_reconnect c.args.at.now.number c.args.link c.args.callee c.args.cookie) in
    let s : Secured = keys_alone c.args.link.keys in
    let due : CallRow → CallRow = λ row. row_due abridged_call_link row in
    let ok : CallRow = on_reconnect_ok a s c.args.callee c.args.cookie (payload session_reconnect_ok_layout.form c.args.frame.now) in
    let reset : CallRow = on_reset a s c.args.callee (payload session_reset_layout.form c.args.frame.now) in
    let retry : CallRow = on_retry a s c.args.callee (payload session_retry_layout.form c.args.frame.now) in
    let global : CallRow = on_retry_global a s c.args.callee (payload session_retry_global_layout.form c.args.frame.now) in
    let other : CallRow = refuses_bytes a (Unexpected c.args.frame.now.tag) [] in
    let m = rw c.in_ok-read-3.ensures at (c.on_retry.ensures (AwaitsReconnect s c.args.callee c.args.cookie)) in
    makes_as abridged_call_link changed a retry (while_reconnecting a s c.args.callee c.args.cookie c.args.frame.now) c.on_retry.result
    (ap due (tag_retry c.args.frame.now.tag ok reset retry global other c.if-frame-eq-SESSION_RETRY.true)) m

pub returns-in_ok-read-4 : goal.returns-in_ok-read-4
returns-in_ok-read-4 c =
    let a : CallArrival = arrived (caller c.args.mon_client.now (option_copied c.args.session)) c.args.at.now (awaiting_reconnect c.args.at.now.number c.args.link c.args.callee c.args.cookie) in
    let s : Secured = keys_alone c.args.link.keys in
    let due : CallRow → CallRow = λ row. row_due abridged_call_link row in
    let ok : CallRow = on_reconnect_ok a s c.args.callee c.args.cookie (payload session_reconnect_ok_layout.form c.args.frame.now) in
    let reset : CallRow = on_reset a s c.args.callee (payload session_reset_layout.form c.args.frame.now) in
    let retry : CallRow = on_retry a s c.args.callee (payload session_retry_layout.form c.args.frame.now) in
    let global : CallRow = on_retry_global a s c.args.callee (payload session_retry_global_layout.form c.args.frame.now) in
    let other : CallRow = refuses_bytes a (Unexpected c.args.frame.now.tag) [] in
    let m = rw c.in_ok-read-4.ensures at (c.on_retry_global.ensures (AwaitsReconnect s c.args.callee c.args.cookie)) in
    makes_as abridged_call_link changed a global (while_reconnecting a s c.args.callee c.args.cookie c.args.frame.now) c.on_retry_global.result
    (ap due (tag_global c.args.frame.now.tag ok reset retry global other c.if-frame-eq-SESSION_RETRY_GLOBAL.true)) m

pub returns-else-frame-eq-SESSION_RETRY_GLOBAL : goal.returns-else-frame-eq-SESSION_RETRY_GLOBAL
returns-else-frame-eq-SESSION_RETRY_GLOBAL c =
    let a : CallArrival = arrived (caller c.args.mon_client.now (option_copied c.args.session)) c.args.at.now (awaiting_reconnect c.args.at.now.number c.args.link c.args.callee c.args.cookie) in
    let s : Secured = keys_alone c.args.link.keys in
    let due : CallRow → CallRow = λ row. row_due abridged_call_link row in
    let ok : CallRow = on_reconnect_ok a s c.args.callee c.args.cookie (payload session_reconnect_ok_layout.form c.args.frame.now) in
    let reset : CallRow = on_reset a s c.args.callee (payload session_reset_layout.form c.args.frame.now) in
    let retry : CallRow = on_retry a s c.args.callee (payload session_retry_layout.form c.args.frame.now) in
    let global : CallRow = on_retry_global a s c.args.callee (payload session_retry_global_layout.form c.args.frame.now) in
    let other : CallRow = refuses_bytes a (Unexpected c.args.frame.now.tag) [] in
    rw c.from.ensures (sym (ap due (tag_other c.args.frame.now.tag ok reset retry global other c.if-frame-eq-SESSION_RECONNECT_OK.false c.if-frame-eq-SESSION_RESET.false c.if-frame-eq-SESSION_RETRY.false c.if-frame-eq-SESSION_RETRY_GLOBAL.false)))
