-- A frame of any other tag is refused.
use Rattle.std.proofs.Common.{◌≡◌, ◌∙◌, ◌==◌, Bool, [], None, refl, sym, ap}
use Rattle.std.specs.Prelude.{if◌then◌else◌}
use Rattle.cx_control.specs.Idents.{client_ident_layout}
use Rattle.cx_control.specs.Reconnects.{session_reconnect_layout}
use Rattle.cx_journal.specs.declared.faults.BytesFault.TheVariants.{Unexpected}
use Rattle.cx_node.specs.cx_rules.specs.Payloads.{payload}
use Rattle.cx_node.specs.cx_rules.specs.Rows.{refuses_bytes}
use Rattle.cx_daemon_session.specs.cx_rules_session.specs.IncomingLinks.{IncomingArrival, IncomingRow}
use Rattle.cx_daemon_session.specs.cx_rules_session.specs.Hosting.{Deciding, Hosted, comes_to, on_client_ident, on_ident, on_reconnect}
use Rattle.cx_node.specs.steps.Stages.{keys_alone}
use Rattle.cx_daemon_session.specs.cx_verifying.specs.Stages.{awaiting_ident}
use Rattle.cx_daemon_session.proofs.coming.Deciding.{one-from}
use Rattle.cx_daemon_session.proofs.coming.Made.{come_stays}
use Rattle.cx_daemon_session.specs.coming.Hosted.{done_as, due_behind}
use Rattle.cx_daemon_session.specs.idents.Pending.{ident_arrival}
use Rattle.cx_daemon_session.proofs.idents.Behind.{unequal}
use Rattle.cx_daemon_session.proofs.idents_idents.on_ident.Goals as goal

pub returns-in_ok-came-clause-begun : goal.returns-in_ok-came-clause-begun
returns-in_ok-came-clause-begun c =
    let a : IncomingArrival = ident_arrival c.args.mon_client.now c.args.at.now c.args.link c.args.owner in
    let due : IncomingRow = refuses_bytes a (Unexpected c.args.frame.now.tag) [] in
    let is = c.in_ok-came.ensures (awaiting_ident c.args.at.now.number c.args.link c.args.owner) due refl (rw c.from-why.ensures refl) in
    let reconnect : Deciding Hosted = on_reconnect a (keys_alone c.args.link.keys) c.args.owner (payload session_reconnect_layout.form c.args.frame.now) in
    let client : Deciding Hosted = on_client_ident a (keys_alone c.args.link.keys) c.args.owner (payload client_ident_layout.form c.args.frame.now) in
    let first : Bool → Deciding Hosted = λ test.
    due_behind c.args.opened (if test then client else if c.args.frame.now.tag == 11 then reconnect else comes_to due) in
    let second : Bool → Deciding Hosted = λ test. due_behind c.args.opened (if test then reconnect else comes_to due) in
    one-from (done_as c.args.mon_client.now c.in_ok-came.came None)
    (due_behind c.args.opened (on_ident a (keys_alone c.args.link.keys) c.args.owner c.args.frame.now))
    (is.made ∙ sym (ap first (unequal c.args.frame.now.tag 8 c.if-frame-eq-CLIENT_IDENT.false) ∙ ap second (unequal c.args.frame.now.tag 11 c.if-frame-eq-SESSION_RECONNECT.false)))

pub returns-in_ok-came-clause-stays : goal.returns-in_ok-came-clause-stays
returns-in_ok-came-clause-stays c =
    let a : IncomingArrival = ident_arrival c.args.mon_client.now c.args.at.now c.args.link c.args.owner in
    let due : IncomingRow = refuses_bytes a (Unexpected c.args.frame.now.tag) [] in
    let is = c.in_ok-came.ensures (awaiting_ident c.args.at.now.number c.args.link c.args.owner) due refl (rw c.from-why.ensures refl) in
    come_stays c.args.mon_client.now c.args.at.now.number c.args.opened due c.in_ok-came.came is
