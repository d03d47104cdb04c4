-- What can't be read is refused before the book is asked.
use Rattle.std.proofs.Common.{◌≡◌, ◌∙◌, ◌==◌, Bool, [], None, Result, Ok, Err, refl, sym, ap}
use Rattle.std.specs.Prelude.{if◌then◌else◌}
use Rattle.cx_control.specs.declared.reconnects.SessionReconnect.{SessionReconnect}
use Rattle.cx_journal.specs.declared.faults.BytesFault.{BytesFault}
use Rattle.cx_node.specs.cx_rules.specs.Acceptor.{misses}
use Rattle.cx_node.specs.cx_rules.specs.Rows.{refuses_bytes}
use Rattle.cx_daemon_session.specs.cx_rules_session.specs.IncomingLinks.{IncomingArrival, IncomingRow}
use Rattle.cx_daemon_session.specs.cx_rules_session.specs.Hosting.{Deciding, Hosted, asks_admission, comes_to, on_reconnect}
use Rattle.cx_node.specs.steps.Stages.{keys_alone}
use Rattle.cx_daemon_session.specs.cx_verifying.specs.Stages.{awaiting_ident}
use Rattle.cx_daemon_session.proofs.coming.Deciding.{one-from}
use Rattle.cx_daemon_session.proofs.coming.Made.{come_stays}
use Rattle.cx_daemon_session.specs.coming.Hosted.{done_as, due_behind}
use Rattle.cx_daemon_session.specs.idents.Pending.{ident_arrival}
use Rattle.cx_daemon_session.proofs.idents_idents.on_reconnect.Goals as goal

pub returns-in_ok-came-in-Err-clause-begun : goal.returns-in_ok-came-in-Err-clause-begun
returns-in_ok-came-in-Err-clause-begun c =
    let a : IncomingArrival = ident_arrival c.args.mon_client.now c.args.at.now c.args.link c.args.owner in
    let due : IncomingRow = refuses_bytes a c.in-Err.why [] in
    let is = c.in_ok-came-in-Err.ensures (awaiting_ident c.args.at.now.number c.args.link c.args.owner) due refl (rw c.from.ensures refl) in
    let decided : Result SessionReconnect BytesFault → Deciding Hosted = λ read. due_behind c.args.opened (on_reconnect a (keys_alone c.args.link.keys) c.args.owner read) in
    one-from (done_as c.args.mon_client.now c.in_ok-came-in-Err.came None) (decided c.args.read) (is.made ∙ ap decided (sym c.in-Err.is))

pub returns-in_ok-came-in-Err-clause-stays : goal.returns-in_ok-came-in-Err-clause-stays
returns-in_ok-came-in-Err-clause-stays c =
    let a : IncomingArrival = ident_arrival c.args.mon_client.now c.args.at.now c.args.link c.args.owner in
    let due : IncomingRow = refuses_bytes a c.in-Err.why [] in
    let is = c.in_ok-came-in-Err.ensures (awaiting_ident c.args.at.now.number c.args.link c.args.owner) due refl (rw c.from.ensures refl) in
    come_stays c.args.mon_client.now c.args.at.now.number c.args.opened due c.in_ok-came-in-Err.came is
