-- A session that was resumed is entered before SESSION_RECONNECT_OK.
use Rattle.std.proofs.Common.{[], refl, subst}
use Rattle.cx_journal.specs.declared.entries.Admitted.{Admitted}
use Rattle.cx_journal.specs.declared.entries.Entry.TheVariants as entry
use Rattle.cx_node.specs.cx_rules.specs.Acceptor.{Open}
use Rattle.cx_node.specs.cx_rules.specs.Rows.{sends_secure}
use Rattle.cx_daemon_session.specs.cx_rules_session.specs.IncomingLinks.{IncomingArrival, IncomingRow}
use Rattle.cx_daemon_session.specs.cx_rules_session.specs.Hosting.{admission_of, reconnect_ok, served_as}
use Rattle.cx_daemon_session.specs.cx_rules_session.specs.Kinds.{entered_before}
use Rattle.cx_node.specs.steps.Stages.{keys_alone}
use Rattle.cx_daemon_session.specs.cx_verifying.specs.Rows.{MakesRow}
use Rattle.cx_daemon_session.specs.cx_verifying.specs.Stages.{IncomingLink, awaiting_ident}
use Rattle.cx_daemon_session.specs.idents.Pending.{ident_arrival}
use Rattle.cx_daemon_session.proofs.resumptions.resume.Goals as goal

pub returns : goal.returns
returns c =
    let a : IncomingArrival = ident_arrival c.args.mon_client.now c.args.at.now c.args.link c.args.owner.now in
    let link : IncomingLink = awaiting_ident c.args.at.now.number c.args.link c.args.owner.now in
    let due : IncomingRow = sends_secure a (keys_alone c.args.link.keys)
    (λ behind. Open behind (served_as c.args.owner.now c.args.number c.args.epoch c.args.reconnect.now.client_cookie c.args.lossy)) [] (reconnect_ok c.args.last) in
    let made = rw c.in_ok-served.ensures at (c.opens-made.ensures c.args.owner.now) in
    let Entered : Admitted → Type 0 = λ told. MakesRow a (entered_before (entry.Resumed told) due) c.entered-behind.result in
    let behind = subst Entered (c.in_ok-told.ensures link) (c.entered-behind.ensures link due refl made) in
    c.come.ensures link (entered_before (entry.Resumed (admission_of a c.args.owner.now c.args.number c.args.epoch c.args.reconnect.now.client_cookie)) due) refl behind
