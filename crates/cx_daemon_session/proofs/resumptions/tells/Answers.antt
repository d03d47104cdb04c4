-- Why the session isn't resumed is entered before it is told.
use Rattle.std.proofs.Common.{[], refl, subst}
use Rattle.cx_base.specs.declared.nodes.NodeName.TheVariants as node
use Rattle.cx_frame.specs.declared.frame.Frame.{Frame}
use Rattle.cx_journal.specs.declared.entries.Entry.{Entry}
use Rattle.cx_link.specs.Wires.{SecureWire}
use Rattle.cx_node.specs.cx_rules.specs.Acceptor.{AwaitsIdent}
use Rattle.cx_node.specs.cx_rules.specs.Rows.{refused_entry, sends_secure}
use Rattle.cx_node.specs.cx_rules.specs.Secured.{secure_frame}
use Rattle.cx_daemon_session.specs.cx_rules_session.specs.IncomingLinks.{IncomingArrival, IncomingRow}
use Rattle.cx_daemon_session.specs.cx_rules_session.specs.Kinds.{entered_before}
use Rattle.cx_node.specs.steps.Sending.{SendsSecure}
use Rattle.cx_node.specs.steps.Stages.{keys_alone}
use Rattle.cx_daemon_session.specs.cx_verifying.specs.Rows.{MakesRow}
use Rattle.cx_daemon_session.specs.cx_verifying.specs.Stages.{IncomingLink, awaiting_ident}
use Rattle.cx_daemon_session.specs.idents.Pending.{ident_arrival}
use Rattle.cx_daemon_session.proofs.resumptions.tells.Goals as goal

pub returns : goal.returns
returns c = λ (wire : SecureWire) (f : Frame) (sends : SendsSecure wire (secure_frame wire.keys f) c.args.sent).
    let a : IncomingArrival = ident_arrival c.args.mon_client.now c.args.at.now wire c.args.owner in
    let link : IncomingLink = awaiting_ident c.args.at.now.number wire c.args.owner in
    let due : IncomingRow = sends_secure a (keys_alone wire.keys) (λ behind. AwaitsIdent behind c.args.owner) [] f in
    let Entered : Entry → Type 0 = λ first. MakesRow a (entered_before first due) c.entered-behind.result in
    let first = rw c.in_ok-me.ensures at c.in_ok-first.ensures in
    let behind = subst Entered first (c.entered-behind.ensures link due refl (c.stays-made.ensures wire f sends)) in
    c.come.ensures link (entered_before (refused_entry a.me a.link.number c.args.why) due) refl behind
