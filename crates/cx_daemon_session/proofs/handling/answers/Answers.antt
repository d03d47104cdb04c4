-- What ended is entered before the answer.
use Rattle.std.proofs.Common.{[], ◌∷◌, refl, subst}
use Rattle.cx_journal.specs.declared.entries.Entry.{Entry}
use Rattle.cx_node.specs.cx_rules.specs.Acceptor.{Open}
use Rattle.cx_node.specs.cx_rules.specs.Messages.{acknowledgement, secure_frames}
use Rattle.cx_node.specs.cx_rules.specs.Rows.{secure_sent}
use Rattle.cx_daemon_session.specs.cx_rules_session.specs.IncomingLinks.{IncomingArrival, IncomingRow}
use Rattle.cx_daemon_session.specs.cx_rules_session.specs.Kinds.{entered_before}
use Rattle.cx_node.specs.steps.Stages.{keys_alone}
use Rattle.cx_daemon_session.specs.cx_verifying.specs.Rows.{MakesRow, arrived}
use Rattle.cx_daemon_session.specs.cx_verifying.specs.Stages.{open_link}
use Rattle.cx_daemon_session.specs.messages.Answering.{answering}
use Rattle.cx_daemon_session.proofs.handling.answers.Goals as goal

pub returns : goal.returns
returns c =
    let a : IncomingArrival = arrived c.args.mon_client.now c.args.at.now (open_link c.args.at.now.number c.args.link c.args.served) in
    let due : IncomingRow = secure_sent a (keys_alone c.args.link.keys) (λ behind. Open behind c.args.served) []
    (secure_frames c.args.link.keys (answering c.args.tid c.args.done.outcome c.args.done.answer ∷ acknowledgement c.args.seq ∷ [])) in
    let Entered : Entry → Type 0 = λ first. MakesRow a (entered_before first due) c.entered.result in
    subst Entered c.in_ok-first.ensures (c.entered.ensures (open_link c.args.at.now.number c.args.link c.args.served) due refl c.sends-made.ensures)
