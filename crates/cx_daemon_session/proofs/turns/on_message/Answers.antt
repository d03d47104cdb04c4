-- What can't be read is refused before the book is asked.
use Rattle.std.proofs.Common.{◌≡◌, ◌∙◌, [], None, Result, Err, refl, sym, ap}
use Rattle.cx_desk.specs.Handlers.{Handlers}
use Rattle.cx_journal.specs.declared.faults.BytesFault.{BytesFault}
use Rattle.cx_node.specs.cx_rules.specs.Messages.{message_in}
use Rattle.cx_node.specs.cx_rules.specs.Rows.{refuses_bytes}
use Rattle.cx_daemon_session.specs.cx_rules_session.specs.IncomingLinks.{IncomingArrival, IncomingRow}
use Rattle.cx_daemon_session.specs.cx_rules_session.specs.Hosting.{Deciding, Hosted, Instruction, instruction_of, on_message}
use Rattle.cx_node.specs.steps.Stages.{keys_alone}
use Rattle.cx_daemon_session.specs.cx_verifying.specs.Stages.{IncomingLink, open_link}
use Rattle.cx_daemon_session.proofs.coming.Deciding.{one-from}
use Rattle.cx_daemon_session.proofs.coming.Made.{come_stays}
use Rattle.cx_daemon_session.specs.coming.Hosted.{done_as, due_behind}
use Rattle.cx_daemon_session.specs.messages.Pending.{open_arrival}
use Rattle.cx_daemon_session.proofs.turns.on_message.Goals as goal

pub returns-in_ok-came-in-Err-clause-begun : goal.returns-in_ok-came-in-Err-clause-begun
returns-in_ok-came-in-Err-clause-begun c = λ (handlers : Handlers).
    let a : IncomingArrival = open_arrival c.args.mon_client.now c.args.at.now c.args.link c.args.served in
    let due : IncomingRow = refuses_bytes a c.in-Err.why [] in
    let is = c.in_ok-came-in-Err.ensures (open_link c.args.at.now.number c.args.link c.args.served) due refl (rw c.from.ensures refl) in
    let decided : Result Instruction BytesFault → Deciding Hosted = λ read. due_behind c.args.opened (on_message handlers a (keys_alone c.args.link.keys) c.args.served read) in
    one-from (done_as c.args.mon_client.now c.in_ok-came-in-Err.came None) (decided (instruction_of (message_in c.args.frame.now)))
    (is.made ∙ ap decided (sym c.in-Err.is ∙ c.in_ok-instruction.ensures))

pub returns-in_ok-came-in-Err-clause-stays : goal.returns-in_ok-came-in-Err-clause-stays
returns-in_ok-came-in-Err-clause-stays c =
    let a : IncomingArrival = open_arrival c.args.mon_client.now c.args.at.now c.args.link c.args.served in
    let due : IncomingRow = refuses_bytes a c.in-Err.why [] in
    let is = c.in_ok-came-in-Err.ensures (open_link c.args.at.now.number c.args.link c.args.served) due refl (rw c.from.ensures refl) in
    come_stays c.args.mon_client.now c.args.at.now.number c.args.opened due c.in_ok-came-in-Err.came is
