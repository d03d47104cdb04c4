-- A check leaves the book as it is.
use Rattle.std.proofs.Common.{None}
use Rattle.cx_desk.specs.Held.{handlers_of}
use Rattle.cx_daemon_session.specs.coming.Hosted.{done_as}
use Rattle.cx_daemon_session.specs.messages.Pending.{behind_check}
use Rattle.cx_daemon_session.proofs.turn.Made.{checked_made, done_made, done_turn}
use Rattle.cx_daemon_session.proofs.operations.checks.Goals as goal

pub returns-in-Done-clause-made : goal.returns-in-Done-clause-made
returns-in-Done-clause-made g c =
    let e = rw c.call.ensures at c.in_ok-reply.ensures.reply in
    let is = rw c.in-Done.is at (c.in_ok-came.ensures (handlers_of c.args.desk.now)) in
    rw c.of.ensures (checked_made c.args.mon_client.now c.args.at.now.number c.args.book.now.book c.args.checking.served.number c.args.checking.served.epoch
    c.args.checking.instruction.seq (behind_check (handlers_of c.args.desk.now) c.args.mon_client.now c.args.at.now c.args.checking) c.in_ok-reply.reply
    (done_as c.args.mon_client.now c.in-Done.came None) (done_turn c.in-Done.came) e is.0
    (done_made c.args.mon_client.now c.args.at.now.number c.args.book.now.book c.in-Done.came is.1))
