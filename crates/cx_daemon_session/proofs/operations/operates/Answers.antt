-- What was begun is the turn of the rules, and so is what it came to with the book.
use Rattle.std.proofs.Common.{None}
use Rattle.cx_desk.specs.Handlers.{Handlers}
use Rattle.cx_desk.specs.Held.{handlers_of}
use Rattle.cx_daemon_session.proofs.coming.Made.{ok_each}
use Rattle.cx_daemon_session.specs.coming.Hosted.{done_as}
use Rattle.cx_daemon_session.specs.messages.Pending.{behind_check, begun_as}
use Rattle.cx_daemon_session.specs.declared.messages_pending.OpenTurn.TheVariants as begun
use Rattle.cx_session.specs.declared.call.BookCall.TheVariants.{Check}
use Rattle.cx_daemon_session.specs.cx_verifying.specs.Stages.{IncomingLink, open_link}
use Rattle.cx_daemon_session.specs.turn.Hosting.{IsHosted, IsMade}
use Rattle.cx_daemon_session.specs.declared.hosting.HostedTurn.{HostedTurn}
use Rattle.cx_daemon_session.proofs.turn.Made.{done_made, done_turn, hosted_as, hosted_asked}
use Rattle.cx_daemon_session.proofs.operations.operates.Goals as goal

pub returns-in-Done-clause-hosted : goal.returns-in-Done-clause-hosted
returns-in-Done-clause-hosted g c =
    let handlers : Handlers = handlers_of c.args.desk.now in
    let link : IncomingLink = open_link c.args.at.now.number c.args.secure c.args.served in
    let one = rw c.in-Done.is at (c.in_ok-came.ensures.begun handlers) in
    let stays = rw c.in-Done.is at c.in_ok-came.ensures.stays in
    rw c.of.ensures (hosted_as handlers c.args.mon_client.now c.args.at.now link c.args.book.now.book (done_turn c.in-Done.came) (done_as c.args.mon_client.now c.in-Done.came None) one
    (done_made c.args.mon_client.now c.args.at.now.number c.args.book.now.book c.in-Done.came stays.1) stays.0)

pub returns-in-Checks-clause-hosted : goal.returns-in-Checks-clause-hosted
returns-in-Checks-clause-hosted g c =
    let handlers : Handlers = handlers_of c.args.desk.now in
    let link : IncomingLink = open_link c.args.at.now.number c.args.secure c.args.served in
    let one = rw c.in-Checks.is at (c.in_ok-came.ensures.begun handlers) in
    ok_each (IsMade c.args.mon_client.now c.args.at.now.number c.args.book.now.book (begun_as handlers c.args.mon_client.now c.args.at.now (begun.Checks c.in-Checks.checking)))
    (IsHosted handlers c.args.mon_client.now c.args.at.now link c.args.book.now.book) c.checks.result
    (λ (h : HostedTurn) is. hosted_asked handlers c.args.mon_client.now c.args.at.now link c.args.book.now.book h
    (Check c.in-Checks.checking.served.number c.in-Checks.checking.served.epoch c.in-Checks.checking.instruction.seq)
    (behind_check handlers c.args.mon_client.now c.args.at.now c.in-Checks.checking) one is)
    c.checks.ensures.made
