-- What was begun is the turn of the rules, and so is what it came to with the book.
use Rattle.std.proofs.Common.{None}
use Rattle.cx_desk.specs.Handlers.{Handlers}
use Rattle.cx_daemon_session.proofs.coming.Made.{ok_each}
use Rattle.cx_daemon_session.specs.coming.Hosted.{done_as}
use Rattle.cx_daemon_session.specs.idents.Pending.{behind_admission, behind_resumption, begun_as}
use Rattle.cx_daemon_session.specs.declared.idents_pending.IdentTurn.TheVariants as begun
use Rattle.cx_daemon_session.specs.cx_verifying.specs.Stages.{IncomingLink, awaiting_ident}
use Rattle.cx_daemon_session.specs.turn.Hosting.{IsHosted, IsMade}
use Rattle.cx_daemon_session.specs.declared.hosting.HostedTurn.{HostedTurn}
use Rattle.cx_daemon_session.proofs.turn.Made.{done_made, done_turn, hosted_as, hosted_asked}
use Rattle.cx_daemon_session.proofs.turn_idents.identifies.Goals as goal

pub returns-in-Done-clause-hosted : goal.returns-in-Done-clause-hosted
returns-in-Done-clause-hosted c = λ (handlers : Handlers).
    let link : IncomingLink = awaiting_ident c.args.at.now.number c.args.secure c.args.owner in
    let one = rw c.in-Done.is at (c.in_ok-came.ensures.begun handlers) in
    let stays = rw c.in-Done.is at c.in_ok-came.ensures.stays in
    rw c.of.ensures (hosted_as handlers c.args.mon_client.now c.args.at.now link c.args.book.now.book (done_turn c.in-Done.came) (done_as c.args.mon_client.now c.in-Done.came None) one
    (done_made c.args.mon_client.now c.args.at.now.number c.args.book.now.book c.in-Done.came stays.1) stays.0)

pub returns-in-Admits-clause-hosted : goal.returns-in-Admits-clause-hosted
returns-in-Admits-clause-hosted c = λ (handlers : Handlers).
    let link : IncomingLink = awaiting_ident c.args.at.now.number c.args.secure c.args.owner in
    let one = rw c.in-Admits.is at (c.in_ok-came.ensures.begun handlers) in
    ok_each (IsMade c.args.mon_client.now c.args.at.now.number c.args.book.now.book (begun_as c.args.mon_client.now c.args.at.now (begun.Admits c.in-Admits.admitting)))
    (IsHosted handlers c.args.mon_client.now c.args.at.now link c.args.book.now.book) c.admits.result
    (λ (h : HostedTurn) is. hosted_asked handlers c.args.mon_client.now c.args.at.now link c.args.book.now.book h c.in-Admits.admitting.call
    (behind_admission c.args.mon_client.now c.args.at.now c.in-Admits.admitting) one is)
    c.admits.ensures.made

pub returns-in-Resumes-clause-hosted : goal.returns-in-Resumes-clause-hosted
returns-in-Resumes-clause-hosted c = λ (handlers : Handlers).
    let link : IncomingLink = awaiting_ident c.args.at.now.number c.args.secure c.args.owner in
    let one = rw c.in-Resumes.is at (c.in_ok-came.ensures.begun handlers) in
    ok_each (IsMade c.args.mon_client.now c.args.at.now.number c.args.book.now.book (begun_as c.args.mon_client.now c.args.at.now (begun.Resumes c.in-Resumes.resuming)))
    (IsHosted handlers c.args.mon_client.now c.args.at.now link c.args.book.now.book) c.resumes.result
    (λ (h : HostedTurn) is. hosted_asked handlers c.args.mon_client.now c.args.at.now link c.args.book.now.book h c.in-Resumes.resuming.call
    (behind_resumption c.args.mon_client.now c.args.at.now c.in-Resumes.resuming) one is)
    c.resumes.ensures.made
