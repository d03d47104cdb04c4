-- The link is what is held of it, where its peer has signed.
use Rattle.std.proofs.Common.{IfOk, subst, sym}
use Rattle.cx_desk.specs.Handlers.{Handlers}
use Rattle.cx_desk.specs.Held.{handlers_of}
use Rattle.cx_daemon_session.specs.cx_verifying.specs.Stages.{IncomingLink}
use Rattle.cx_daemon_session.specs.turn.Hosting.{IsHosted}
use Rattle.cx_daemon_session.proofs.turn.Made.{hosted_unasked}
use Rattle.cx_daemon_session.proofs.hosting.hosts.Goals as goal

pub returns-in-Came-clause-hosted : goal.returns-in-Came-clause-hosted
returns-in-Came-clause-hosted g c =
    let handlers : Handlers = handlers_of c.args.desk.now in
    let is = rw c.in-Came.is at (c.in_ok-came.ensures handlers) in
    rw c.of.ensures (hosted_unasked handlers c.args.mon_client.now c.args.at.now c.args.link c.args.book.now.book c.in-Came.came is.0 is.1)

pub returns-in-AwaitsIdent-clause-hosted : goal.returns-in-AwaitsIdent-clause-hosted
returns-in-AwaitsIdent-clause-hosted g c =
    let handlers : Handlers = handlers_of c.args.desk.now in
    let is = rw c.in-AwaitsIdent.is at (c.in_ok-came.ensures handlers) in
    let Of : IncomingLink → Type 0 = λ link. IfOk c.identifies.result (IsHosted handlers c.args.mon_client.now c.args.at.now link c.args.book.now.book) in
    subst Of (sym is) (c.identifies.ensures.hosted handlers)

pub returns-in-Open-clause-hosted : goal.returns-in-Open-clause-hosted
returns-in-Open-clause-hosted g c =
    let handlers : Handlers = handlers_of c.args.desk.now in
    let is = rw c.in-Open.is at (c.in_ok-came.ensures handlers) in
    let Of : IncomingLink → Type 0 = λ link. IfOk c.operates.result (IsHosted handlers c.args.mon_client.now c.args.at.now link c.args.book.now.book) in
    subst Of (sym is) c.operates.ensures.hosted
