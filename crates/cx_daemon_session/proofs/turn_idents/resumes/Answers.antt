-- What is applied is what was asked, and where the book refuses it that changes nothing.
use Rattle.cx_daemon_session.specs.idents.Pending.{behind_resumption}
use Rattle.cx_daemon_session.specs.declared.hosting.HostedTurn.{HostedTurn}
use Rattle.cx_daemon_session.proofs.turn.Made.{applied_behind, replied_made}
use Rattle.cx_daemon_session.proofs.turn_idents.resumes.Goals as goal

pub returns-clause-made : goal.returns-clause-made
returns-clause-made c =
    let e = rw c.call.ensures at c.in_ok-reply.ensures.reply in
    let is = c.in_ok-turn.ensures in
    let h : HostedTurn = record { came = c.in_ok-turn.turn.came; moved = c.in_ok-turn.turn.moved; call = c.in_ok-turn.turn.call } in
    replied_made c.args.mon_client.now c.args.at.now.number c.args.book.now.book c.args.resuming.call (behind_resumption c.args.mon_client.now c.args.at.now c.args.resuming)
    c.in_ok-reply.reply h e is.made (applied_behind c.args.book.now.book c.args.resuming.call c.in_ok-reply.reply c.in_ok-turn.turn.call e is.applied) is.number_is
