use Rattle.std.proofs.Common.{◌≡◌, ℕ, Ok}
use Rattle.cx_journal.specs.declared.entries.Entry.{Entry}
use Rattle.cx_client_session.specs.cx_rules_session.specs.ClientRule.{WholeClient}
use Rattle.cx_client_session.specs.cx_rules_session.specs.Sessions.{session_with}
use Rattle.cx_client.specs.calls.Sending.{numbered}
use Rattle.cx_client.proofs.calls.Sent.{pushed_step}
use Rattle.cx_client.proofs.sending.sends.Goals as goal

pub returns-in-Ok-clause-step : goal.returns-in-Ok-clause-step
returns-in-Ok-clause-step c =
    let own : WholeClient = c.args.own.now.client in
    let paired : ℕ × Entry = (c.in-Ok.number, c.in-Ok.sent) in
    let taken : Ok paired ≡ numbered own c.args.operation (session_with c.args.daemon.now own.sessions) = cc (c.in-Ok.is, c.in_ok-why.ensures) in
    pushed_step own c.args.links.now.links c.args.daemon.now c.args.operation c.args.now c.args.draw.now.bytes c.pushes.new.own.client c.pushes.new.links.links c.in-Ok.number
    c.in-Ok.sent c.pushes.result taken c.pushes.ensures.step
