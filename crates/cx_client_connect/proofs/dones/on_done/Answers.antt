use Rattle.std.proofs.Common.{Option}
use Rattle.cx_client_connect.specs.cx_rules_session.specs.Sessions.{HeldSession}
use Rattle.cx_client_connect.proofs.dones.on_done.Goals as goal

pub returns-then-done-eq2 : goal.returns-then-done-eq2
returns-then-done-eq2 c =
    λ (session : Option HeldSession).
    let m = rw c.bytes.ensures at (c.on_reply.ensures session) in
    rw (c.in_ok-done.was, c.if-done-eq2.true) m
