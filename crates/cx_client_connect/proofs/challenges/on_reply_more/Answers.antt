use Rattle.std.proofs.Common.{Option}
use Rattle.cx_client_connect.specs.cx_rules_session.specs.Sessions.{HeldSession}
use Rattle.cx_client_connect.proofs.challenges.on_reply_more.Goals as goal

pub returns : goal.returns
returns c =
    λ (session : Option HeldSession).
    let m = rw c.bytes.ensures at (c.on_challenge.ensures session) in
    rw c.in_ok-more.was m
