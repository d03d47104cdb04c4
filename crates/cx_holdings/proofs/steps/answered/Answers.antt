use Rattle.std.proofs.Common.{arith}
use Rattle.cx_wire.specs.Logins.{server_challenge_layout}
use Rattle.cx_rules.proofs.Payloads.{unread_is}
use Rattle.cx_holdings.proofs.steps.answered.Goals as goal

pub returns-in-Malformed : goal.returns-in-Malformed
returns-in-Malformed c =
    unread_is server_challenge_layout c.args.payload.now c.in-Malformed.place (λ i. omega (arith, c.type_inv.payload i)) (rw c.in-Malformed.is at c.in-Err.ensures)
