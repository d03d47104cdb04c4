use Rattle.std.proofs.Common.{arith}
use Rattle.cx_holdings.proofs.Answering.{opened_all, opened_none, opened_nothing}
use Rattle.cx_holdings.proofs.steps.opened.Goals as goal

pub returns-in-Ok : goal.returns-in-Ok
returns-in-Ok c = opened_all c.args.secret.now c.args.payload.now c.args.seals.now c.opened_login.new.seals c.in-Ok.login c.in-Ok.ensures.login

pub returns-in-Malformed : goal.returns-in-Malformed
returns-in-Malformed c =
    opened_nothing c.args.secret.now c.args.payload.now c.args.seals.now c.opened_login.new.seals c.in-Malformed.place (λ i. omega (arith, c.type_inv.payload i))
    (rw c.in-Malformed.is at c.in-Err.ensures.login)

pub returns-in-Unopened : goal.returns-in-Unopened
returns-in-Unopened c = opened_none c.args.secret.now c.args.payload.now c.args.seals.now c.opened_login.new.seals (rw c.in-Unopened.is at c.in-Err.ensures.login)
