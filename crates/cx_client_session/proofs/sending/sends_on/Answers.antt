use Rattle.std.proofs.Common.{ℕ, Option}
use Rattle.cx_node.specs.cx_rules.specs.Secured.{secure_frame}
use Rattle.cx_client_session.specs.cx_rules_session.specs.Sessions.{Callee, operation_message}
use Rattle.cx_client_session.proofs.operations.Ahead.{sealed_is}
use Rattle.cx_client_session.proofs.sending.sends_on.Goals as goal

pub returns : goal.returns
returns c =
    λ (callee : Callee) (cookie : ℕ).
    rw c.in_ok-row.ensures (sealed_is c.args.mon_client.now c.args.at.now c.args.link.now callee cookie (c.args.number, c.args.operation.now) c.in_ok-made.made c.in_ok-made.ensures)
