use Rattle.std.proofs.Common.{arith, sym}
use Rattle.cx_node.specs.cx_rules.proofs.Payloads.{read_is, unread_is}
use Rattle.cx_wire.specs.Operations.{operation_layout}
use Rattle.cx_daemon_session.proofs.instructions.operation_in.Goals as goal

pub returns-in-Ok-clause-read : goal.returns-in-Ok-clause-read
returns-in-Ok-clause-read c = sym (read_is operation_layout c.args.body.now c.in-Ok.operation c.in-Ok.ensures)

pub returns-in-Err-Malformed-clause-read : goal.returns-in-Err-Malformed-clause-read
returns-in-Err-Malformed-clause-read c =
    sym (unread_is operation_layout c.args.body.now c.in-Err-Malformed.place (λ i. omega (arith, c.type_inv.body i))
    (rw c.in-Err-Malformed.field-0-is at c.in-Err-Malformed.ensures))
