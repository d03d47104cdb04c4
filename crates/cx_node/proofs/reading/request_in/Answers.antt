use Rattle.std.proofs.Common.{arith, sym}
use Rattle.cx_wire.specs.Bodies.{request_layout}
use Rattle.cx_node.proofs.messages.Bodies.{misspelled_as, other_as, spelled_as}
use Rattle.cx_node.proofs.reading.request_in.Goals as goal

pub returns-in-Ok : goal.returns-in-Ok
returns-in-Ok c = sym (spelled_as request_layout c.args.body.now c.in-Ok.request c.in-Ok.ensures)

pub returns-in-OtherCode : goal.returns-in-OtherCode
returns-in-OtherCode c =
    sym (other_as request_layout c.args.body.now c.in-OtherCode.field-0 (λ i. omega (arith, c.type_inv.body i)) (rw c.in-OtherCode.is at c.in-Err.ensures))

pub returns-in-Malformed : goal.returns-in-Malformed
returns-in-Malformed c =
    sym (misspelled_as request_layout c.args.body.now c.in-Malformed.place (λ i. omega (arith, c.type_inv.body i)) (rw c.in-Malformed.is at c.in-Err.ensures))
