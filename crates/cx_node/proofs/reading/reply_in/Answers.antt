use Rattle.std.proofs.Common.{arith, sym}
use Rattle.cx_wire.specs.Bodies.{reply_layout}
use Rattle.cx_node.proofs.messages.Bodies.{misspelled_as, other_as, spelled_as}
use Rattle.cx_node.proofs.reading.reply_in.Goals as goal

pub returns-in-Ok-clause-read : goal.returns-in-Ok-clause-read
returns-in-Ok-clause-read c = sym (spelled_as reply_layout c.args.body.now c.in-Ok.reply c.in-Ok.ensures)

pub returns-in-OtherCode-clause-read : goal.returns-in-OtherCode-clause-read
returns-in-OtherCode-clause-read c =
    sym (other_as reply_layout c.args.body.now c.in-OtherCode.field-0 (λ i. omega (arith, c.type_inv.body i)) (rw c.in-OtherCode.is at c.in-Err.ensures))

pub returns-in-Malformed-clause-read : goal.returns-in-Malformed-clause-read
returns-in-Malformed-clause-read c =
    sym (misspelled_as reply_layout c.args.body.now c.in-Malformed.place (λ i. omega (arith, c.type_inv.body i)) (rw c.in-Malformed.is at c.in-Err.ensures))
