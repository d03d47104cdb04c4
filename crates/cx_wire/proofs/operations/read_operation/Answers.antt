-- What refuses a payload refuses the operation in it.
use Rattle.std.proofs.lemmas.Result.{err_from_is_err_and}
use Rattle.cx_wire.proofs.Asking.{asked_err}
use Rattle.cx_wire.proofs.operations.read_operation.Goals as goal

pub returns-in_err-asked : goal.returns-in_err-asked
returns-in_err-asked c =
    let p = err_from_is_err_and c.from_residual.result c.from_residual.ensures.1 in
    rw (p.1, p.2) (asked_err c.args.bytes.now c.in_err-asked.field-0.0 c.in_err-asked.ensures)
