use Rattle.cx_client_connect.proofs.session.Writable.{short_body}
use Rattle.cx_client_connect.proofs.frames.operation_body.Goals as goal

pub returns-clause-short : goal.returns-clause-short
returns-clause-short c =
    let text = rw c.new-body.ensures at c.in_ok-put_operation.ensures.ok in
    rw text (short_body c.args.operation.now c.requires)
