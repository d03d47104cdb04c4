use Rattle.cx_client_session.specs.cx_client_connect.proofs.session.Writable.{short_body}
use Rattle.cx_client_session.proofs.sending.seal_operation.Goals as goal

pub seal_message-requires : goal.seal_message-requires
seal_message-requires c =
    let text = rw c.new-body.ensures at c.in_ok-put_operation.ensures.ok in
    rw text (short_body c.args.operation.now c.requires)
