-- An id of an entity is ASCII.
use Rattle.cx_enc.proofs.Ids.{id_is_ascii}
use Rattle.cx_enc.proofs.names.NameRef.own.Goals as goal

pub unreachable-requires : goal.unreachable-requires
unreachable-requires c =
    let cause = rw c.in-Err-NotAscii.field-0-is at c.in-Err-NotAscii.ensures.err in
    id_is_ascii c.args.self.now.kind c.args.self.now.id.now c.in-Err-NotAscii.field-0-0 c.args.self.now.good cause
