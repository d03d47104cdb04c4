use Rattle.std.proofs.Common.{sym}
use Rattle.cx_node.proofs.Wholes.{whole_spelled}
use Rattle.cx_node.proofs.payloads.whole.Goals as goal

pub returns-in-Ok : goal.returns-in-Ok
returns-in-Ok g c = sym (whole_spelled g.T.Encoded.layout.form g.T.Encoded.layout.lawful c.args.bytes.now c.in-Ok.value c.in-Ok.ensures.found)
