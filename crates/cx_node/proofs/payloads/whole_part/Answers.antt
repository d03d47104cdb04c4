use Rattle.std.proofs.Common.{sym}
use Rattle.cx_node.proofs.Wholes.{part_spelled}
use Rattle.cx_node.proofs.payloads.whole_part.Goals as goal

pub returns-in-Ok : goal.returns-in-Ok
returns-in-Ok g c = sym (part_spelled g.T.ReadsPart.whole.form g.T.ReadsPart.whole.lawful g.T.ReadsPart.kept c.args.bytes.now c.in-Ok.value c.in-Ok.ensures.found)
