-- A value that was read is one that its form fits.
use Rattle.std.proofs.Common.{sym}
use Rattle.cx_control.specs.Upkeep.{keepalive2_layout}
use Rattle.cx_node.proofs.steps.Controls.{whole_spelled}
use Rattle.cx_node.proofs.upkeep.keepalive_in.Goals as goal

pub returns-in-Ok-clause-read : goal.returns-in-Ok-clause-read
returns-in-Ok-clause-read c = sym (whole_spelled keepalive2_layout.form keepalive2_layout.lawful c.args.bytes.now c.in-Ok.keepalive c.in-Ok.ensures.found)

pub returns-in-Ok-clause-time : goal.returns-in-Ok-clause-time
returns-in-Ok-clause-time c = (c.encoding_laws.ensures.readings c.in-Ok.keepalive.time).0 c.in-Ok.ensures.found.0
