use Rattle.std.proofs.Common.{◌≡◌, drop}
use Rattle.cx_node.specs.cx_rules.specs.Messages.{secure_frames}
use Rattle.cx_node.proofs.messages.Joining.{due}
use Rattle.cx_node.specs.messages.Sending.{sealed_of}
use Rattle.cx_node.proofs.messages_sending.send_frames.Given as goal

abbrev pub invariant-loop-frame : goal.invariant-loop-frame
invariant-loop-frame l = record {
  sealed : due (sealed_of l.sent) (drop l.frame-index l.frames) ≡ secure_frames l.fn.link.keys l.frames;
  ahead : l.sent.link.ahead ≡ l.fn.link.ahead;
}
