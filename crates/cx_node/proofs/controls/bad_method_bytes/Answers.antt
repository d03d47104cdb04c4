use Rattle.cx_node.proofs.Denials.{announced, not_long}
use Rattle.cx_node.proofs.controls.bad_method_bytes.Goals as goal

pub put_frame-requires : goal.put_frame-requires
put_frame-requires c = announced c.in_ok-frame.frame c.args.code c.in_ok-frame.ensures

pub unreachable-requires : goal.unreachable-requires
unreachable-requires c =
    not_long c.in_ok-frame.frame c.args.code c.in-Err-TooLong.field-0-0 c.in_ok-frame.ensures (rw c.in-Err-TooLong.field-0-is at c.in-Err-TooLong.ensures.long)
