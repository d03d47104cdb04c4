use Rattle.std.proofs.Common.{arith}
use Rattle.cx_frame.specs.Preambles.{front_text}
use Rattle.cx_frame.proofs.Cutting.{all_described}
use Rattle.cx_frame.proofs.announcing.front.Goals as goal

-- src/announcing.rt:92:1
pub returns : goal.returns
unfolding front_text
returns c =
    all_described c.args.head.now.tag c.args.head.now.count c.args.head.now.lengths c.args.head.now.aligns
    c.descriptor.result c.descriptor-2.result c.descriptor-3.result c.descriptor-4.result (omega arith) (omega arith)
    c.descriptor.ensures c.descriptor-2.ensures c.descriptor-3.ensures c.descriptor-4.ensures
