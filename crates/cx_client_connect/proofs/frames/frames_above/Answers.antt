-- One more is looked at.
use Rattle.std.proofs.Common.{sym}
use Rattle.cx_client_connect.proofs.session.Above.{more_above}
use Rattle.cx_client_connect.proofs.frames.frames_above.Goals as goal

pub loop-number-preserved : goal.loop-number-preserved
loop-number-preserved c = (
  more_above c.args.last c.args.waiting.now c.loop-number.number-index c.loop-number-item.result c.loop-number.frames.items c.push_above.new.frames.items c.loop-number-test.true
      (sym c.loop-number-item.is) c.loop-number.invariant.0 c.in_ok-push_above.ensures.frames,
  c.in_ok-push_above.ensures.announced c.loop-number.invariant.1,
)
