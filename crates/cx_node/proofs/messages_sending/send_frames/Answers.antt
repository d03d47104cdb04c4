-- Frame by frame.
use Rattle.std.proofs.Common.{ap, refl, sym, ◌∙◌}
use Rattle.cx_frame.specs.declared.frame.Frame.{Frame}
use Rattle.cx_node.specs.cx_rules.specs.Messages.{sealed_behind, secure_frames}
use Rattle.cx_node.specs.cx_rules.specs.Secured.{secure_frame}
use Rattle.cx_node.specs.messages.Sending.{sealed_of}
use Rattle.cx_node.proofs.messages.Joining.{all_due, more_due, none_due, nothing_due}
use Rattle.cx_node.proofs.messages_sending.send_frames.Goals as goal

pub loop-frame-init : goal.loop-frame-init
loop-frame-init c = record {
  sealed = all_due c.args.link.keys c.args.frames.now (sealed_of (record { link = c.args.link; bytes = c.new.result; seals = c.new-2.result })) (rw (c.new.ensures, c.new-2.ensures) refl);
  ahead = refl;
}

pub returns-in-Err : goal.returns-in-Err
returns-in-Err c =
    let before = sealed_of c.loop-frame.sent in
    let f : Frame = c.frame-item.result in
    let made = rw c.in-Err.is at c.in_ok-more.ensures in
    none_due before c.args.frames.now c.loop-frame.frame-index f c.in-Err.why (secure_frames c.args.link.keys c.args.frames.now) c.loop-frame-test.true
    (ap (λ (g : Frame). sealed_behind before (secure_frame before.keys g)) (sym c.frame-item.is) ∙ made) c.loop-frame.invariant.sealed

pub loop-frame-preserved : goal.loop-frame-preserved
loop-frame-preserved c =
    let before = sealed_of c.loop-frame.sent in
    let f : Frame = c.frame-item.result in
    let made = rw c.in-Ok.is at c.in_ok-more.ensures in
    record {
      sealed = more_due before c.args.frames.now c.loop-frame.frame-index f (sealed_of c.in-Ok.more) (secure_frames c.args.link.keys c.args.frames.now) c.loop-frame-test.true
          (ap (λ (g : Frame). sealed_behind before (secure_frame before.keys g)) (sym c.frame-item.is) ∙ made.0) c.loop-frame.invariant.sealed;
      ahead = made.1 ∙ c.loop-frame.invariant.ahead;
    }

pub returns : goal.returns
returns c = (
  nothing_due (sealed_of c.loop-frame.sent) c.args.frames.now c.loop-frame.frame-index (secure_frames c.args.link.keys c.args.frames.now) c.loop-frame-test.false c.loop-frame.invariant.sealed,
  c.loop-frame.invariant.ahead,
)
