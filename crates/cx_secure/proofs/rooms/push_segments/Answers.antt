use Rattle.std.proofs.Common.{List, ℕ, [], ◌∷◌, ◌++◌, take, drop, slice_index, ap, ◌∙◌, arith}
use Rattle.cx_frame.specs.declared.frame.Segment.{Segment}
use Rattle.cx_secure.proofs.Lengths.{all_cut, room_more, segment_on}
use Rattle.cx_secure.proofs.rooms.push_segments.Goals as goal

pub loop-i-preserved : goal.loop-i-preserved
loop-i-preserved c =
    let made : List ℕ → Segment = λ b. record { align = slice_index c.args.aligns.now c.loop-i.i; bytes = b } in
    record {
      whole = segment_on c.args.lengths.now c.args.aligns.now c.loop-i.left.now c.split_at.result.0.now c.split_at.result.1.now c.split_at-in-loop-i.result.0.now c.loop-i.i c.loop-i.segments c.push.new.self _
          c.loop-i-test.true c.requires.aligns
          (c.split_at.ensures.front ∙ ap (λ k. take k c.loop-i.left.now) c.up16.ensures.value) (c.split_at.ensures.back ∙ ap (λ k. drop k c.loop-i.left.now) c.up16.ensures.value)
          c.split_at-in-loop-i.ensures.front
          (c.in_ok-push.ensures.ok ∙ ap (λ b. c.loop-i.segments ++ made b ∷ []) c.in_ok-bytes.ensures) c.loop-i.invariant.whole;
      room = omega (arith, room_more c.args.lengths.now c.loop-i.i c.loop-i-test.true, c.split_at.ensures.back_len, c.up16.ensures.value);
    }

pub returns : goal.returns
returns c = all_cut c.args.lengths.now c.args.aligns.now c.loop-i.left.now c.loop-i.i c.loop-i.segments _ c.loop-i-test.false c.loop-i.invariant.whole
