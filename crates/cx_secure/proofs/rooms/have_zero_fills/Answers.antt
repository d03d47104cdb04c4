use Rattle.std.proofs.Common.{take, drop, ap, sym, ◌∙◌, arith}
use Rattle.cx_secure.specs.Plains.{are_zeros}
use Rattle.cx_secure.proofs.Lengths.{all_filled, fill_on, fill_stops, room_more}
use Rattle.cx_secure.proofs.rooms.have_zero_fills.Goals as goal

pub returns-then-not-are_zeros : goal.returns-then-not-are_zeros
returns-then-not-are_zeros c =
    fill_stops c.args.lengths.now c.loop-n.left.now c.split_at.result.0.now c.loop-n.n-index _ c.are_zeros.result c.loop-n-test.true c.if-not-are_zeros.true
    (c.are_zeros.ensures ∙ ap are_zeros c.split_at-in-loop-n.ensures.back) (c.split_at.ensures.front ∙ ap (λ k. take k c.loop-n.left.now) c.up16.ensures.value) c.loop-n.invariant.whole

pub loop-n-preserved : goal.loop-n-preserved
loop-n-preserved c = record {
  whole = fill_on c.args.lengths.now c.loop-n.left.now c.split_at.result.0.now c.split_at.result.1.now c.loop-n.n-index _ c.are_zeros.result c.loop-n-test.true c.if-not-are_zeros.false
      (c.are_zeros.ensures ∙ ap are_zeros c.split_at-in-loop-n.ensures.back) (c.split_at.ensures.front ∙ ap (λ k. take k c.loop-n.left.now) c.up16.ensures.value)
      (c.split_at.ensures.back ∙ ap (λ k. drop k c.loop-n.left.now) c.up16.ensures.value) c.loop-n.invariant.whole;
  room = omega (arith, room_more c.args.lengths.now c.loop-n.n-index c.loop-n-test.true, c.split_at.ensures.back_len, c.up16.ensures.value);
}

pub returns : goal.returns
returns c = sym (all_filled c.args.lengths.now c.loop-n.left.now c.loop-n.n-index c.loop-n-test.false) ∙ c.loop-n.invariant.whole
