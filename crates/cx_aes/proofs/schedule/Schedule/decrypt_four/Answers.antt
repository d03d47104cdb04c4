use Rattle.std.proofs.Common.{[], get_or, arith}
use Rattle.cx_aes.specs.Inverse.{inverse_aes}
use Rattle.cx_aes.specs.KeyOf.{key_of}
use Rattle.cx_aes.proofs.Walks.{turns_back, is_back, four, goes_back}
use Rattle.cx_aes.proofs.schedule.Schedule.decrypt_four.Goals as goal

pub loop-undone-init : goal.loop-undone-init
loop-undone-init c =
    let self = c.args.self.now in
    let blocks = c.args.blocks.now in
    record {
      state_a = turns_back (key_of self) (get_or blocks 0 []) self.backward self.expanded.block c.last_sum-a.ensures.block self.expanded.are_backward
          c.last_sum-a.result c.last_sum-a.ensures.sum;
      state_b = turns_back (key_of self) (get_or blocks 1 []) self.backward self.expanded.block c.last_sum-b.ensures.block self.expanded.are_backward
          c.last_sum-b.result c.last_sum-b.ensures.sum;
      state_c = turns_back (key_of self) (get_or blocks 2 []) self.backward self.expanded.block c.last_sum-c.ensures.block self.expanded.are_backward
          c.last_sum-c.result c.last_sum-c.ensures.sum;
      state_d = turns_back (key_of self) (get_or blocks 3 []) self.backward self.expanded.block c.last_sum-d.ensures.block self.expanded.are_backward
          c.last_sum-d.result c.last_sum-d.ensures.sum;
    }

pub loop-undone-preserved : goal.loop-undone-preserved
loop-undone-preserved c =
    let self = c.args.self.now in
    let blocks = c.args.blocks.now in
    let before = c.loop-undone.invariant in
    record {
      state_a = goes_back (key_of self) (get_or blocks 0 []) self.backward self.expanded.block c.last_sum-a.ensures.block self.expanded.are_backward
          c.loop-undone.undone c.loop-undone.a c.inverse_round-a.result (omega arith) before.state_a c.inverse_round-a.ensures;
      state_b = goes_back (key_of self) (get_or blocks 1 []) self.backward self.expanded.block c.last_sum-b.ensures.block self.expanded.are_backward
          c.loop-undone.undone c.loop-undone.b c.inverse_round-b.result (omega arith) before.state_b c.inverse_round-b.ensures;
      state_c = goes_back (key_of self) (get_or blocks 2 []) self.backward self.expanded.block c.last_sum-c.ensures.block self.expanded.are_backward
          c.loop-undone.undone c.loop-undone.c c.inverse_round-c.result (omega arith) before.state_c c.inverse_round-c.ensures;
      state_d = goes_back (key_of self) (get_or blocks 3 []) self.backward self.expanded.block c.last_sum-d.ensures.block self.expanded.are_backward
          c.loop-undone.undone c.loop-undone.d c.inverse_round-d.result (omega arith) before.state_d c.inverse_round-d.ensures;
    }

pub returns : goal.returns
returns c =
    let self = c.args.self.now in
    let blocks = c.args.blocks.now in
    let all = c.loop-undone.invariant in
    four (inverse_aes (key_of self)) blocks c.last_inverse_round.result c.last_inverse_round-2.result c.last_inverse_round-3.result c.last_inverse_round-4.result c.told-blocks
    (is_back (key_of self) (get_or blocks 0 []) self.backward self.expanded.block c.last_sum-a.ensures.block self.expanded.are_backward
    c.loop-undone.undone c.loop-undone.a c.last_inverse_round.result (omega arith) all.state_a c.last_inverse_round.ensures)
    (is_back (key_of self) (get_or blocks 1 []) self.backward self.expanded.block c.last_sum-b.ensures.block self.expanded.are_backward
    c.loop-undone.undone c.loop-undone.b c.last_inverse_round-2.result (omega arith) all.state_b c.last_inverse_round-2.ensures)
    (is_back (key_of self) (get_or blocks 2 []) self.backward self.expanded.block c.last_sum-c.ensures.block self.expanded.are_backward
    c.loop-undone.undone c.loop-undone.c c.last_inverse_round-3.result (omega arith) all.state_c c.last_inverse_round-3.ensures)
    (is_back (key_of self) (get_or blocks 3 []) self.backward self.expanded.block c.last_sum-d.ensures.block self.expanded.are_backward
    c.loop-undone.undone c.loop-undone.d c.last_inverse_round-4.result (omega arith) all.state_d c.last_inverse_round-4.ensures)
