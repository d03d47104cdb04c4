use Rattle.std.proofs.Common.{[], get_or, arith}
use Rattle.cx_aes.specs.Cipher.{aes}
use Rattle.cx_aes.specs.KeyOf.{key_of}
use Rattle.cx_aes.proofs.Walks.{begins, ends, four, goes_on}
use Rattle.cx_aes.proofs.schedule.Schedule.encrypt_four.Goals as goal

pub loop-done-init : goal.loop-done-init
loop-done-init c =
    let self = c.args.self.now in
    let blocks = c.args.blocks.now in
    record {
      state_a = begins (key_of self) (get_or blocks 0 []) self.forward self.expanded.block c.first_sum-a.ensures.block self.expanded.are_forward
          c.first_sum-a.result c.first_sum-a.ensures.sum;
      state_b = begins (key_of self) (get_or blocks 1 []) self.forward self.expanded.block c.first_sum-b.ensures.block self.expanded.are_forward
          c.first_sum-b.result c.first_sum-b.ensures.sum;
      state_c = begins (key_of self) (get_or blocks 2 []) self.forward self.expanded.block c.first_sum-c.ensures.block self.expanded.are_forward
          c.first_sum-c.result c.first_sum-c.ensures.sum;
      state_d = begins (key_of self) (get_or blocks 3 []) self.forward self.expanded.block c.first_sum-d.ensures.block self.expanded.are_forward
          c.first_sum-d.result c.first_sum-d.ensures.sum;
    }

pub loop-done-preserved : goal.loop-done-preserved
loop-done-preserved c =
    let self = c.args.self.now in
    let blocks = c.args.blocks.now in
    let before = c.loop-done.invariant in
    record {
      state_a = goes_on (key_of self) (get_or blocks 0 []) self.forward self.expanded.block c.first_sum-a.ensures.block self.expanded.are_forward
          c.loop-done.done c.loop-done.a c.round-a.result (omega arith) before.state_a c.round-a.ensures;
      state_b = goes_on (key_of self) (get_or blocks 1 []) self.forward self.expanded.block c.first_sum-b.ensures.block self.expanded.are_forward
          c.loop-done.done c.loop-done.b c.round-b.result (omega arith) before.state_b c.round-b.ensures;
      state_c = goes_on (key_of self) (get_or blocks 2 []) self.forward self.expanded.block c.first_sum-c.ensures.block self.expanded.are_forward
          c.loop-done.done c.loop-done.c c.round-c.result (omega arith) before.state_c c.round-c.ensures;
      state_d = goes_on (key_of self) (get_or blocks 3 []) self.forward self.expanded.block c.first_sum-d.ensures.block self.expanded.are_forward
          c.loop-done.done c.loop-done.d c.round-d.result (omega arith) before.state_d c.round-d.ensures;
    }

pub returns : goal.returns
returns c =
    let self = c.args.self.now in
    let blocks = c.args.blocks.now in
    let all = c.loop-done.invariant in
    four (aes (key_of self)) blocks c.last_round.result c.last_round-2.result c.last_round-3.result c.last_round-4.result c.told-blocks
    (ends (key_of self) (get_or blocks 0 []) self.forward self.expanded.block c.first_sum-a.ensures.block self.expanded.are_forward
    c.loop-done.done c.loop-done.a c.last_round.result (omega arith) all.state_a c.last_round.ensures)
    (ends (key_of self) (get_or blocks 1 []) self.forward self.expanded.block c.first_sum-b.ensures.block self.expanded.are_forward
    c.loop-done.done c.loop-done.b c.last_round-2.result (omega arith) all.state_b c.last_round-2.ensures)
    (ends (key_of self) (get_or blocks 2 []) self.forward self.expanded.block c.first_sum-c.ensures.block self.expanded.are_forward
    c.loop-done.done c.loop-done.c c.last_round-3.result (omega arith) all.state_c c.last_round-3.ensures)
    (ends (key_of self) (get_or blocks 3 []) self.forward self.expanded.block c.first_sum-d.ensures.block self.expanded.are_forward
    c.loop-done.done c.loop-done.d c.last_round-4.result (omega arith) all.state_d c.last_round-4.ensures)
