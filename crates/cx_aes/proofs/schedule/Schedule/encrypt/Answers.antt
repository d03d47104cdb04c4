use Rattle.std.proofs.Common.{arith}
use Rattle.cx_aes.specs.KeyOf.{key_of}
use Rattle.cx_aes.proofs.Walks.{begins, ends, goes_on}
use Rattle.cx_aes.proofs.schedule.Schedule.encrypt.Goals as goal

pub loop-done-init : goal.loop-done-init
loop-done-init c =
    let self = c.args.self.now in
    begins (key_of self) c.args.block.now self.forward self.expanded.block c.first_sum-state.ensures.block self.expanded.are_forward
    c.first_sum-state.result c.first_sum-state.ensures.sum

pub loop-done-preserved : goal.loop-done-preserved
loop-done-preserved c =
    let self = c.args.self.now in
    goes_on (key_of self) c.args.block.now self.forward self.expanded.block c.first_sum-state.ensures.block self.expanded.are_forward
    c.loop-done.done c.loop-done.state c.round-state.result (omega arith) c.loop-done.invariant c.round-state.ensures

pub returns : goal.returns
returns c =
    let self = c.args.self.now in
    ends (key_of self) c.args.block.now self.forward self.expanded.block c.first_sum-state.ensures.block self.expanded.are_forward
    c.loop-done.done c.loop-done.state c.last_round.result (omega arith) c.loop-done.invariant c.last_round.ensures
