use Rattle.std.proofs.Common.{ap, ◌∙◌, sym, arith}
use Rattle.cx_aes.specs.Cipher.{aes}
use Rattle.cx_aes.specs.KeyOf.{key_of}
use Rattle.cx_aes.proofs.Rounds.{aes-inverse_aes, aes-one}
use Rattle.cx_aes.proofs.Walks.{goes_back, is_back, turns_back}
use Rattle.cx_aes.proofs.schedule.Schedule.decrypt.Goals as goal

pub loop-undone-init : goal.loop-undone-init
loop-undone-init c =
    let self = c.args.self.now in
    turns_back (key_of self) c.args.block.now self.backward self.expanded.block c.last_sum-state.ensures.block self.expanded.are_backward
    c.last_sum-state.result c.last_sum-state.ensures.sum

pub loop-undone-preserved : goal.loop-undone-preserved
loop-undone-preserved c =
    let self = c.args.self.now in
    goes_back (key_of self) c.args.block.now self.backward self.expanded.block c.last_sum-state.ensures.block self.expanded.are_backward
    c.loop-undone.undone c.loop-undone.state c.inverse_round-state.result (omega arith) c.loop-undone.invariant c.inverse_round-state.ensures

pub returns-clause-value : goal.returns-clause-value
returns-clause-value c =
    let self = c.args.self.now in
    is_back (key_of self) c.args.block.now self.backward self.expanded.block c.last_sum-state.ensures.block self.expanded.are_backward
    c.loop-undone.undone c.loop-undone.state c.last_inverse_round.result (omega arith) c.loop-undone.invariant c.last_inverse_round.ensures

pub returns-clause-encrypts : goal.returns-clause-encrypts
returns-clause-encrypts c =
    let self = c.args.self.now in
    let block = c.args.block.now in
    ap (λ v. aes (key_of self) v) (returns-clause-value c)
    ∙ aes-inverse_aes (key_of self) block self.expanded.block c.last_sum-state.ensures.block

pub returns-clause-only : goal.returns-clause-only
returns-clause-only c = λ b isblock e.
    let self = c.args.self.now in
    aes-one (key_of self) b c.args.block.now self.expanded.block isblock e ∙ sym (returns-clause-value c)
