use Rattle.std.proofs.Common.{◌≡◌, [], get_or, sym, subst}
use Rattle.cx_aes.specs.Cipher.{IsBlock}
use Rattle.cx_aes.specs.Schedule.{AreBackward, AreForward}
use Rattle.cx_aes.proofs.Keys.{IsBlock-array}
use Rattle.cx_aes.proofs.schedule.Schedule.new.Goals as goal

pub invariant_of-result : goal.invariant_of-result
invariant_of-result c =
    let key = c.args.key.now in
    let forward = c.forward_keys.result in
    let backward = c.backward_keys.result in
    let are_backward = c.backward_keys.ensures key c.round_keys-keys.ensures in
    let same : key ≡ get_or backward 0 [] = sym are_backward.first in
    record {
      expanded = record {
        block = subst IsBlock same (IsBlock-array key c.told-key c.fits-key);
        are_forward = subst (λ k. AreForward k forward) same (c.forward_keys.ensures key c.round_keys-keys.ensures);
        are_backward = subst (λ k. AreBackward k backward) same are_backward;
      };
    }

pub returns : goal.returns
returns c = let are_backward = c.backward_keys.ensures c.args.key.now c.round_keys-keys.ensures in are_backward.first
