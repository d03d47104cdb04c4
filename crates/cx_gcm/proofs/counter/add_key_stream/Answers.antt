use Rattle.std.proofs.Common.{◌≡◌, ◌+◌, ◌*◌, ◌/◌, ◌%◌, [], length, bit_xor, get_or, refl, subst, ap, ◌∙◌, arith}
use Rattle.cx_aes.specs.Cipher.{aes}
use Rattle.cx_aes.specs.KeyOf.{key_of}
use Rattle.cx_gcm.specs.Gcm.{counted}
use Rattle.cx_gcm.proofs.KeyStream.{IsNonce-array, gctr_by_places}
use Rattle.cx_gcm.proofs.Passing.{IsPassed, mask_at, one_passed, sixteen_passed}
use Rattle.cx_gcm.proofs.counter.add_key_stream.Goals as goal
use Rattle.cx_gcm.proofs.counter.add_key_stream.Goals.{then-i-eq0, else-i-eq0}

pub loop-n-preserved : goal.loop-n-preserved
loop-n-preserved c =
    let key = key_of c.args.key.now in
    let nonce = c.args.nonce.now in
    let first = c.args.first in
    let text = c.args.bytes.now in
    let n = c.loop-n.n in
    let masks = c.four_masks-masks.result in
    let place0 : first + 4 * n + 0 ≡ first + (64 * n) / 16 = omega arith in
    let p1 = sixteen_passed key nonce first text c.loop-n.bytes c.add_mask.new.bytes (get_or masks 0 []) (64 * n) (64 * n + 16) (omega arith) (omega arith)
    (mask_at key nonce (first + 4 * n) 0 masks (omega arith) c.four_masks-masks.ensures ∙ ap (λ m. aes key (counted nonce m)) place0) c.loop-n.invariant c.add_mask.ensures in
    let place1 : first + 4 * n + 1 ≡ first + (64 * n + 16) / 16 = omega arith in
    let p2 = sixteen_passed key nonce first text c.add_mask.new.bytes c.add_mask-in-loop-n.new.bytes (get_or masks 1 []) (64 * n + 16) (64 * n + 32) (omega arith) (omega arith)
    (mask_at key nonce (first + 4 * n) 1 masks (omega arith) c.four_masks-masks.ensures ∙ ap (λ m. aes key (counted nonce m)) place1) p1 c.add_mask-in-loop-n.ensures in
    let place2 : first + 4 * n + 2 ≡ first + (64 * n + 32) / 16 = omega arith in
    let p3 = sixteen_passed key nonce first text c.add_mask-in-loop-n.new.bytes c.add_mask-in-loop-n-2.new.bytes (get_or masks 2 []) (64 * n + 32) (64 * n + 48) (omega arith) (omega arith)
    (mask_at key nonce (first + 4 * n) 2 masks (omega arith) c.four_masks-masks.ensures ∙ ap (λ m. aes key (counted nonce m)) place2) p2 c.add_mask-in-loop-n-2.ensures in
    let place3 : first + 4 * n + 3 ≡ first + (64 * n + 48) / 16 = omega arith in
    let p4 = sixteen_passed key nonce first text c.add_mask-in-loop-n-2.new.bytes c.add_mask-in-loop-n-3.new.bytes (get_or masks 3 []) (64 * n + 48) (64 * (n + 1)) (omega arith) (omega arith)
    (mask_at key nonce (first + 4 * n) 3 masks (omega arith) c.four_masks-masks.ensures ∙ ap (λ m. aes key (counted nonce m)) place3) p3 c.add_mask-in-loop-n-3.ensures in
    p4

pub loop-i-init : goal.loop-i-init
loop-i-init c =
    let text = c.args.bytes.now in
    let all : 64 * c.loop-n.n ≡ 64 * (length text / 64) = omega arith in
    record {
      passed = subst (λ m. IsPassed (key_of c.args.key.now) c.args.nonce.now c.args.first text c.loop-n.bytes m) all c.loop-n.invariant;
      mask = λ lt. absurd (omega arith);
    }

pub loop-i-preserved : goal.loop-i-preserved
loop-i-preserved c =
    let key = key_of c.args.key.now in
    let nonce = c.args.nonce.now in
    let first = c.args.first in
    let i = c.loop-i.i in
    let mask = c.if-i-eq0.mask in
    let before = c.loop-i.invariant in
    let current : mask ≡ aes key (counted nonce (first + i / 16)) =
    elim c.if-i-eq0.branch [
      | then-i-eq0 w ↦ w.mask-is ∙ w.encrypt-mask.ensures ∙ ap (aes key) w.counter_block.ensures
      | else-i-eq0 w ↦ w.mask-is ∙ before.mask (omega (arith, w.if-i-eq0.false))
    ] in
    record {
      passed = one_passed key nonce first c.args.bytes.now c.loop-i.bytes mask i (bit_xor (get_or c.loop-i.bytes i 0) (get_or mask (i % 16) 0))
          (omega arith) current refl before.passed;
      mask = λ more. let same : i / 16 ≡ (i + 1) / 16 = omega arith in current ∙ ap (λ n. aes key (counted nonce (first + n))) same;
    }

pub returns : goal.returns
returns c =
    let all = c.loop-i.invariant in
    let isnonce = IsNonce-array c.args.nonce.now c.told-nonce c.fits-nonce in
    record {
      text = gctr_by_places (key_of c.args.key.now) c.args.nonce.now c.args.bytes.now c.loop-i.bytes c.args.first c.args.key.now.expanded.block
          isnonce (omega arith) all.passed.len (λ j lt. all.passed.done j (omega arith));
      nonce = isnonce;
    }
