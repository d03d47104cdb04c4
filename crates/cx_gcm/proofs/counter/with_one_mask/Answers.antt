use Rattle.std.proofs.Common.{◌≡◌, ℕ, ◌+◌, ◌/◌, List, length, sym, ap, ◌∙◌, arith, append-nil}
use Rattle.std.specs.List.{flat_map, range_with_len}
use Rattle.cx_aes.specs.Cipher.{add, aes}
use Rattle.cx_aes.specs.KeyOf.{key_of}
use Rattle.cx_gcm.specs.Gcm.{counted, counter_block, gctr}
use Rattle.cx_gcm.proofs.counter.with_one_mask.Goals as goal

one_block : (k first text : List ℕ) → length text ≡ 16 → add text (aes k first) ≡ gctr k first text
unfolding gctr counter_block
one_block k first text len =
    let one : 1 ≡ (length text + 15) / 16 = omega (arith, len) in
    ap (add text) (sym (append-nil (aes k first))) ∙ ap (λ n. add text (flat_map (λ i. aes k (counter_block first i)) (range_with_len 0 n))) one

pub returns : goal.returns
returns c =
    let key = key_of c.args.key.now in
    c.add.ensures ∙ ap (add c.args.block.now) (c.encrypt.ensures ∙ ap (aes key) c.counter_block.ensures)
    ∙ one_block key (counted c.args.nonce.now c.args.count) c.args.block.now c.told-block
