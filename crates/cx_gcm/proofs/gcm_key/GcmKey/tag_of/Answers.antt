use Rattle.std.proofs.Common.{◌/◌, length, ap, ◌∙◌, sym}
use Rattle.cx_gcm.specs.Blocks.{spelled}
use Rattle.cx_gcm.specs.Gcm.{gctr, ghash, hashed, nonce_block, tag_of}
use Rattle.cx_gcm.specs.GcmKeyOf.{gcm_key_of}
use Rattle.cx_gcm.proofs.KeyStream.{nonce_block-counted}
use Rattle.cx_gcm.proofs.gcm_key.GcmKey.tag_of.Goals as goal

pub returns : goal.returns
unfolding tag_of
returns c =
    let key = gcm_key_of c.args.self.now in
    let nonce = c.args.nonce.now in
    let text = hashed c.args.cipher.now in
    c.with_one_mask.ensures
    ∙ ap (λ b. gctr key b c.hash.result) (sym (nonce_block-counted nonce))
    ∙ ap (λ s. gctr key (nonce_block nonce) s) (c.hash.ensures ∙ ap (λ h. spelled (ghash h text (length text / 16))) c.args.self.now.prepared)
