use Rattle.std.proofs.Common.{ap, ◌∙◌, sym}
use Rattle.cx_gcm.specs.Gcm.{gctr}
use Rattle.cx_gcm.specs.GcmKeyOf.{gcm_key_of}
use Rattle.cx_gcm.proofs.KeyStream.{raised_nonce_block}
use Rattle.cx_gcm.proofs.gcm_key.GcmKey.seal_in_place.Goals as goal

pub returns : goal.returns
returns c = record {
  is_ciphered = c.add_key_stream.ensures.text
      ∙ ap (λ b. gctr (gcm_key_of c.args.self.now) b c.args.bytes.now) (sym (raised_nonce_block c.args.nonce c.add_key_stream.ensures.nonce));
  is_tag = c.tag_of.ensures;
}
