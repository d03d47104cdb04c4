use Rattle.std.proofs.Common.{ap, ◌∙◌, sym, refl}
use Rattle.cx_gcm.specs.Gcm.{gctr}
use Rattle.cx_gcm.specs.GcmKeyOf.{gcm_key_of}
use Rattle.cx_gcm.proofs.KeyStream.{cipher_of, plain_of, raised_nonce_block}
use Rattle.cx_gcm.proofs.gcm_key.GcmKey.open_in_place.Goals as goal

pub returns-clause-ok : goal.returns-clause-ok
returns-clause-ok c =
    let key = gcm_key_of c.args.self.now in
    record {
      is_ciphered = cipher_of key c.args.nonce c.add_key_stream.new.bytes c.args.bytes.now
          c.args.self.now.schedule.expanded.block c.add_key_stream.ensures.nonce c.add_key_stream.ensures.text;
      is_tag = c.is_same_tag.ensures.0 c.if-not-is_same_tag.false ∙ c.tag_of-expected.ensures;
    }

pub returns-clause-sealed : goal.returns-clause-sealed
returns-clause-sealed c = λ plain h.
    let key = gcm_key_of c.args.self.now in
    let block = c.args.self.now.schedule.expanded.block in
    let isnonce = c.add_key_stream.ensures.nonce in (
      refl,
      c.add_key_stream.ensures.text
          ∙ ap (λ b. gctr key b c.args.bytes.now) (sym (raised_nonce_block c.args.nonce isnonce))
          ∙ plain_of key c.args.nonce plain c.args.bytes.now c.args.tag.now block isnonce h,
    )
