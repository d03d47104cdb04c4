use Rattle.cx_gcm.specs.GcmKeyOf.{gcm_key_of}
use Rattle.cx_gcm.proofs.KeyStream.{IsNonce-array}
use Rattle.cx_secure.proofs.PartLaws.{opens_text}
use Rattle.cx_secure.proofs.parts.open_in_place.Goals as goal

pub returns-in-Ok-clause-opens : goal.returns-in-Ok-clause-opens
returns-in-Ok-clause-opens c =
    opens_text (gcm_key_of c.args.key.now) c.args.nonce.now c.args.text.now c.open_in_place.new.bytes c.args.tag.now c.args.key.now.schedule.expanded.block
    (IsNonce-array c.args.nonce.now c.told-nonce c.fits-nonce) c.in-Ok.ensures.ok
