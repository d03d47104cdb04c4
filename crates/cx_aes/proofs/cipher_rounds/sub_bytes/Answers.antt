use Rattle.cx_aes.specs.Cipher.{sub_bytes}
use Rattle.cx_aes.proofs.Keys.{IsBlock-array}
use Rattle.cx_aes.proofs.Substitutions.{last-state}
use Rattle.cx_aes.proofs.cipher_rounds.sub_bytes.Goals as goal

pub returns : goal.returns
unfolding sub_bytes
returns c =
    let h = IsBlock-array c.args.bytes.now c.told-bytes c.fits-bytes in
    last-state c.args.bytes.now c.into.result c.last.result h.bytes c.into.ensures c.last.ensures
