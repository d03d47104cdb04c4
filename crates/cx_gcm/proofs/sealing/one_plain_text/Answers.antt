use Rattle.std.proofs.Common.{◌∙◌, sym}
use Rattle.cx_gcm.proofs.KeyStream.{plain_of}
use Rattle.cx_gcm.proofs.sealing.one_plain_text.Goals as goal

pub returns : goal.returns
returns c = λ k nonce p q cipher t u isblock isnonce first second. (
  sym (plain_of k nonce p cipher t isblock isnonce first) ∙ plain_of k nonce q cipher u isblock isnonce second,
  first.is_tag ∙ sym second.is_tag,
)
