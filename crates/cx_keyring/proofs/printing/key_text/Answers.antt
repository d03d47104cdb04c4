use Rattle.std.proofs.Common.{◌≡◌, Ok, rules}
use Rattle.std.specs.Prelude.{string_bytes}
use Rattle.base64.specs.Engines.{standard}
use Rattle.base64.specs.GeneralPurpose.{decode_of, encode_of}
use Rattle.cx_keyring.proofs.KeyTexts.{has_text}
use Rattle.cx_keyring.proofs.printing.key_text.Goals as goal

pub returns-clause-keyed : goal.returns-clause-keyed
returns-clause-keyed c =
    let text = string_bytes c.in_ok-text.text in
    let bytes = c.in_ok-bytes.bytes in
    let encoded : text ≡ encode_of standard bytes = search rules in
    let decoded : decode_of standard text ≡ Ok bytes = search rules in
    has_text c.args.key.now bytes text c.in_ok-bytes.ensures.spells.1 c.in_ok-bytes.ensures.again encoded decoded c.in_ok-text.ensures.inked
