use Rattle.std.proofs.Common.{◌++◌, List, ℕ, ap, ◌∙◌}
use Rattle.sha2.specs.Sha256.{sha256}
use Rattle.cx_digest.specs.Code.{hmac, masked}
use Rattle.cx_digest.proofs.signing_key.SigningKey.code.Goals as goal

pub returns : goal.returns
unfolding hmac
returns c =
    let key : List ℕ = c.self.inside.padded.value.key in
    let digest = c.goes_on-digest.ensures (masked 0x36 key) (rw c.as_ref.ensures c.self.invariant.0) in
    c.goes_on.ensures (masked 0x5c key) (rw c.as_ref.ensures c.self.invariant.1)
    ∙ ap (λ (d : List ℕ). sha256 (masked 0x5c key ++ d)) digest
    ∙ ap (λ (k : List ℕ). hmac k c.args.text.now) c.self.view_is
