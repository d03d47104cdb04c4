use Rattle.std.proofs.Common.{[], ◌++◌, ap, ◌∙◌}
use Rattle.sha2.specs.Sha256.{sha256}
use Rattle.cx_digest.specs.Code.{hmac, masked}
use Rattle.cx_digest.proofs.message_code.Mac.finish.Goals as goal

pub returns : goal.returns
unfolding hmac
returns c = λ key text takes.
    c.finalize.ensures (c.args.self.outer ++ c.finalize-digest.result)
    (c.update-2.ensures c.args.self.outer (c.update.ensures [] c.new-outer.ensures))
    ∙ ap (λ first. sha256 (first ++ c.finalize-digest.result)) takes.outer
    ∙ ap (λ second. sha256 (masked 0x5c key ++ second)) (c.finalize-digest.ensures (masked 0x36 key ++ text) takes.inner)
