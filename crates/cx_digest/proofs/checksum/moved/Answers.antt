use Rattle.std.proofs.Common.{◌≡◌, ◌+◌, suc, ap, ◌∙◌, arith}
use Rattle.cx_digest.specs.Moved.{moved}
use Rattle.cx_digest.proofs.Register.{entry}
use Rattle.cx_digest.proofs.checksum.moved.Goals as goal

pub returns : goal.returns
returns c =
    let more : suc c.args.behind ≡ c.args.behind + 1 = omega arith in
    entry c.args.behind c.args.byte c.requires c.ranges.byte.fits ∙ ap (λ n. moved n c.args.byte) more
