use Rattle.std.proofs.Common.{◌∙◌, ap}
use Rattle.std.proofs.lemmas.List.{append-nil}
use Rattle.cx_aes.specs.KeyOf.{key_of}
use Rattle.cx_aes.proofs.Places.{cells-is}
use Rattle.cx_cbc.specs.Chain.{cbc}
use Rattle.cx_cbc.specs.Envelope.{padding, padded, enveloped, sealed}
use Rattle.cx_cbc.proofs.sealing.seal_16.Goals as goal

pub returns : goal.returns
unfolding cbc padding padded enveloped sealed
returns c =
    rw (c.joined.ensures, c.encrypt-second.ensures, c.add-2.ensures, c.encrypt-first.ensures, c.add.ensures) (simp append-nil) ∙ ap (sealed (key_of c.args.key.now)) (cells-is 16 c.args.content.now c.told-content)
