-- Three keys in the part that holds them.
use Rattle.std.proofs.Common.{ap, ◌∙◌}
use Rattle.cx_dice.specs.Draws.{three_keys}
use Rattle.cx_dice.proofs.Parts.{keys_in}
use Rattle.cx_dice.proofs.draw.Draw.rotation_keys.Goals as goal

pub returns-in-Mds : goal.returns-in-Mds
returns-in-Mds c = rw c.in-Mds.is (c.three_keys.ensures ∙ ap (three_keys 0) c.part.ensures.taken ∙ keys_in 144 c.args.self.now.bytes)

pub returns-in-Osd : goal.returns-in-Osd
returns-in-Osd c = rw c.in-Osd.is (c.three_keys-in-Osd.ensures ∙ ap (three_keys 0) c.part-in-Osd.ensures.taken ∙ keys_in 192 c.args.self.now.bytes)

pub returns-in-Mgr : goal.returns-in-Mgr
returns-in-Mgr c = rw c.in-Mgr.is (c.three_keys-in-Mgr.ensures ∙ ap (three_keys 0) c.part-in-Mgr.ensures.taken ∙ keys_in 240 c.args.self.now.bytes)

pub returns-in-Auth : goal.returns-in-Auth
returns-in-Auth c = rw c.in-Auth.is (c.three_keys-in-Auth.ensures ∙ ap (three_keys 0) c.part-in-Auth.ensures.taken ∙ keys_in 288 c.args.self.now.bytes)
