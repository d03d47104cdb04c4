use Rattle.std.proofs.Common.{◌++◌, subst, ap, ◌∙◌}
use Rattle.cx_drive.proofs.Loops.{handed}
use Rattle.cx_drive.specs.Steps.{gone_dues, shut_acts}
use Rattle.cx_drive.specs.Stops.{Opens, Sends}
use Rattle.cx_drive.proofs.carrying.hand_out.Goals as goal

pub returns : goal.returns
returns g c =
    handed g.S.Site.follows g.S.Site.goes_on c.args.peers.now c.args.out.now c.args.site.now c.send.new.site c.open.new.site c.shut.new.site c.lose.new.site
    c.send.new.gone.items c.args.dues.now.items c.note_gone.new.dues.items c.open.new.dues.items
    (subst (λ ps. Sends g.S.Site.follows ps c.args.site.now c.send.new.site c.send.new.gone.items) c.all.ensures c.send.ensures.sent)
    (c.note_gone.ensures.items ∙ ap (λ gone. c.args.dues.now.items ++ gone_dues gone) c.as_slice.ensures.value)
    (subst (λ ps. Opens g.S.Site.follows c.args.peers.now ps c.send.new.site c.open.new.site c.note_gone.new.dues.items c.open.new.dues.items) c.requires.asked c.open.ensures)
    (subst (λ ls. g.S.Site.follows c.open.new.site c.shut.new.site (shut_acts ls)) c.all-2.ensures c.shut.ensures)
    c.lose.ensures
