use Rattle.std.proofs.Common.{subst, sym, append-nil}
use Rattle.cx_drive.specs.Steps.{regard_act}
use Rattle.cx_drive.proofs.regarding.tell_alone.Goals as goal

pub returns : goal.returns
returns g c =
    subst (g.S.Site.follows c.args.site.now c.tell_one.new.site)
    (sym (append-nil (regard_act c.args.number (g.M.Machine.regards c.args.node.now c.args.number)))) c.tell_one.ensures
