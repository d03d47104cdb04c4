use Rattle.std.proofs.Common.{◌≡◌, get_or, arith}
use Rattle.cx_drive.proofs.Loops.{regards_on}
use Rattle.cx_drive.proofs.regarding.tell_each.Goals as goal

pub loop-piece-preserved : goal.loop-piece-preserved
loop-piece-preserved g c =
    let is : c.piece-item.result ≡ get_or c.args.sends.now c.loop-piece.piece-index c.piece-item.result = cc in
    regards_on g.S.Site.follows g.S.Site.goes_on (g.M.Machine.regards c.args.node.now) c.args.sends.now c.loop-piece.piece-index c.piece-item.result
    c.args.site.now c.loop-piece.site c.tell_one.new.site (omega arith) is c.loop-piece.invariant c.tell_one.ensures
