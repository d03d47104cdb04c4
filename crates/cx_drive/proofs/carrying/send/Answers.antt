use Rattle.std.proofs.Common.{◌≡◌, get_or, arith}
use Rattle.cx_drive.proofs.Loops.{sends_on}
use Rattle.cx_drive.proofs.carrying.send.Goals as goal

pub loop-piece-preserved : goal.loop-piece-preserved
loop-piece-preserved g c =
    let is : c.piece-item.result ≡ get_or c.args.pieces.now c.loop-piece.piece-index c.piece-item.result = cc in (
      sends_on g.S.Site.follows g.S.Site.goes_on c.args.pieces.now c.loop-piece.piece-index c.piece-item.result c.send_piece.result
          c.args.site.now c.loop-piece.site c.send_piece.new.site c.loop-piece.gone.items c.send_piece.new.gone.items
          (omega arith) is c.loop-piece.invariant.0 c.send_piece.ensures.acts c.send_piece.ensures.gone,
      omega arith,
      cc,
    )
