use Rattle.std.proofs.Common.{◌≡◌, ◌≤◌, take, vec_len, vec_capacity}
use Rattle.cx_drive.specs.Stops.{Sends}
use Rattle.cx_drive.proofs.carrying.send.Given as goal

abbrev pub invariant-loop-piece : goal.invariant-loop-piece
invariant-loop-piece g l =
    Sends g.S.Site.follows (take l.piece-index l.pieces) l.fn.site l.site l.gone.items
    × (vec_len l.gone ≤ l.piece-index) × (vec_capacity l.gone ≡ vec_capacity l.fn.gone)
