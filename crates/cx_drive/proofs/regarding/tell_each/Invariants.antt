use Rattle.std.proofs.Common.{map, take}
use Rattle.cx_drive.specs.Steps.{regard_acts}
use Rattle.cx_drive.proofs.regarding.tell_each.Given as goal

abbrev pub invariant-loop-piece : goal.invariant-loop-piece
invariant-loop-piece g l = g.S.Site.follows l.fn.site l.site (regard_acts (g.M.Machine.regards l.node) (map (λ piece. piece.link) (take l.piece-index l.sends)))
