use Rattle.std.proofs.Common.{take}
use Rattle.cx_drive.specs.Steps.{shut_acts}
use Rattle.cx_drive.proofs.carrying.shut.Given as goal

abbrev pub invariant-loop-link : goal.invariant-loop-link
invariant-loop-link g l = g.S.Site.follows l.fn.site l.site (shut_acts (take l.link-index l.links))
