use Rattle.std.proofs.Common.{◌∙◌}
use Rattle.cx_drive.proofs.Ahead.{quiet_short}
use Rattle.cx_drive.proofs.Running.{wants}
use Rattle.cx_drive.specs.Agendas.{agenda_of, at_quiet, passed}
use Rattle.cx_drive.specs.Stops.{scene}
use Rattle.cx_drive.proofs.driving.quiet.Goals as goal

pub returns-in-Err : goal.returns-in-Err
returns-in-Err g c =
    wants g.S.Site.follows g.M.Machine.rule g.M.Machine.lost g.M.Machine.rests g.M.Machine.regards g.S.Site.stays g.S.Site.goes_on c.args.peers.now
    (scene c.args.site.now c.args.node.now c.args.journal.now)
    (at_quiet (passed c.args.flow.now.gone c.args.flow.now.orders.now) (g.M.Machine.rests c.args.node.now) (agenda_of c.args.flow.now)) c.quiet.new.self.short
    (c.in-Err.ensures.err ∙ quiet_short (passed c.args.flow.now.gone c.args.flow.now.orders.now) (g.M.Machine.rests c.args.node.now) (agenda_of c.args.flow.now))
