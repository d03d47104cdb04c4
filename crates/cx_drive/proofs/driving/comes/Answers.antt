use Rattle.std.proofs.Common.{refl}
use Rattle.cx_drive.proofs.Running.{ran_step, stops}
use Rattle.cx_drive.specs.Agendas.{agenda_of, with_due}
use Rattle.cx_drive.specs.Stops.{scene}
use Rattle.cx_client.specs.cx_rules_session.specs.cx_rules.specs.Inputs.{input_of}
use Rattle.cx_drive.proofs.driving.comes.Goals as goal

pub returns-in-Ok : goal.returns-in-Ok
returns-in-Ok g c =
    ran_step g.S.Site.follows g.M.Machine.rule g.M.Machine.lost g.M.Machine.rests g.M.Machine.regards g.S.Site.stays g.S.Site.goes_on c.args.peers.now (input_of c.args.event) c.in-Ok.ensures.ok.went
    (scene c.args.site.now c.args.node.now c.args.journal.now) (scene c.step_on.new.site c.step_on.new.node c.step_on.new.journal)
    (with_due (input_of c.args.event) (agenda_of c.args.flow.now)) (agenda_of c.step_on.new.flow) refl c.in-Ok.ensures.ok.goes c.in-Ok.ensures.ok.agenda

pub returns-in-Err : goal.returns-in-Err
returns-in-Err g c =
    stops g.S.Site.follows g.M.Machine.rule g.M.Machine.lost g.M.Machine.rests g.M.Machine.regards g.S.Site.stays g.S.Site.goes_on c.args.peers.now (input_of c.args.event)
    (scene c.args.site.now c.args.node.now c.args.journal.now) (scene c.step_on.new.site c.step_on.new.node c.step_on.new.journal)
    (with_due (input_of c.args.event) (agenda_of c.args.flow.now)) c.step_on.new.flow.short c.in-Err.stop refl c.in-Err.ensures.short c.in-Err.ensures.err
