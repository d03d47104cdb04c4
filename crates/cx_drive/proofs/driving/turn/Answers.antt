use Rattle.std.proofs.Common.{Bool, ap, ◌∙◌}
use Rattle.cx_drive.proofs.Ahead.{turn_next, turned_on}
use Rattle.cx_drive.proofs.Running.{ran_step, stops}
use Rattle.cx_drive.specs.Agendas.{agenda_of, noting, without_next}
use Rattle.cx_drive.specs.Steps.{carried_dues}
use Rattle.cx_drive.specs.Stops.{scene}
use Rattle.cx_client.specs.cx_rules_session.specs.cx_rules.specs.Inputs as input
use Rattle.cx_drive.proofs.driving.turn.Goals as goal

pub returns-in-Ok : goal.returns-in-Ok
returns-in-Ok g c =
    let ok = c.in-Ok.ensures.ok in
    ran_step g.S.Site.follows g.M.Machine.rule g.M.Machine.lost g.M.Machine.rests g.M.Machine.regards g.S.Site.stays g.S.Site.goes_on c.args.peers.now (input.Turn c.args.link) ok.went
    (scene c.args.site.now c.args.node.now c.args.journal.now) (scene c.step_on.new.site c.step_on.new.node c.step_on.new.journal)
    (agenda_of c.args.flow.now) (record (agenda_of c.step_on.new.flow) { turning = c.turned_again-flow.result })
    (turn_next (agenda_of c.args.flow.now) c.args.link c.requires.due c.requires.turning) ok.goes
    (turned_on (agenda_of c.args.flow.now) (agenda_of c.step_on.new.flow) c.args.link c.in-Ok.turned ok.went.short (input.Turn c.args.link)
    (carried_dues c.args.peers.now ok.went.sends ok.went.opens) c.turned_again-flow.result c.requires.due c.requires.turning ok.agenda c.turned_again-flow.ensures
    ∙ ap (λ (b : Bool). noting (input.Turn c.args.link) ok.went.short (carried_dues c.args.peers.now ok.went.sends ok.went.opens) (without_next b (agenda_of c.args.flow.now))) ok.handles)

pub returns-in-Err : goal.returns-in-Err
returns-in-Err g c =
    stops g.S.Site.follows g.M.Machine.rule g.M.Machine.lost g.M.Machine.rests g.M.Machine.regards g.S.Site.stays g.S.Site.goes_on c.args.peers.now (input.Turn c.args.link)
    (scene c.args.site.now c.args.node.now c.args.journal.now) (scene c.step_on.new.site c.step_on.new.node c.step_on.new.journal)
    (agenda_of c.args.flow.now) c.step_on.new.flow.short c.in-Err.stop (turn_next (agenda_of c.args.flow.now) c.args.link c.requires.due c.requires.turning)
    c.in-Err.ensures.short c.in-Err.ensures.err
