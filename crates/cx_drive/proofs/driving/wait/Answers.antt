use Rattle.std.proofs.Common.{inl, inr, arith}
use Rattle.cx_drive.proofs.Ahead.{none_next}
use Rattle.cx_drive.proofs.Running.{breaks, done, on, ran_came}
use Rattle.cx_drive.specs.Agendas.{after_event, agenda_of}
use Rattle.cx_drive.specs.Stops.{scene}
use Rattle.cx_outside.specs.linking.Events.{came}
use Rattle.cx_drive.proofs.driving.wait.Goals as goal

pub returns-then-flow-clause-ran : goal.returns-then-flow-clause-ran
returns-then-flow-clause-ran g c =
    done g.S.Site.follows g.M.Machine.rule g.M.Machine.lost g.M.Machine.rests g.M.Machine.regards g.S.Site.stays g.S.Site.goes_on c.args.peers.now
    (scene c.args.site.now c.args.node.now c.args.journal.now) (agenda_of c.args.flow.now)
    (record { none = none_next (agenda_of c.args.flow.now) c.requires.due c.requires.turning; over = inr c.if-flow.true })

pub returns-then-flow-eq0-clause-ran : goal.returns-then-flow-eq0-clause-ran
returns-then-flow-eq0-clause-ran g c =
    done g.S.Site.follows g.M.Machine.rule g.M.Machine.lost g.M.Machine.rests g.M.Machine.regards g.S.Site.stays g.S.Site.goes_on c.args.peers.now
    (scene c.args.site.now c.args.node.now c.args.journal.now) (agenda_of c.args.flow.now)
    (record { none = none_next (agenda_of c.args.flow.now) c.requires.due c.requires.turning; over = inl c.if-flow-eq0.true })

pub returns-in-Ok-clause-ran : goal.returns-in-Ok-clause-ran
returns-in-Ok-clause-ran g c =
    on g.S.Site.follows g.M.Machine.rule g.M.Machine.lost g.M.Machine.rests g.M.Machine.regards g.S.Site.stays g.S.Site.goes_on c.args.peers.now
    (scene c.args.site.now c.args.node.now c.args.journal.now) (scene c.next.new.self c.args.node.now c.args.journal.now)
    (scene c.happens.new.site c.happens.new.node c.happens.new.journal) (agenda_of c.args.flow.now)
    (after_event (g.M.Machine.rests c.args.node.now) c.in-Ok.event (came c.in-Ok.event c.next.new.into) (agenda_of c.args.flow.now)) (agenda_of c.happens.new.flow)
    c.happens.result
    (ran_came g.S.Site.follows g.M.Machine.rule g.M.Machine.lost g.M.Machine.rests g.M.Machine.regards g.S.Site.stays g.S.Site.goes_on c.args.peers.now
    c.in-Ok.event (came c.in-Ok.event c.next.new.into) c.args.site.now c.next.new.self c.args.node.now c.args.journal.now (agenda_of c.args.flow.now)
    (record { none = none_next (agenda_of c.args.flow.now) c.requires.due c.requires.turning; left = omega (arith, c.if-flow-eq0.false); on = c.if-flow.false })
    c.in-Ok.ensures.did)
    c.happens.ensures

pub returns-in-Err-clause-ran : goal.returns-in-Err-clause-ran
returns-in-Err-clause-ran g c =
    breaks g.S.Site.follows g.M.Machine.rule g.M.Machine.lost g.M.Machine.rests g.M.Machine.regards g.S.Site.stays g.S.Site.goes_on c.args.peers.now
    c.args.site.now c.next.new.self c.args.node.now c.args.journal.now (agenda_of c.args.flow.now)
    (record { none = none_next (agenda_of c.args.flow.now) c.requires.due c.requires.turning; left = omega (arith, c.if-flow-eq0.false); on = c.if-flow.false })
    c.in-Err.ensures.did
