use Rattle.std.proofs.Common.{◌<◌, Some, refl, subst, sym}
use Rattle.cx_drive.proofs.Running.{on, ran_on, wants}
use Rattle.cx_drive.specs.Agendas.{agenda_of}
use Rattle.cx_drive.specs.Stops.{scene}
use Rattle.cx_drive.specs.declared.ends.Ended.TheVariants as ended
use Rattle.cx_drive.specs.declared.stops.Stop.TheVariants as stop
use Rattle.cx_drive.proofs.driving.run.Goals as goal

pub returns-in-Some : goal.returns-in-Some
returns-in-Some g c =
    on g.S.Site.follows g.M.Machine.rule g.M.Machine.lost g.M.Machine.rests g.M.Machine.regards g.S.Site.stays g.S.Site.goes_on c.args.peers.now
    (scene c.args.site.now c.args.node.now c.args.journal.now) (scene c.loop.site c.loop.node c.loop.journal) (scene c.go_on.new.site c.go_on.new.node c.go_on.new.journal)
    (agenda_of c.args.flow.now) (agenda_of c.loop.flow) (agenda_of c.go_on.new.flow) (Some c.in-Some.ended) c.loop.invariant.1 c.in-Some.ensures.ran

pub returns : goal.returns
returns g c =
    on g.S.Site.follows g.M.Machine.rule g.M.Machine.lost g.M.Machine.rests g.M.Machine.regards g.S.Site.stays g.S.Site.goes_on c.args.peers.now
    (scene c.args.site.now c.args.node.now c.args.journal.now) (scene c.loop.site c.loop.node c.loop.journal) (scene c.loop.site c.loop.node c.loop.journal)
    (agenda_of c.args.flow.now) (agenda_of c.loop.flow) (agenda_of c.loop.flow) (Some (ended.Stopped stop.Memory)) c.loop.invariant.1
    (wants g.S.Site.follows g.M.Machine.rule g.M.Machine.lost g.M.Machine.rests g.M.Machine.regards g.S.Site.stays g.S.Site.goes_on c.args.peers.now
    (scene c.loop.site c.loop.node c.loop.journal) (agenda_of c.loop.flow) c.loop.flow.short refl)

pub loop-preserved : goal.loop-preserved
loop-preserved g c = (
  subst (λ n. 0 < n) (sym c.go_on.ensures.room) c.loop.invariant.0,
  ran_on g.S.Site.follows g.M.Machine.rule g.M.Machine.lost g.M.Machine.rests g.M.Machine.regards g.S.Site.stays g.S.Site.goes_on c.args.peers.now
      (scene c.args.site.now c.args.node.now c.args.journal.now) (scene c.loop.site c.loop.node c.loop.journal) (scene c.go_on.new.site c.go_on.new.node c.go_on.new.journal)
      (agenda_of c.args.flow.now) (agenda_of c.loop.flow) (agenda_of c.go_on.new.flow) c.loop.invariant.1 c.in-None.ensures.ran,
)
