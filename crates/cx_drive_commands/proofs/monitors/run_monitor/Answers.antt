use Rattle.std.proofs.Common.{rules, subst, sym, MatchResult, IfOk}
use Rattle.cx_base.specs.Streams.{Rose}
use Rattle.cx_drive_commands.specs.nodes.Outside.{outside}
use Rattle.cx_drive_commands.specs.nodes.Runs.{IsStateless, IsStatelessCause}
use Rattle.cx_drive_commands.proofs.nodes.Stopping.{stopped_by}
use Rattle.cx_drive_commands.proofs.monitors.run_monitor.Goals as goal
use Rattle.cx_drive_commands.proofs.monitors.run_monitor.Goals.{in-Ok, in-Err}

pub returns-clause-ends : goal.returns-clause-ends
returns-clause-ends g c = search rules

pub returns-clause-stopped : goal.returns-clause-stopped
returns-clause-stopped g c = λ kept is keeper.
    stopped_by g.L.Links.follows c.args.command.now c.args.bytes.now
    (outside (g.K.Keeper.kept c.args.keeper.now) (g.K.Keeper.faults c.args.keeper.now) c.args.links.now (g.L.Links.faults c.args.links.now) (g.L.Links.misses c.args.links.now)
    (g.C.Clock.coming c.args.clock.now) (g.D.Dice.coming c.args.dice.now) (g.D.Dice.faults c.args.dice.now))
    (outside (g.K.Keeper.kept c.match-loads.keeper) (g.K.Keeper.faults c.match-loads.keeper) c.match-loads.links (g.L.Links.faults c.match-loads.links) (g.L.Links.misses c.match-loads.links)
    (g.C.Clock.coming c.match-loads.clock) (g.D.Dice.coming c.match-loads.dice) (g.D.Dice.faults c.match-loads.dice))
    kept is c.match-loads.end c.match-loads.journal keeper (returns-clause-ends g c)

pub returns-clause-stateless : goal.returns-clause-stateless
returns-clause-stateless g c = λ h up. elim c.match-loads.branch [
  | in-Ok w ↦ absurd (subst (λ r. IfOk r (λ _. ⊥)) w.in-Ok.is (c.loads.ensures.none h))
  | in-Err w ↦ subst IsStateless (sym w.end-is)
      (subst (λ r. MatchResult r (λ _. ⊥) IsStatelessCause) w.in-Err.is (c.loads.ensures.stateless h (subst (λ k. ¬ Rose (g.K.Keeper.faults c.args.keeper.now) (g.K.Keeper.faults k)) w.keeper-is up)))
]
