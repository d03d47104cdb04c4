use Rattle.std.proofs.Common.{None, sym, subst}
use Rattle.cx_desk.specs.Held.{handlers_of}
use Rattle.cx_world_start.specs.cx_run.specs.Worlds.{World as RunWorld}
use Rattle.cx_world.specs.Carried.{Carries}
use Rattle.cx_world.proofs.Making.{ok_alone, ok_makes_alone}
use Rattle.cx_lines.specs.declared.node_steps.NodeStep.{NodeStep}
use Rattle.cx_lines.specs.declared.node_steps.NodeStep.TheVariants as step
use Rattle.cx_world_start.specs.cx_rules.specs.Inputs.{Tick}
use Rattle.cx_world_start.specs.cx_run.specs.Deliveries.{comes, restarts, settles}
use Rattle.cx_world_start.specs.cx_run.specs.Schedules.{on_node}
use Rattle.cx_world.proofs.world.World.act_on_node.Goals as goal

pub returns-in-Clock : goal.returns-in-Clock
returns-in-Clock g c = λ b w h. subst (λ (x : NodeStep). Carries b None c.set_clocks.new.self (on_node w x)) (sym c.in-Clock.is) (c.set_clocks.ensures _ b None w h)

pub returns-in-ClockOf : goal.returns-in-ClockOf
returns-in-ClockOf g c = λ b w h. subst (λ (x : NodeStep). Carries b None c.set_clock.new.self (on_node w x)) (sym c.in-ClockOf.is) (c.set_clock.ensures _ b None w h)

pub returns-in-Restart : goal.returns-in-Restart
returns-in-Restart g c = ok_makes_alone c.restart.result c.args.self.now c.restart.new.self (λ (w : RunWorld). restarts w c.in-Restart.who)
    (ok_alone (handlers_of c.args.desk.now) c.restart.result c.args.self.now c.restart.new.self (λ (w : RunWorld). restarts w c.in-Restart.who) c.restart.ensures)
    c.args.self.now (λ (w : RunWorld). on_node w c.args.step.now)
    (λ b w h m. subst (λ (x : NodeStep). Carries b None c.restart.new.self (on_node w x)) (sym c.in-Restart.is) (m w h))

pub returns-in-FailSave : goal.returns-in-FailSave
returns-in-FailSave g c = λ b w h. subst (λ (x : NodeStep). Carries b None c.fail_save.new.self (on_node w x)) (sym c.in-FailSave.is) (c.fail_save.ensures _ b None w h)

pub returns-in-Tick : goal.returns-in-Tick
returns-in-Tick g c = ok_makes_alone c.tick.result c.args.self.now c.tick.new.self (λ (w : RunWorld). settles (comes w c.in-Tick.who Tick)) c.tick.ensures
    c.args.self.now (λ (w : RunWorld). on_node w c.args.step.now)
    (λ b w h m. subst (λ (x : NodeStep). Carries b None c.tick.new.self (on_node w x)) (sym c.in-Tick.is) (m w h))

pub returns-in-DropSession : goal.returns-in-DropSession
returns-in-DropSession g c =
    ok_makes_alone c.drop_session.result c.args.self.now c.drop_session.new.self (λ (w : RunWorld). on_node w (step.DropSession c.in-DropSession.daemon c.in-DropSession.session))
    (ok_alone (handlers_of c.args.desk.now) c.drop_session.result c.args.self.now c.drop_session.new.self (λ (w : RunWorld). on_node w (step.DropSession c.in-DropSession.daemon c.in-DropSession.session)) c.drop_session.ensures)
    c.args.self.now (λ (w : RunWorld). on_node w c.args.step.now)
    (λ b w h m. subst (λ (x : NodeStep). Carries b None c.drop_session.new.self (on_node w x)) (sym c.in-DropSession.is) (m w h))

pub returns-in-Settle : goal.returns-in-Settle
returns-in-Settle g c = ok_makes_alone c.settle.result c.args.self.now c.settle.new.self (λ (w : RunWorld). settles w) c.settle.ensures
    c.args.self.now (λ (w : RunWorld). on_node w c.args.step.now)
    (λ b w h m. subst (λ (x : NodeStep). Carries b None c.settle.new.self (on_node w x)) (sym c.in-Settle.is) (m w h))
