use Rattle.std.proofs.Common.{None, sym, subst}
use Rattle.cx_desk.specs.Held.{handlers_of}
use Rattle.cx_world_start.specs.cx_run.specs.Worlds.{World as RunWorld}
use Rattle.cx_world.specs.Carried.{Carries}
use Rattle.cx_world.proofs.Making.{ok_alone, ok_makes_alone}
use Rattle.cx_lines.specs.declared.lines.Line.{Line}
use Rattle.cx_world_start.specs.cx_run.specs.Schedules.{acts_on, on_link, on_node, submits, submitted}
use Rattle.cx_world.proofs.world.World.act_on.Goals as goal

pub returns-in-Do : goal.returns-in-Do
returns-in-Do g c = ok_makes_alone c.submit.result c.args.self.now c.submit.new.self (λ (w : RunWorld). submitted w c.in-Do.command)
    (ok_alone (handlers_of c.args.desk.now) c.submit.result c.args.self.now c.submit.new.self (λ (w : RunWorld). submitted w c.in-Do.command) c.submit.ensures)
    c.args.self.now (λ (w : RunWorld). acts_on w c.args.line.now)
    (λ b w h m. subst (λ (x : Line). Carries b None c.submit.new.self (acts_on w x)) (sym c.in-Do.is) (m w h))

pub returns-in-Link : goal.returns-in-Link
returns-in-Link g c = ok_makes_alone c.act_on_link.result c.args.self.now c.act_on_link.new.self (λ (w : RunWorld). on_link w c.in-Link.step)
    (ok_alone (handlers_of c.args.desk.now) c.act_on_link.result c.args.self.now c.act_on_link.new.self (λ (w : RunWorld). on_link w c.in-Link.step) c.act_on_link.ensures)
    c.args.self.now (λ (w : RunWorld). acts_on w c.args.line.now)
    (λ b w h m. subst (λ (x : Line). Carries b None c.act_on_link.new.self (acts_on w x)) (sym c.in-Link.is) (m w h))

pub returns-in-Submit : goal.returns-in-Submit
returns-in-Submit g c = ok_makes_alone c.submit_and_settle.result c.args.self.now c.submit_and_settle.new.self (λ (w : RunWorld). submits w c.in-Submit.command) c.submit_and_settle.ensures
    c.args.self.now (λ (w : RunWorld). acts_on w c.args.line.now)
    (λ b w h m. subst (λ (x : Line). Carries b None c.submit_and_settle.new.self (acts_on w x)) (sym c.in-Submit.is) (m w h))

pub returns-in-Node : goal.returns-in-Node
returns-in-Node g c = ok_makes_alone c.act_on_node.result c.args.self.now c.act_on_node.new.self (λ (w : RunWorld). on_node w c.in-Node.step) c.act_on_node.ensures
    c.args.self.now (λ (w : RunWorld). acts_on w c.args.line.now)
    (λ b w h m. subst (λ (x : Line). Carries b None c.act_on_node.new.self (acts_on w x)) (sym c.in-Node.is) (m w h))
