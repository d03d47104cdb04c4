use Rattle.std.proofs.Common.{◌≡◌, ℕ, List, ap, ◌∙◌, sym, subst}
use Rattle.cx_world_start.specs.cx_run.specs.Worlds.{World as RunWorld}
use Rattle.cx_world.specs.Carried.{Carries}
use Rattle.cx_world.proofs.Making.{ok_makes}
use Rattle.cx_lines.specs.declared.link_steps.LinkStep.{LinkStep}
use Rattle.cx_lines.specs.declared.link_steps.LinkStep.TheVariants as link
use Rattle.cx_world_start.specs.cx_run.specs.Deliveries.{delivers}
use Rattle.cx_world_start.specs.cx_run.specs.Schedules.{arrives_again, cuts, ever_sent, injects, on_link}
use Rattle.cx_world_start.specs.cx_run.specs.Wires.{wire_of}
use Rattle.cx_world.proofs.world.World.act_on_link.Goals as goal

pub returns-in-Again : goal.returns-in-Again
returns-in-Again g c = ok_makes c.repeat.result c.args.self.now c.repeat.new.self
    (λ (w : RunWorld).
    arrives_again w c.in-Again.side (ever_sent c.in-Again.place c.in-Again.side (wire_of c.in-Again.number w.wires)) (wire_of c.in-Again.to w.wires))
    c.repeat.ensures
    c.args.self.now (λ (w : RunWorld). on_link w c.args.step.now)
    (λ b seen w h m. subst (λ (x : LinkStep). Carries b seen c.repeat.new.self (on_link w x)) (sym c.in-Again.is) (m w h))

pub returns-in-Carry : goal.returns-in-Carry
returns-in-Carry g c = ok_makes c.deliver.result c.args.self.now c.deliver.new.self
    (λ (w : RunWorld). delivers w c.in-Carry.number c.in-Carry.side c.in-Carry.n) c.deliver.ensures
    c.args.self.now (λ (w : RunWorld). on_link w c.args.step.now)
    (λ b seen w h m. subst (λ (x : LinkStep). Carries b seen c.deliver.new.self (on_link w x)) (sym c.in-Carry.is) (m w h))

pub returns-in-Lose : goal.returns-in-Lose
returns-in-Lose g c = λ b seen w h. subst (λ (x : LinkStep). Carries b seen c.lose.new.self (on_link w x)) (sym c.in-Lose.is) (c.lose.ensures _ b seen w h)

pub returns-in-Inject : goal.returns-in-Inject
returns-in-Inject g c = ok_makes c.inject.result c.args.self.now c.inject.new.self
    (λ (w : RunWorld). injects w c.in-Inject.side c.bytes.result.now (wire_of c.in-Inject.number w.wires)) c.inject.ensures
    c.args.self.now (λ (w : RunWorld). on_link w c.args.step.now)
    (λ b seen w h m.
    let is : link.Inject c.in-Inject.number c.in-Inject.side c.bytes.result.now ≡ c.args.step.now =
    ap (λ (x : List ℕ). link.Inject c.in-Inject.number c.in-Inject.side x) c.bytes.ensures ∙ sym c.in-Inject.is in
    subst (λ (x : LinkStep). Carries b seen c.inject.new.self (on_link w x)) is (m w h))

pub returns-in-Cut : goal.returns-in-Cut
returns-in-Cut g c = ok_makes c.cut.result c.args.self.now c.cut.new.self
    (λ (w : RunWorld). cuts w (wire_of c.in-Cut.number w.wires)) c.cut.ensures
    c.args.self.now (λ (w : RunWorld). on_link w c.args.step.now)
    (λ b seen w h m. subst (λ (x : LinkStep). Carries b seen c.cut.new.self (on_link w x)) (sym c.in-Cut.is) (m w h))
