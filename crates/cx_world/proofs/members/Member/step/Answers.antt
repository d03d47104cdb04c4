use Rattle.std.proofs.Common.{◌≡◌, ℕ, List, refl, subst, ap, ◌∙◌, false, true}
use Rattle.cx_desk.specs.Handlers.{Handlers}
use Rattle.cx_desk.specs.Held.{handlers_of}
use Rattle.cx_dice.specs.Rolls.{seed_draw}
use Rattle.cx_world_start.specs.cx_rules_session.specs.Forgets.{WholeClientStandsFor}
use Rattle.cx_world_start.specs.cx_rules_session.specs.ClientRule.{WholeClientNode, whole_client_rule}
use Rattle.cx_world_start.specs.cx_rules.specs.Rows.{Outcome}
use Rattle.cx_world_start.specs.cx_rules.specs.Inputs.{input_of}
use Rattle.cx_world_start.specs.cx_rules_session.specs.DaemonRule.{DaemonState, daemon_step}
use Rattle.cx_world_start.specs.cx_rules_session.specs.Forgets.{DaemonStandsFor}
use Rattle.cx_steps.specs.declared.effects.Effects.{Effects}
use Rattle.cx_world.specs.declared.made.Made.{Made}
use Rattle.cx_world.specs.declared.members.Member.{Member}
use Rattle.cx_world.specs.declared.members.MemberNode.TheVariants as held
use Rattle.cx_world.proofs.actors.Stepping.{client_step, daemon_steps}
use Rattle.cx_world.proofs.members.Member.step.Goals as goal

pub returns-in-Client : goal.returns-in-Client
returns-in-Client g c =
    λ post entity k.
    let new : Member = record { name = c.args.self.now.name; post = c.roll-draw.new.self; node = held.Client c.step.new.self } in
    let input = input_of c.args.event in
    let reading : c.reading-reading.result ≡ post.reading = c.reading-reading.ensures.value ∙ c.roll-draw.ensures.reading ∙ k.0.reading in
    let draw : c.roll-draw.result.bytes ≡ seed_draw post.seed post.rolled = c.roll-draw.ensures.drawn post k.0 in
    let as_made : Effects → Made = λ out. record { out = out; failed = false; happened = true } in
    client_step (handlers_of c.args.desk.now) input post entity c.of.result c.args.self.now new c.in-Client.client c.step.new.self k.1 c.in-Client.is refl refl (c.roll-draw.ensures.rolled post k.0)
    (λ x s.
    let step : (whole_client_rule x input c.reading-reading.result c.roll-draw.result.bytes) ≡ (whole_client_rule x input post.reading (seed_draw post.seed post.rolled))
    = ap (λ (r : ℕ). whole_client_rule x input r c.roll-draw.result.bytes) reading ∙ ap (λ (d : List ℕ). whole_client_rule x input post.reading d) draw in
    let P : Outcome WholeClientNode → Type 0 = λ o. WholeClientStandsFor c.step.new.self o.state in (
      c.of.ensures ∙ ap as_made (c.in_ok-step-in-Client.ensures.effects x s ∙ ap (λ (o : Outcome WholeClientNode). o.out) step),
      subst P step (c.in_ok-step-in-Client.ensures.stands x s),
    ))

pub returns : goal.returns
returns g c =
    λ post entity k.
    let new : Member = record { name = c.args.self.now.name; post = c.roll-draw.new.self; node = held.Daemon c.step-in-Daemon.new.self } in
    let input = input_of c.args.event in
    let reading : c.reading-reading.result ≡ post.reading = c.reading-reading.ensures.value ∙ c.roll-draw.ensures.reading ∙ k.0.reading in
    let draw : c.roll-draw.result.bytes ≡ seed_draw post.seed post.rolled = c.roll-draw.ensures.drawn post k.0 in
    let as_made : Effects → Made = λ out. record { out = out; failed = false; happened = true } in
    let handlers : Handlers = handlers_of c.args.desk.now in
    daemon_steps handlers input post entity c.of-in-Daemon.result c.args.self.now new c.in-Daemon.daemon c.step-in-Daemon.new.self k.1 c.in-Daemon.is refl refl
    (c.roll-draw.ensures.rolled post k.0)
    (λ x s.
    let step : (daemon_step handlers x input c.reading-reading.result c.roll-draw.result.bytes) ≡ (daemon_step handlers x input post.reading (seed_draw post.seed post.rolled))
    = ap (λ (r : ℕ). daemon_step handlers x input r c.roll-draw.result.bytes) reading ∙ ap (λ (d : List ℕ). daemon_step handlers x input post.reading d) draw in
    let P : Outcome DaemonState → Type 0 = λ o. DaemonStandsFor c.step-in-Daemon.new.self o.state in (
      c.of-in-Daemon.ensures ∙ ap as_made (c.in_ok-step-in-Daemon.ensures.effects x s ∙ ap (λ (o : Outcome DaemonState). o.out) step),
      subst P step (c.in_ok-step-in-Daemon.ensures.stands x s),
    ))
