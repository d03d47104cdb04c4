use Rattle.std.proofs.Common.{◌≡◌, ℕ, List, subst, ap, ◌∙◌}
use Rattle.cx_dice.specs.Rolls.{seed_draw}
use Rattle.cx_world_start.specs.cx_rules.specs.Abridged.{MonitorStandsFor}
use Rattle.cx_world_start.specs.cx_rules.specs.Inputs.{input_of}
use Rattle.cx_world_start.specs.cx_rules.specs.Monitor.{MonitorNode}
use Rattle.cx_world_start.specs.cx_rules.specs.MonitorRule.{monitor_rule}
use Rattle.cx_world_start.specs.cx_rules.specs.Rows.{Outcome}
use Rattle.cx_world.proofs.nodes.take_step.Goals as goal

pub returns : goal.returns
returns c =
    λ s nodes sits k.
    let input = input_of c.args.event in
    let reading : c.reading-reading.result ≡ s.reading = c.reading-reading.ensures.value ∙ c.roll-draw.ensures.reading ∙ sits.reading in
    let draw : c.roll-draw.result.bytes ≡ seed_draw s.seed s.rolled = c.roll-draw.ensures.drawn s sits in
    let step : (monitor_rule nodes.monitor input c.reading-reading.result c.roll-draw.result.bytes) ≡ (monitor_rule nodes.monitor input s.reading (seed_draw s.seed s.rolled))
    = ap (λ (r : ℕ). monitor_rule nodes.monitor input r c.roll-draw.result.bytes) reading ∙ ap (λ (d : List ℕ). monitor_rule nodes.monitor input s.reading d) draw in
    let P : Outcome MonitorNode → Type 0 = λ o. MonitorStandsFor c.step.new.self o.state in
    record {
      saved = c.in_ok-made.ensures nodes (monitor_rule nodes.monitor input s.reading (seed_draw s.seed s.rolled)) (subst P step (c.in_ok-step.ensures.stands nodes.monitor k))
          (c.in_ok-step.ensures.effects nodes.monitor k ∙ ap (λ (o : Outcome MonitorNode). o.out) step);
      sits = c.roll-draw.ensures.rolled s sits;
    }
