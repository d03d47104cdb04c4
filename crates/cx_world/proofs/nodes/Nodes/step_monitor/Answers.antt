use Rattle.std.proofs.Common.{◌≡◌, Option, refl, subst}
use Rattle.cx_words.specs.declared.choices.LeftState.{LeftState}
use Rattle.cx_world_start.specs.cx_rules.specs.Inputs.{input_of}
use Rattle.cx_world.specs.actors.Steps.{IsMonitorStep, monitor_made}
use Rattle.cx_world.proofs.actors.Stepping.{monitor_given}
use Rattle.cx_world.proofs.nodes.Nodes.step_monitor.Goals as goal

pub returns : goal.returns
returns c =
    λ handlers w k e.
    monitor_given (input_of c.args.event) w c.args.self.now _ c.in_ok-made.made k refl refl
    (λ post sits.
    let P : Option LeftState → Type 0 = λ left. IsMonitorStep post (monitor_made (input_of c.args.event) post w.nodes left) c.in_ok-made.made c.take_step.new.monitor c.take_step.new.post in
    subst P e (c.in_ok-made.ensures post w.nodes sits k.monitor))
