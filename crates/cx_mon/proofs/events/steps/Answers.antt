-- What a step saves is what was saved last, behind it.
use Rattle.std.proofs.Common.{ap}
use Rattle.cx_rules.specs.Inputs.{input_of}
use Rattle.cx_rules.specs.Monitor.{MonitorNode}
use Rattle.cx_rules.specs.MonitorRule.{monitor_rule}
use Rattle.cx_node.specs.steps.Steps.{node_of}
use Rattle.cx_mon.proofs.Kept.{saves_kept}
use Rattle.cx_mon.proofs.events.steps.Goals as goal

pub returns-clause-kept : goal.returns-clause-kept
returns-clause-kept c =
    let m : MonitorNode = node_of c.args.own.now c.args.links.now.links in
    let s = rw c.note.ensures at c.in_ok-out.ensures.step in
    saves_kept m (input_of c.args.event) (monitor_rule m (input_of c.args.event) c.args.now c.args.draw.now.bytes) c.happens.new.own.saved c.in_ok-out.out
    (c.rule_laws.ensures.judged m (input_of c.args.event) c.args.now c.args.draw.now.bytes) s.out (ap (λ (n : MonitorNode). n.own.saved) s.state) c.is_kept.ensures
