use Rattle.std.proofs.Common.{List, refl}
use Rattle.cx_base.specs.declared.nodes.NodeName.TheVariants as node
use Rattle.cx_rules.specs.Abridged.{abridged_link}
use Rattle.cx_rules.specs.Monitor.{Monitor}
use Rattle.cx_rules.specs.MonitorRule as rule
use Rattle.cx_rules.specs.MonitorRule.{turned_at}
use Rattle.cx_rules.specs.Rows.{arrival}
use Rattle.cx_rules.proofs.AcceptorForgets.{acceptor-forgets}
use Rattle.cx_node.proofs.steps.Turning.{turn_held, turn_step}
use Rattle.cx_mon.specs.acceptor.Rows.{with_keys}
use Rattle.cx_mon.specs.acceptor.Stages.{MonitorLink}
use Rattle.cx_node.specs.steps.Steps.{node_of}
use Rattle.cx_mon.proofs.events.turns.Goals as goal

pub returns-clause-step : goal.returns-clause-step
returns-clause-step c =
    let own : Monitor = c.args.own.now in
    let all : List MonitorLink = c.args.links.now.links in
    turn_step abridged_link acceptor-forgets with_keys node.Monitor c.args.at.now.reading c.args.at.now.draw.now.bytes own c.turn.new.own c.args.at.now.number
    all c.turn.new.links.links (λ (link : MonitorLink). turned_at (arrival node.Monitor own link c.args.at.now.reading c.args.at.now.draw.now.bytes) link.stage)
    (rule.turn (node_of own all) c.args.at.now.reading c.args.at.now.draw.now.bytes) (record { none = refl; some = λ link. refl }) c.turn.result
    c.requires.held c.turn.ensures.turned

pub returns-clause-held : goal.returns-clause-held
returns-clause-held c =
    let own : Monitor = c.args.own.now in
    let all : List MonitorLink = c.args.links.now.links in
    turn_held abridged_link acceptor-forgets with_keys node.Monitor c.args.at.now.reading c.args.at.now.draw.now.bytes own c.turn.new.own c.args.at.now.number
    all c.turn.new.links.links (λ (link : MonitorLink). turned_at (arrival node.Monitor own link c.args.at.now.reading c.args.at.now.draw.now.bytes) link.stage)
    (rule.turn (node_of own all) c.args.at.now.reading c.args.at.now.draw.now.bytes) (record { none = refl; some = λ link. refl }) c.turn.result
    c.requires.held c.turn.ensures.turned c.turn.ensures.lost
