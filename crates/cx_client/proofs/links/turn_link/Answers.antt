use Rattle.std.proofs.Common.{List, refl}
use Rattle.cx_client_session.specs.cx_rules_session.specs.ClientRule as rule
use Rattle.cx_client_session.specs.cx_rules_session.specs.ClientRule.{WholeClient, me}
use Rattle.cx_client_session.specs.cx_rules_session.specs.Forgets.{abridged_client_link}
use Rattle.cx_client_session.specs.cx_rules_session.proofs.WholeClientForgets.{client-forgets-links}
use Rattle.cx_node.proofs.steps.Turning.{turn_held, turn_step}
use Rattle.cx_node.specs.steps.Steps.{node_of}
use Rattle.cx_client_events.specs.linking.Kinds.{ClientLink}
use Rattle.cx_client_events.specs.Turns.{turn_due, with_change}
use Rattle.cx_client.proofs.links.turn_link.Goals as goal

pub returns-clause-step : goal.returns-clause-step
returns-clause-step c =
    let own : WholeClient = c.args.own.now.client in
    let all : List ClientLink = c.args.links.now.links in
    turn_step abridged_client_link client-forgets-links with_change (me own) c.args.at.now.reading c.args.at.now.draw.now.bytes own c.turn_link_inner.new.own.client c.args.at.now.number
    all c.turn_link_inner.new.links.links (turn_due own c.args.at.now.reading c.args.at.now.draw.now.bytes)
    (rule.turn (node_of own all) c.args.at.now.reading c.args.at.now.draw.now.bytes) (record { none = refl; some = λ link. refl }) c.turn_link_inner.result
    c.requires.held c.turn_link_inner.ensures.turned

pub returns-clause-held : goal.returns-clause-held
returns-clause-held c =
    let own : WholeClient = c.args.own.now.client in
    let all : List ClientLink = c.args.links.now.links in
    turn_held abridged_client_link client-forgets-links with_change (me own) c.args.at.now.reading c.args.at.now.draw.now.bytes own c.turn_link_inner.new.own.client c.args.at.now.number
    all c.turn_link_inner.new.links.links (turn_due own c.args.at.now.reading c.args.at.now.draw.now.bytes)
    (rule.turn (node_of own all) c.args.at.now.reading c.args.at.now.draw.now.bytes) (record { none = refl; some = λ link. refl }) c.turn_link_inner.result
    c.requires.held c.turn_link_inner.ensures.turned c.turn_link_inner.ensures.lost
