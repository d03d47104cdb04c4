use Rattle.cx_client_events.specs.cx_rules_session.specs.Forgets.{abridged_client_link}
use Rattle.cx_client_events.specs.cx_rules_session.proofs.WholeClientForgets.{client-forgets-links}
use Rattle.cx_node.proofs.steps.Steps.{opens_held, opens_step}
use Rattle.cx_client_events.specs.Machine.{banner_sent}
use Rattle.cx_client_events.proofs.events.greets.Goals as goal

pub returns-clause-step : goal.returns-clause-step
returns-clause-step c =
    opens_step abridged_client_link client-forgets-links c.args.own.now.client c.args.at.now.number c.args.links.now.links c.opens.new.links.links
    (banner_sent c.args.own.now.client c.args.at.now.number c.args.at.now.reading c.args.at.now.draw.now.bytes c.args.dial)
    c.greets-greeted.result c.opens.result c.requires.held c.greets-greeted.ensures c.opens.ensures.carried

pub returns-clause-held : goal.returns-clause-held
returns-clause-held c =
    opens_held abridged_client_link client-forgets-links c.args.own.now.client c.args.at.now.number c.args.links.now.links c.opens.new.links.links
    (banner_sent c.args.own.now.client c.args.at.now.number c.args.at.now.reading c.args.at.now.draw.now.bytes c.args.dial)
    c.greets-greeted.result c.opens.result c.requires.held c.greets-greeted.ensures c.opens.ensures.carried c.opens.ensures.lost
