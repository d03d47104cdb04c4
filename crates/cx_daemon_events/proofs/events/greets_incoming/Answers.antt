use Rattle.std.specs.Prelude.{length, nat_le}
use Rattle.cx_verifying.specs.cx_rules_session.specs.Forgets.{abridged_daemon_link}
use Rattle.cx_verifying.specs.cx_rules_session.proofs.DaemonForgets.{daemon-forgets-links}
use Rattle.cx_node.proofs.steps.Steps.{opens_held, opens_step}
use Rattle.cx_daemon_events.specs.Machine.{incoming_greeted}
use Rattle.cx_daemon_events.proofs.events.greets_incoming.Goals as goal

pub returns-clause-step : goal.returns-clause-step
returns-clause-step c =
    let m = rw c.len-full.ensures at c.greets_incoming-greeted.ensures in
    opens_step abridged_daemon_link daemon-forgets-links c.args.own.now c.args.at.now.number c.args.links.now.links c.opens.new.links.links
    (incoming_greeted (nat_le 1024 (length c.args.links.now.links)) c.args.own.now c.args.at.now.number c.args.at.now.reading c.args.at.now.draw.now.bytes)
    c.greets_incoming-greeted.result c.opens.result c.requires.held m c.opens.ensures.carried

pub returns-clause-held : goal.returns-clause-held
returns-clause-held c =
    let m = rw c.len-full.ensures at c.greets_incoming-greeted.ensures in
    opens_held abridged_daemon_link daemon-forgets-links c.args.own.now c.args.at.now.number c.args.links.now.links c.opens.new.links.links
    (incoming_greeted (nat_le 1024 (length c.args.links.now.links)) c.args.own.now c.args.at.now.number c.args.at.now.reading c.args.at.now.draw.now.bytes)
    c.greets_incoming-greeted.result c.opens.result c.requires.held m c.opens.ensures.carried c.opens.ensures.lost
