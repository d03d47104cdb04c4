use Rattle.cx_verifying.specs.cx_rules_session.specs.Forgets.{abridged_daemon_link}
use Rattle.cx_verifying.specs.cx_rules_session.proofs.DaemonForgets.{daemon-forgets-links}
use Rattle.cx_node.proofs.steps.Steps.{comes_held, comes_step}
use Rattle.cx_daemon_events.proofs.events.comes.Goals as goal

pub returns-clause-step : goal.returns-clause-step
returns-clause-step c =
    comes_step abridged_daemon_link daemon-forgets-links c.args.own.now c.args.number c.args.bytes.now c.args.links.now.links c.comes.new.links.links c.comes.result
    c.requires.held c.comes.ensures.fed

pub returns-clause-held : goal.returns-clause-held
returns-clause-held c =
    comes_held abridged_daemon_link daemon-forgets-links c.args.number c.args.bytes.now c.args.links.now.links c.comes.new.links.links c.comes.result
    c.requires.held c.comes.ensures.fed c.comes.ensures.lost
