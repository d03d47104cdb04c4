-- Each refusal of the book has its row.
use Rattle.std.proofs.Common.{[], refl}
use Rattle.cx_journal.specs.declared.faults.SessionFault.TheVariants as session
use Rattle.cx_journal.specs.declared.outcomes.Reason.TheVariants as reason
use Rattle.cx_node.specs.cx_rules.specs.Acceptor.{Open}
use Rattle.cx_node.specs.cx_rules.specs.Messages.{acknowledgement}
use Rattle.cx_node.specs.cx_rules.specs.Rows.{refuses, sends_secure}
use Rattle.cx_node.specs.steps.Stages.{keys_alone}
use Rattle.cx_daemon_session.specs.cx_verifying.specs.Stages.{open_link}
use Rattle.cx_daemon_session.specs.messages.Pending.{open_arrival}
use Rattle.cx_daemon_session.proofs.taking.untaken.Goals as goal

pub returns-in-Repeat : goal.returns-in-Repeat
returns-in-Repeat c =
    rw c.in-Repeat.is (c.come.ensures (open_link c.args.at.now.number c.args.link c.args.served)
    (sends_secure (open_arrival c.args.mon_client.now c.args.at.now c.args.link c.args.served) (keys_alone c.args.link.keys) (λ behind. Open behind c.args.served) []
    (acknowledgement c.in-Repeat.last)) refl c.acknowledges-made.ensures)

pub returns-in-Gap : goal.returns-in-Gap
returns-in-Gap c =
    rw c.in-Gap.is (c.come-in-Gap.ensures (open_link c.args.at.now.number c.args.link c.args.served)
    (refuses (open_arrival c.args.mon_client.now c.args.at.now c.args.link c.args.served) (reason.Session (session.Gap c.in-Gap.expected)) []) refl refl)

pub returns-in-Stale : goal.returns-in-Stale
returns-in-Stale c =
    rw c.in-Stale.is (c.come-in-Stale.ensures (open_link c.args.at.now.number c.args.link c.args.served)
    (refuses (open_arrival c.args.mon_client.now c.args.at.now c.args.link c.args.served) (reason.Session (session.Stale c.in-Stale.epoch)) []) refl refl)
