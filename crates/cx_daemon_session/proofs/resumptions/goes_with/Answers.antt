-- The session moves to this link.
use Rattle.std.proofs.Common.{refl}
use Rattle.cx_daemon_session.specs.cx_rules_session.specs.IncomingLinks.{IncomingRow}
use Rattle.cx_daemon_session.specs.cx_rules_session.specs.Hosting.{resumes}
use Rattle.cx_node.specs.steps.Stages.{keys_alone}
use Rattle.cx_daemon_session.specs.idents.Pending.{ident_arrival}
use Rattle.cx_daemon_session.proofs.idents.Moved.{moved_made}
use Rattle.cx_daemon_session.proofs.resumptions.goes_with.Goals as goal

pub returns-in_ok-came-in-Resume : goal.returns-in_ok-came-in-Resume
returns-in_ok-came-in-Resume c =
    let row : IncomingRow = resumes (ident_arrival c.args.mon_client.now c.args.at.now c.args.resuming.link c.in-Resume.owner) (keys_alone c.args.resuming.link.keys)
    c.in-Resume.owner c.args.resuming.reconnect c.args.number c.args.epoch c.args.last c.args.lossy in
    let is = c.in_ok-came-in-Resume.ensures in
    record {
      made = rw c.in-Resume.is (moved_made c.args.mon_client.now c.args.resuming.opened row c.args.number c.in_ok-came-in-Resume.came is.made);
      number_is = is.number_is;
      applied = refl;
    }
