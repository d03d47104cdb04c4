-- The session was admitted.
use Rattle.std.proofs.Common.{refl}
use Rattle.cx_daemon_session.specs.cx_rules_session.specs.Hosting.{admits}
use Rattle.cx_node.specs.steps.Stages.{keys_alone}
use Rattle.cx_daemon_session.specs.cx_verifying.specs.Stages.{awaiting_ident}
use Rattle.cx_daemon_session.specs.idents.Pending.{ident_arrival}
use Rattle.cx_daemon_session.proofs.admissions.by_reply.Goals as goal

pub returns-in-Admitted : goal.returns-in-Admitted
returns-in-Admitted c =
    rw c.in-Admitted.is (c.come.ensures (awaiting_ident c.args.at.now.number c.args.link c.args.owner.now)
    (admits (ident_arrival c.args.mon_client.now c.args.at.now c.args.link c.args.owner.now) (keys_alone c.args.link.keys) c.args.owner.now c.args.ident.now c.in-Admitted.number c.in-Admitted.epoch)
    refl c.admits-made.ensures)
