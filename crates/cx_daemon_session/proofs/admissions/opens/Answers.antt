-- SERVER_IDENT is sent behind the entry that its cookie was drawn.
use Rattle.std.proofs.Common.{[], ◌∷◌}
use Rattle.cx_daemon_session.specs.cx_authorize.specs.Daemon.{Authority}
use Rattle.cx_dice.specs.Draws.{cookie_of}
use Rattle.cx_node.specs.cx_rules.specs.Acceptor.{Open, server_ident}
use Rattle.cx_daemon_session.specs.cx_rules_session.specs.IncomingLinks.{IncomingArrival}
use Rattle.cx_daemon_session.specs.cx_rules_session.specs.Hosting.{cookie_drawn}
use Rattle.cx_daemon_session.specs.cx_rules_session.specs.Lossy.{lossy_flags}
use Rattle.cx_node.specs.steps.Stages.{keys_alone}
use Rattle.cx_daemon_session.specs.cx_verifying.specs.Stages.{awaiting_ident}
use Rattle.cx_daemon_session.specs.idents.Pending.{ident_arrival}
use Rattle.cx_daemon_session.proofs.idents.Drawn.{behind_drawn}
use Rattle.cx_daemon_session.proofs.admissions.opens.Goals as goal

pub returns : goal.returns
returns c = λ (owner : Authority).
    let a : IncomingArrival = ident_arrival c.args.mon_client.now c.args.at.now c.args.link owner in
    let is = rw (c.in_ok-me.ensures, c.in_ok-drawn.ensures c.args.mon_client.now (awaiting_ident c.args.at.now.number c.args.link owner)) at c.in_ok-row.ensures in
    behind_drawn a (keys_alone c.args.link.keys) (λ behind. Open behind c.args.served) (cookie_drawn a)
    (server_ident a.own.address (lossy_flags c.args.served.lossy) (cookie_of a.draw)) c.sends_ident-made.result c.in_ok-row.row (c.sends_ident-made.ensures owner) is
