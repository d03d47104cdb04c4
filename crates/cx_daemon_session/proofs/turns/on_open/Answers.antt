-- A keepalive has the row of what is sent behind it.
use Rattle.std.proofs.Common.{◌≡◌, ◌∙◌, [], None, true, refl, sym, ap}
use Rattle.cx_desk.specs.Handlers.{Handlers}
use Rattle.cx_node.specs.cx_rules.specs.Acceptor.{Open}
use Rattle.cx_node.specs.cx_rules.specs.Rows.{secure_sent}
use Rattle.cx_daemon_session.specs.cx_rules_session.specs.IncomingLinks.{IncomingArrival, IncomingRow}
use Rattle.cx_daemon_session.specs.cx_rules_session.specs.Hosting.{on_open}
use Rattle.cx_node.specs.steps.Stages.{keys_alone}
use Rattle.cx_node.specs.steps.Upkeep.{upkept}
use Rattle.cx_daemon_session.specs.cx_verifying.specs.Stages.{open_link}
use Rattle.cx_daemon_session.proofs.coming.Deciding.{one-from}
use Rattle.cx_daemon_session.proofs.coming.Made.{come_stays}
use Rattle.cx_daemon_session.specs.coming.Hosted.{done_as, due_behind}
use Rattle.cx_daemon_session.specs.messages.Pending.{open_arrival}
use Rattle.cx_daemon_session.proofs.messages.Behind.{open-kept}
use Rattle.cx_daemon_session.proofs.turns.on_open.Goals as goal

pub returns-in_ok-came-clause-begun : goal.returns-in_ok-came-clause-begun
returns-in_ok-came-clause-begun c = λ (handlers : Handlers).
    let a : IncomingArrival = open_arrival c.args.mon_client.now c.args.at.now c.args.link c.args.served in
    let due : IncomingRow = secure_sent a (keys_alone c.args.link.keys) (λ behind. Open behind c.args.served) [] (upkept c.args.link.keys c.args.frame.now) in
    let is = c.in_ok-came.ensures (open_link c.args.at.now.number c.args.link c.args.served) due refl c.stays_open-made.ensures in
    one-from (done_as c.args.mon_client.now c.in_ok-came.came None)
    (due_behind c.args.opened (on_open handlers a (keys_alone c.args.link.keys) c.args.served c.args.frame.now))
    (is.made ∙ ap (due_behind c.args.opened) (sym (open-kept handlers a c.args.served c.args.frame.now c.args.link.keys (sym c.is_keepalive.ensures ∙ c.if-is_keepalive.true))))

pub returns-in_ok-came-clause-stays : goal.returns-in_ok-came-clause-stays
returns-in_ok-came-clause-stays c =
    let a : IncomingArrival = open_arrival c.args.mon_client.now c.args.at.now c.args.link c.args.served in
    let due : IncomingRow = secure_sent a (keys_alone c.args.link.keys) (λ behind. Open behind c.args.served) [] (upkept c.args.link.keys c.args.frame.now) in
    let is = c.in_ok-came.ensures (open_link c.args.at.now.number c.args.link c.args.served) due refl c.stays_open-made.ensures in
    come_stays c.args.mon_client.now c.args.at.now.number c.args.opened due c.in_ok-came.came is
