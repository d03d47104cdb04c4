use Rattle.std.proofs.Common.{◌≡◌}
use Rattle.cx_client_session.specs.cx_rules_session.specs.ClientRule.{WholeClient}
use Rattle.cx_client_session.specs.cx_rules_session.specs.Presenter.{callee_of}
use Rattle.cx_client.proofs.calls.ByKind.{daemon_come}
use Rattle.cx_client.proofs.links.daemon_turn.Goals as goal

pub returns-clause-come : goal.returns-clause-come
returns-clause-come c =
    let own : WholeClient = c.args.own.now.client in
    let named : c.in_ok-daemon.daemon ≡ (callee_of c.args.link.stage).daemon = cc (c.in_ok-daemon.ensures, c.behind-link.view_is, c.callee.ensures) in
    rw c.in_ok-came.ensures
    (daemon_come own c.in_ok-daemon.daemon c.args.at.now c.args.link c.in_ok-made.made c.mon_client-mon_client.result.now _ named c.mon_client-mon_client.ensures c.session_with.ensures
    c.in_ok-made.ensures)
