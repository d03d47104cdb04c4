-- What opened is logged first.
use Rattle.cx_link.specs.Wires.{wired}
use Rattle.cx_login.specs.Unlocking.{login_in}
use Rattle.cx_node.specs.cx_rules.specs.Abridged.{abridged_mon_client_link}
use Rattle.cx_node.specs.cx_rules.specs.Connector.{MonClientArrival, AwaitsDone, on_login_done, on_opened}
use Rattle.cx_node.specs.cx_rules.specs.Payloads.{whole}
use Rattle.cx_node.proofs.steps.MadeRows.{behind_as}
use Rattle.cx_login.specs.cx_wire.specs.Logins.{login_done_layout}
use Rattle.std.proofs.Common.{[]}
use Rattle.cx_monclient.specs.connector.Rows.{arrived, changed}
use Rattle.cx_monclient.proofs.connector.Logged.{login_opened}
use Rattle.cx_monclient.proofs.dones.on_login_done.Goals as goal

pub returns : goal.returns
returns c =
    let a : MonClientArrival = arrived c.args.mon_client.now c.args.at.now (wired c.args.at.now.number c.args.link AwaitsDone) in
    let k = rw (c.in_ok-login.was, c.new-opened.ensures) at c.in_ok-opened.ensures in
    let r = rw k.2.1 at c.in_ok-row.ensures in
    behind_as abridged_mon_client_link changed a (login_in a.own.secret k.0).seals (on_opened a c.args.gid [] c.in_ok-login.login)
    (on_login_done a c.args.gid (whole login_done_layout.form c.args.payload.now)) c.on_opened-made.result c.in_ok-row.row
    (login_opened a c.args.gid (whole login_done_layout.form c.args.payload.now) k.0 c.in_ok-login.login k.1 k.2.0) c.on_opened-made.ensures r
