-- A keepalive has the row of what is sent behind it.
use Rattle.std.proofs.Common.{◌∙◌, [], ap, sym}
use Rattle.cx_frame.specs.declared.frame.Frame.{Frame}
use Rattle.cx_rules.specs.Abridged.{abridged_link}
use Rattle.cx_rules.specs.Acceptor.{Open}
use Rattle.cx_rules.specs.Monitor.{MonitorArrival, MonitorRow, MonitorStage}
use Rattle.cx_rules.specs.MonitorRequests.{on_message, on_open}
use Rattle.cx_rules.specs.Rows.{secure_sent}
use Rattle.cx_rules.specs.Secured.{Secured}
use Rattle.cx_node.proofs.steps.Keeping.{keepalive-row}
use Rattle.cx_node.proofs.steps.MadeRows.{makes_as}
use Rattle.cx_node.specs.steps.Making.{row_due}
use Rattle.cx_node.specs.steps.Stages.{keys_alone}
use Rattle.cx_node.specs.steps.Upkeep.{upkept}
use Rattle.cx_mon.specs.acceptor.Rows.{arrived, with_keys}
use Rattle.cx_mon.specs.acceptor.Stages.{open_link}
use Rattle.cx_mon.proofs.upkeep.on_open.Goals as goal

pub returns-then-is_keepalive-clause-row : goal.returns-then-is_keepalive-clause-row
returns-then-is_keepalive-clause-row c =
    let a : MonitorArrival = arrived c.args.own.now c.args.at.now (open_link c.args.at.now.number c.args.link c.args.bearer) in
    let open_under : Secured → MonitorStage = λ behind. Open behind c.args.bearer in
    let other : Frame → MonitorRow = λ f. on_message Open a (keys_alone c.args.link.keys) c.args.bearer f in
    let due : MonitorRow → MonitorRow = λ row. row_due abridged_link row in
    makes_as abridged_link with_keys a (secure_sent a (keys_alone c.args.link.keys) open_under [] (upkept c.args.link.keys c.args.frame.now))
    (on_open Open a (keys_alone c.args.link.keys) c.args.bearer c.args.frame.now) c.stays_open.result
    (ap due (keepalive-row a c.args.link.keys open_under other c.args.frame.now (sym c.is_keepalive.ensures ∙ c.if-is_keepalive.true)))
    c.stays_open.ensures
