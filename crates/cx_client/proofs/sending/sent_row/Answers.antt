use Rattle.cx_client.proofs.calls.Sent.{row_sent}
use Rattle.cx_client.proofs.sending.sent_row.Goals as goal

pub returns : goal.returns
returns c =
    row_sent c.args.at.now c.args.link.now (c.args.number, c.args.operation.now) c.args.own.now.client c.mon_client.result.now c.in_ok-row.row c.args.sent
    c.mon_client.ensures c.in_ok-row.ensures c.enters_first.result c.enters_first.ensures
