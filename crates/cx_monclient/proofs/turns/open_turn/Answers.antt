use Rattle.std.proofs.Common.{ℕ}
use Rattle.cx_frame.specs.declared.frame.Frame.{Frame}
use Rattle.cx_node.specs.cx_rules.specs.Connector.{MonClientArrival, Open}
use Rattle.cx_node.specs.cx_rules.specs.Requests.{on_open}
use Rattle.cx_monclient.proofs.connector.Behind.{open-same}
use Rattle.cx_node.specs.cx_rules.specs.Abridged.{abridged_mon_client_link}
use Rattle.cx_node.specs.cx_rules.specs.Fronts.{keys_behind}
use Rattle.cx_node.specs.cx_rules.specs.Secured.{Keys, under}
use Rattle.cx_node.proofs.steps.Handling.{secure_turn}
use Rattle.cx_node.specs.steps.Stages.{keys_alone}
use Rattle.cx_monclient.specs.connector.Rows.{arrived, changed}
use Rattle.cx_monclient.specs.connector.Stages.{open_link}
use Rattle.cx_monclient.proofs.turns.open_turn.Goals as goal

pub returns-in-Takes : goal.returns-in-Takes
returns-in-Takes c =
    let t = rw (c.in-Takes.is, c.new-opened.ensures) at c.in_ok-link.ensures in
    secure_turn abridged_mon_client_link changed (arrived c.args.mon_client.now c.args.at.now (open_link c.args.at.now.number c.args.link c.args.requests)) c.args.at.now.number
    c.args.link c.in-Takes.link (Open (keys_alone c.args.link.keys) c.args.requests) (Open (keys_alone c.in-Takes.link.keys) c.args.requests) c.in-Takes.frame c.turn.new.seals
    (λ (a : MonClientArrival) (f : Frame) (keys : Keys). on_open Open a (under (keys_alone c.args.link.keys) keys) c.args.requests f) c.on_open-made.result c.handles.result t
    (λ (n : ℕ). open-same (record {
      a = arrived c.args.mon_client.now c.args.at.now (open_link c.args.at.now.number c.args.link c.args.requests);
      number = c.args.at.now.number;
      came = c.args.link.ahead;
      n = n;
      stage = Open (keys_alone c.args.link.keys) c.args.requests;
      next = Open (keys_alone c.in-Takes.link.keys) c.args.requests;
    }) (keys_behind c.args.link.keys c.in-Takes.frame) c.args.requests c.in-Takes.frame)
    c.on_open-made.ensures c.handles.ensures
