use Rattle.std.proofs.Common.{ℕ}
use Rattle.cx_frame.specs.declared.frame.Frame.{Frame}
use Rattle.cx_node.specs.cx_rules.specs.Connector.{MonClientArrival, AwaitsIdent, while_identified}
use Rattle.cx_monclient.proofs.connector.Behind.{ident-same}
use Rattle.cx_node.specs.cx_rules.specs.Abridged.{abridged_mon_client_link}
use Rattle.cx_node.specs.cx_rules.specs.Fronts.{keys_behind}
use Rattle.cx_node.specs.cx_rules.specs.Secured.{Keys, under}
use Rattle.cx_node.proofs.steps.Handling.{secure_turn}
use Rattle.cx_node.specs.steps.Stages.{keys_alone}
use Rattle.cx_monclient.specs.connector.Rows.{arrived, changed}
use Rattle.cx_monclient.specs.connector.Stages.{awaiting_ident}
use Rattle.cx_monclient.proofs.turns.ident_turn.Goals as goal

pub returns-in-Takes : goal.returns-in-Takes
returns-in-Takes c =
    let t = rw (c.in-Takes.is, c.new-opened.ensures) at c.in_ok-link.ensures in
    secure_turn abridged_mon_client_link changed (arrived c.args.mon_client.now c.args.at.now (awaiting_ident c.args.at.now.number c.args.link c.args.session)) c.args.at.now.number
    c.args.link c.in-Takes.link (AwaitsIdent (keys_alone c.args.link.keys) c.args.session) (AwaitsIdent (keys_alone c.in-Takes.link.keys) c.args.session) c.in-Takes.frame c.turn.new.seals
    (λ (a : MonClientArrival) (f : Frame) (keys : Keys). while_identified a (under (keys_alone c.args.link.keys) keys) c.args.session f) c.while_identified-made.result c.handles.result t
    (λ (n : ℕ). ident-same (record {
      a = arrived c.args.mon_client.now c.args.at.now (awaiting_ident c.args.at.now.number c.args.link c.args.session);
      number = c.args.at.now.number;
      came = c.args.link.ahead;
      n = n;
      stage = AwaitsIdent (keys_alone c.args.link.keys) c.args.session;
      next = AwaitsIdent (keys_alone c.in-Takes.link.keys) c.args.session;
    }) (keys_alone (keys_behind c.args.link.keys c.in-Takes.frame)) c.args.session c.in-Takes.frame)
    c.while_identified-made.ensures c.handles.ensures
