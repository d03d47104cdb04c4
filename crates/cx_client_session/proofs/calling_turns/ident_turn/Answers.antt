use Rattle.std.proofs.Common.{ℕ, Option}
use Rattle.cx_frame.specs.declared.frame.Frame.{Frame}
use Rattle.cx_node.specs.cx_rules.specs.Fronts.{keys_behind}
use Rattle.cx_node.specs.cx_rules.specs.Secured.{Keys, under}
use Rattle.cx_client_connect.specs.cx_rules_session.specs.Forgets.{abridged_call_link}
use Rattle.cx_client_connect.specs.cx_rules_session.specs.Presenter.{AwaitsIdent, CallArrival, while_identified}
use Rattle.cx_client_connect.specs.cx_rules_session.specs.Sessions.{HeldSession}
use Rattle.cx_node.proofs.steps.Handling.{secure_turn}
use Rattle.cx_node.specs.steps.Stages.{keys_alone}
use Rattle.cx_client_connect.specs.presenting.Rows.{arrived, caller, changed}
use Rattle.cx_client_connect.specs.presenting.Stages.{awaiting_ident}
use Rattle.cx_client_session.proofs.calling.Behind.{ident-same}
use Rattle.cx_client_session.proofs.calling_turns.ident_turn.Goals as goal

pub returns-in-Takes : goal.returns-in-Takes
returns-in-Takes c =
    λ (session : Option HeldSession).
    let t = rw (c.in-Takes.is, c.new-opened.ensures) at c.in_ok-link.ensures in
    let a : CallArrival = arrived (caller c.args.mon_client.now session) c.args.at.now (awaiting_ident c.args.at.now.number c.args.link c.args.callee c.args.cookie) in
    secure_turn abridged_call_link changed a c.args.at.now.number
    c.args.link c.in-Takes.link (AwaitsIdent (keys_alone c.args.link.keys) c.args.callee c.args.cookie) (AwaitsIdent (keys_alone c.in-Takes.link.keys) c.args.callee c.args.cookie)
    c.in-Takes.frame c.turn.new.seals
    (λ (b : CallArrival) (f : Frame) (keys : Keys). while_identified b (under (keys_alone c.args.link.keys) keys) c.args.callee c.args.cookie f) c.while_identified-made.result c.handles.result t
    (λ (n : ℕ). ident-same (record {
      a = a;
      number = c.args.at.now.number;
      came = c.args.link.ahead;
      n = n;
      stage = AwaitsIdent (keys_alone c.args.link.keys) c.args.callee c.args.cookie;
      next = AwaitsIdent (keys_alone c.in-Takes.link.keys) c.args.callee c.args.cookie;
    }) (keys_alone (keys_behind c.args.link.keys c.in-Takes.frame)) c.args.callee c.args.cookie c.in-Takes.frame)
    (c.while_identified-made.ensures session) c.handles.ensures
