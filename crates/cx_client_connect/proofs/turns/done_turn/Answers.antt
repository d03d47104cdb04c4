use Rattle.std.proofs.Common.{Option}
use Rattle.cx_frame.specs.declared.frame.Frame.{Frame}
use Rattle.cx_client_connect.specs.cx_rules_session.specs.Forgets.{abridged_call_link}
use Rattle.cx_client_connect.specs.cx_rules_session.specs.Presenter.{AwaitsDone, CallArrival, while_answered}
use Rattle.cx_client_connect.specs.cx_rules_session.specs.Sessions.{HeldSession}
use Rattle.cx_node.proofs.steps.Handling.{plain_turn}
use Rattle.cx_client_connect.specs.presenting.Rows.{arrived, caller, changed}
use Rattle.cx_client_connect.specs.presenting.Stages.{awaiting_done}
use Rattle.cx_client_connect.proofs.turns.done_turn.Goals as goal

pub returns-in-Takes : goal.returns-in-Takes
returns-in-Takes c =
    let t = rw c.in-Takes.is at c.in_ok-link.ensures in
    let h = rw c.new-in-Takes.ensures at c.handles.ensures in
    λ (session : Option HeldSession).
    plain_turn abridged_call_link changed (arrived (caller c.args.mon_client.now session) c.args.at.now (awaiting_done c.args.at.now.number c.args.link c.args.callee c.args.answering))
    c.args.at.now.number c.args.link c.in-Takes.link (AwaitsDone c.args.callee c.args.answering) c.in-Takes.frame
    (λ (a : CallArrival) (f : Frame). while_answered a c.args.callee c.args.answering f) c.while_answered-made.result c.handles.result t
    (c.while_answered-made.ensures session) h
