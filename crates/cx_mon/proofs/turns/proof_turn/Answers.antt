use Rattle.cx_frame.specs.declared.frame.Frame.{Frame}
use Rattle.cx_control.specs.Auth.{auth_request_more_layout}
use Rattle.cx_rules.specs.Acceptor.{AwaitsProof}
use Rattle.cx_rules.specs.MonitorRule.{on_auth_request_more}
use Rattle.cx_mon.specs.acceptor.Stages.{awaiting_proof}
use Rattle.cx_rules.specs.Abridged.{abridged_link}
use Rattle.cx_rules.specs.Monitor.{MonitorArrival}
use Rattle.cx_rules.specs.Payloads.{due}
use Rattle.cx_node.proofs.steps.Handling.{plain_turn}
use Rattle.cx_mon.specs.acceptor.Rows.{arrived, with_keys}
use Rattle.cx_mon.proofs.turns.proof_turn.Goals as goal

pub returns-in_ok-more-in-Takes-clause-come : goal.returns-in_ok-more-in-Takes-clause-come
returns-in_ok-more-in-Takes-clause-come c =
    let t = rw c.in-Takes.is at c.in_ok-link.ensures in
    let m = rw c.in_ok-more-in-Takes.ensures at c.on_auth_request_more-made.ensures.row in
    plain_turn abridged_link with_keys (arrived c.args.own.now c.args.at.now (awaiting_proof c.args.at.now.number c.args.link c.args.offered c.args.gid)) c.args.at.now.number c.args.link c.in-Takes.link (AwaitsProof (record { offer = c.args.offered; gid = c.args.gid }))
    c.in-Takes.frame (λ (a : MonitorArrival) (f : Frame). on_auth_request_more a (record { offer = c.args.offered; gid = c.args.gid }) (due 5 auth_request_more_layout.form f)) c.on_auth_request_more-made.result c.handles.result t m (rw c.new-in-Takes.ensures at c.handles.ensures)
