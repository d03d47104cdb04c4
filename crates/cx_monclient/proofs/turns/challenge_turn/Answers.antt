use Rattle.cx_frame.specs.declared.frame.Frame.{Frame}
use Rattle.cx_node.specs.cx_rules.specs.Connector.{MonClientArrival, AwaitsChallenge, while_challenged}
use Rattle.cx_link.specs.Wires.{wired}
use Rattle.cx_node.specs.cx_rules.specs.Abridged.{abridged_mon_client_link}
use Rattle.cx_node.proofs.steps.Handling.{plain_turn}
use Rattle.cx_monclient.specs.connector.Rows.{arrived, changed}
use Rattle.cx_monclient.proofs.turns.challenge_turn.Goals as goal

pub returns-in-Takes : goal.returns-in-Takes
returns-in-Takes c =
    let t = rw c.in-Takes.is at c.in_ok-link.ensures in
    plain_turn abridged_mon_client_link changed (arrived c.args.mon_client.now c.args.at.now (wired c.args.at.now.number c.args.link (AwaitsChallenge c.args.asked))) c.args.at.now.number
    c.args.link c.in-Takes.link (AwaitsChallenge c.args.asked) c.in-Takes.frame (λ (a : MonClientArrival) (f : Frame). while_challenged a c.args.asked f) c.while_challenged-made.result c.handles.result t c.while_challenged-made.ensures
    (rw c.new-in-Takes.ensures at c.handles.ensures)
