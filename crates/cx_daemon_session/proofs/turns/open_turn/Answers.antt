-- A frame is decided from the link that holds what is left of the bytes.
use Rattle.std.proofs.Common.{ℕ, refl}
use Rattle.cx_desk.specs.Handlers.{Handlers}
use Rattle.cx_frame.specs.declared.frame.Frame.{Frame}
use Rattle.cx_node.specs.cx_rules.specs.Acceptor.{Open}
use Rattle.cx_node.specs.cx_rules.specs.Fronts.{keys_behind}
use Rattle.cx_node.specs.cx_rules.specs.Secured.{Keys, under}
use Rattle.cx_daemon_session.specs.cx_rules_session.specs.IncomingLinks.{IncomingArrival, IncomingStage}
use Rattle.cx_daemon_session.specs.cx_rules_session.specs.Hosting.{on_open}
use Rattle.cx_node.specs.steps.Stages.{keys_alone}
use Rattle.cx_daemon_session.specs.cx_verifying.specs.Rows.{arrived}
use Rattle.cx_daemon_session.specs.cx_verifying.specs.Stages.{open_link}
use Rattle.cx_daemon_session.proofs.coming.Deciding.{secure_decided}
use Rattle.cx_daemon_session.proofs.coming.Made.{ok_each}
use Rattle.cx_daemon_session.specs.messages.Pending.{IsBegun, IsDecided, begun_as, open_arrival}
use Rattle.cx_daemon_session.specs.declared.messages_pending.OpenTurn.{OpenTurn}
use Rattle.cx_daemon_session.proofs.messages.Behind.{open-same}
use Rattle.cx_daemon_session.proofs.turns.open_turn.Goals as goal

pub returns-in-Takes-clause-begun : goal.returns-in-Takes-clause-begun
returns-in-Takes-clause-begun c = λ (handlers : Handlers).
    let t = rw (c.in-Takes.is, c.new-opened.ensures) at c.in_ok-link.ensures in
    let a : IncomingArrival = open_arrival c.args.mon_client.now c.args.at.now c.args.link c.args.served in
    let stage : IncomingStage = Open (keys_alone c.args.link.keys) c.args.served in
    let next : IncomingStage = Open (keys_alone c.in-Takes.link.keys) c.args.served in
    ok_each (IsDecided handlers c.args.mon_client.now c.args.at.now c.turn.new.seals
    (on_open handlers (open_arrival c.args.mon_client.now c.args.at.now c.in-Takes.link c.args.served) (keys_alone c.in-Takes.link.keys) c.args.served c.in-Takes.frame))
    (IsBegun handlers c.args.mon_client.now c.args.at.now (open_link c.args.at.now.number c.args.link c.args.served)) c.on_open.result
    (λ (turn : OpenTurn) is. secure_decided a c.args.at.now.number c.args.link c.in-Takes.link stage next c.in-Takes.frame c.turn.new.seals
    (λ (b : IncomingArrival) (f : Frame) (keys : Keys). on_open handlers b (under (keys_alone c.args.link.keys) keys) c.args.served f)
    (begun_as handlers c.args.mon_client.now c.args.at.now turn) t
    (λ (n : ℕ). open-same handlers (record { a = a; number = c.args.at.now.number; came = c.args.link.ahead; n = n; stage = stage; next = next })
    (keys_alone (keys_behind c.args.link.keys c.in-Takes.frame)) c.args.served c.in-Takes.frame) is)
    (c.on_open.ensures.begun handlers)

pub returns-in-Takes-clause-stays : goal.returns-in-Takes-clause-stays
returns-in-Takes-clause-stays c = c.on_open.ensures.stays (open_link c.args.at.now.number c.args.link c.args.served) refl
