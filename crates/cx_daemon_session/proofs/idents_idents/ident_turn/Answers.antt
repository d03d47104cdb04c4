-- A frame is decided from the link that holds what is left of the bytes.
use Rattle.std.proofs.Common.{ℕ, refl}
use Rattle.cx_daemon_session.specs.cx_desk.specs.Handlers.{Handlers}
use Rattle.cx_frame.specs.declared.frame.Frame.{Frame}
use Rattle.cx_node.specs.cx_rules.specs.Acceptor.{AwaitsIdent}
use Rattle.cx_node.specs.cx_rules.specs.Fronts.{keys_behind}
use Rattle.cx_node.specs.cx_rules.specs.Secured.{Keys, under}
use Rattle.cx_daemon_session.specs.cx_rules_session.specs.IncomingLinks.{IncomingArrival, IncomingStage}
use Rattle.cx_daemon_session.specs.cx_rules_session.specs.Hosting.{on_ident}
use Rattle.cx_node.specs.steps.Stages.{keys_alone}
use Rattle.cx_daemon_session.specs.cx_verifying.specs.Stages.{awaiting_ident}
use Rattle.cx_daemon_session.proofs.coming.Deciding.{secure_decided}
use Rattle.cx_daemon_session.proofs.coming.Made.{ok_each}
use Rattle.cx_daemon_session.specs.idents.Pending.{IsBegun, IsDecided, begun_as, ident_arrival}
use Rattle.cx_daemon_session.specs.declared.idents_pending.IdentTurn.{IdentTurn}
use Rattle.cx_daemon_session.proofs.idents.Behind.{ident-same}
use Rattle.cx_daemon_session.proofs.idents_idents.ident_turn.Goals as goal

pub returns-in-Takes-clause-begun : goal.returns-in-Takes-clause-begun
returns-in-Takes-clause-begun c = λ (handlers : Handlers).
    let t = rw (c.in-Takes.is, c.new-opened.ensures) at c.in_ok-link.ensures in
    let a : IncomingArrival = ident_arrival c.args.mon_client.now c.args.at.now c.args.link c.args.owner in
    let stage : IncomingStage = AwaitsIdent (keys_alone c.args.link.keys) c.args.owner in
    let next : IncomingStage = AwaitsIdent (keys_alone c.in-Takes.link.keys) c.args.owner in
    ok_each (IsDecided c.args.mon_client.now c.args.at.now c.turn.new.seals
    (on_ident (ident_arrival c.args.mon_client.now c.args.at.now c.in-Takes.link c.args.owner) (keys_alone c.in-Takes.link.keys) c.args.owner c.in-Takes.frame))
    (IsBegun handlers c.args.mon_client.now c.args.at.now (awaiting_ident c.args.at.now.number c.args.link c.args.owner)) c.on_ident.result
    (λ (turn : IdentTurn) is. secure_decided a c.args.at.now.number c.args.link c.in-Takes.link stage next c.in-Takes.frame c.turn.new.seals
    (λ (b : IncomingArrival) (f : Frame) (keys : Keys). on_ident b (under (keys_alone c.args.link.keys) keys) c.args.owner f)
    (begun_as c.args.mon_client.now c.args.at.now turn) t
    (λ (n : ℕ). ident-same (record { a = a; number = c.args.at.now.number; came = c.args.link.ahead; n = n; stage = stage; next = next })
    (keys_alone (keys_behind c.args.link.keys c.in-Takes.frame)) c.args.owner c.in-Takes.frame) is)
    c.on_ident.ensures.begun

pub returns-in-Takes-clause-stays : goal.returns-in-Takes-clause-stays
returns-in-Takes-clause-stays c = c.on_ident.ensures.stays (awaiting_ident c.args.at.now.number c.args.link c.args.owner) refl
