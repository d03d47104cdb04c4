-- The ticket is shown behind the entry that the nonce was drawn.
use Rattle.std.proofs.Common.{◌≡◌, Option, None, List, [], ◌∷◌, rules}
use Rattle.cx_node.specs.cx_dice.specs.Draws.{challenge_of}
use Rattle.cx_link.specs.Wires.{wired}
use Rattle.cx_node.specs.cx_rules.specs.Secured.{plain_frame}
use Rattle.cx_client_connect.specs.cx_rules_session.specs.Envelopes.{authorize_content, sends_holding, session_sealed}
use Rattle.cx_client_connect.specs.cx_rules_session.specs.Forgets.{abridged_call_link}
use Rattle.cx_client_connect.specs.cx_rules_session.specs.Presenter.{AwaitsChallenge, CallArrival, CallStage, authorizer_bytes, first_frame, presents}
use Rattle.cx_client_connect.specs.cx_rules_session.specs.Sessions.{HeldSession}
use Rattle.cx_steps.specs.declared.seals.DrawMark.TheVariants as draw
use Rattle.cx_steps.specs.declared.seals.SealEntry.{SealEntry}
use Rattle.cx_steps.specs.declared.seals.SealEntry.TheVariants.{Drawn}
use Rattle.cx_node.proofs.steps.MadeRows.{behind_as}
use Rattle.cx_client_connect.specs.presenting.Rows.{arrived, caller, changed}
use Rattle.cx_client_connect.proofs.presenting.Behind.{holding_behind}
use Rattle.cx_client_connect.proofs.greetings.present.Goals as goal

pub returns : goal.returns
returns c =
    λ (stage : CallStage) (drew : c.args.presenting.nonce ≡ challenge_of c.args.at.now.draw.now.bytes) (shows : c.args.bytes ≡ authorizer_bytes c.args.presenting None)
    (session : Option HeldSession).
    let a : CallArrival = arrived (caller c.args.mon_client.now session) c.args.at.now (wired c.args.at.now.number c.args.link stage) in
    let drawn : SealEntry = Drawn (draw.Nonce (challenge_of a.draw)) in
    let logged : c.push.new.self ≡ drawn ∷ [] = search rules in
    let r = rw (logged, ← drew) at c.in_ok-row.ensures in
    let held : List SealEntry = session_sealed c.args.presenting.held.session (authorize_content c.args.presenting.nonce None) ∷ [] in
    behind_as abridged_call_link changed a (Drawn (draw.Nonce c.args.presenting.nonce) ∷ [])
    (sends_holding a (AwaitsChallenge c.args.callee c.args.presenting) [] held (first_frame a.own.mon_client c.args.presenting))
    (presents a c.args.callee c.args.presenting) c.awaits_challenge-made.result c.in_ok-row.row
    (holding_behind a (AwaitsChallenge c.args.callee c.args.presenting) (Drawn (draw.Nonce c.args.presenting.nonce) ∷ []) held (plain_frame (first_frame a.own.mon_client c.args.presenting)))
    (c.awaits_challenge-made.ensures stage shows session) r
