-- AUTH_DONE is sent behind the entry that the secret was drawn, for the entity of the ticket.
use Rattle.std.proofs.Common.{◌≡◌, ◌∙◌, List, [], ◌∷◌, ap}
use Rattle.cx_authorize.specs.Daemon.{Authority, Awaited}
use Rattle.cx_authorize.specs.Passing.{IsAdmitted}
use Rattle.cx_authorize.specs.declared.judging.Shown.{Shown}
use Rattle.cx_rules_session.specs.cx_dice.specs.Draws.{connection_of}
use Rattle.cx_node.specs.cx_rules.specs.Abridged.{abridged_link}
use Rattle.cx_node.specs.cx_rules.specs.Acceptor.{finished}
use Rattle.cx_rules_session.specs.Envelopes.{authorize_reply_content, session_sealed}
use Rattle.cx_rules_session.specs.IncomingLinks.{IncomingArrival, authority_of, authorized_frame, authorizes}
use Rattle.cx_steps.specs.declared.seals.DrawMark.TheVariants as draw
use Rattle.cx_steps.specs.declared.seals.SealEntry.{SealEntry}
use Rattle.cx_steps.specs.declared.seals.SealEntry.TheVariants.{Drawn}
use Rattle.cx_node.proofs.steps.MadeRows.{behind_as}
use Rattle.cx_verifying.specs.Rows.{arrived, unchanged}
use Rattle.cx_verifying.specs.Stages.{awaiting_proof}
use Rattle.cx_verifying.proofs.Passing.{done_behind, reply_row}
use Rattle.cx_verifying.proofs.second.authorize.Goals as goal

pub returns : goal.returns
returns c =
    λ (awaited : Awaited) (shown : Shown) (passes : IsAdmitted c.args.mon_client.now.view c.args.at.now.reading (connection_of c.args.at.now.draw.now.bytes) shown c.args.passed).
    let a : IncomingArrival = arrived c.args.mon_client.now c.args.at.now (awaiting_proof c.args.at.now.number c.args.link awaited) in
    let entry : Authority → List SealEntry = λ authority. Drawn (draw.Connection (connection_of a.draw) authority.ticket.name) ∷ [] in
    let drawn : List SealEntry = Drawn (draw.Connection (connection_of a.draw) shown.ticket.name) ∷ [] in
    let logged : c.in_ok-drawn.drawn ≡ drawn = c.in_ok-drawn.ensures ∙ ap entry passes.authorized in
    let r = rw (c.in_ok-me.ensures, logged) at c.in_ok-row.ensures in
    behind_as abridged_link unchanged a drawn (reply_row a shown) (authorizes a [] shown.ticket shown.authorize.nonce) c.finishes-made.result c.in_ok-row.row
    (done_behind a drawn [] (session_sealed shown.ticket.session (authorize_reply_content shown.authorize.nonce (connection_of a.draw)) ∷ []) (authority_of a shown.ticket)
    (finished a.link shown.ticket.session (connection_of a.draw) (authorized_frame shown.ticket shown.authorize.nonce (connection_of a.draw))))
    (c.finishes-made.ensures awaited shown passes) r
