-- The challenge is sent behind the entry that it was drawn.
use Rattle.std.proofs.Common.{◌≡◌, [], ◌∷◌, rules}
use Rattle.cx_authorize.specs.Passing.{IsChallenged}
use Rattle.cx_authorize.specs.declared.judging.Shown.{Shown}
use Rattle.cx_rules_session.specs.cx_dice.specs.Draws.{challenge_of}
use Rattle.cx_link.specs.Wires.{wired}
use Rattle.cx_node.specs.cx_rules.specs.Abridged.{abridged_link}
use Rattle.cx_node.specs.cx_rules.specs.Acceptor.{AwaitsProof, AwaitsRequest}
use Rattle.cx_node.specs.cx_rules.specs.Secured.{plain_frame}
use Rattle.cx_rules_session.specs.Envelopes.{authorize_challenge_content, session_sealed}
use Rattle.cx_rules_session.specs.IncomingLinks.{IncomingArrival, challenges, sealed_challenge_frame}
use Rattle.cx_steps.specs.declared.seals.DrawMark.TheVariants as draw
use Rattle.cx_steps.specs.declared.seals.SealEntry.{SealEntry}
use Rattle.cx_steps.specs.declared.seals.SealEntry.TheVariants.{Drawn}
use Rattle.cx_node.proofs.steps.MadeRows.{behind_as}
use Rattle.cx_verifying.specs.Rows.{arrived, unchanged}
use Rattle.cx_verifying.proofs.Passing.{challenge_row, holding_behind}
use Rattle.cx_verifying.proofs.first.challenge.Goals as goal

pub returns : goal.returns
returns c =
    λ (shown : Shown) (passes : IsChallenged c.args.mon_client.now.name.kind (challenge_of c.args.at.now.draw.now.bytes) shown c.args.passed).
    let a : IncomingArrival = arrived c.args.mon_client.now c.args.at.now (wired c.args.at.now.number c.args.link AwaitsRequest) in
    let drawn : SealEntry = Drawn (draw.Challenge (challenge_of a.draw)) in
    let logged : c.push.new.self ≡ drawn ∷ [] = search rules in
    let r = rw (c.in_ok-me.ensures, logged) at c.in_ok-row.ensures in
    behind_as abridged_link unchanged a (drawn ∷ []) (challenge_row a shown.ticket.session) (challenges a [] shown.ticket) c.awaits_proof-made.result c.in_ok-row.row
    (holding_behind a (AwaitsProof (record { service = a.own.name.kind; challenge = challenge_of a.draw })) (drawn ∷ []) []
    (session_sealed shown.ticket.session (authorize_challenge_content (challenge_of a.draw)) ∷ [])
    (plain_frame (sealed_challenge_frame shown.ticket.session (challenge_of a.draw))))
    (c.awaits_proof-made.ensures shown passes) r
