-- The proof is sent behind the entry of one's own challenge.
use Rattle.std.proofs.Common.{◌≡◌, [], ◌∷◌, rules}
use Rattle.cx_control.specs.Auth.{auth_request_more_layout}
use Rattle.cx_node.specs.cx_dice.specs.Draws.{challenge_of}
use Rattle.cx_link.specs.Wires.{wired}
use Rattle.cx_node.specs.cx_rules.specs.Abridged.{abridged_mon_client_link}
use Rattle.cx_node.specs.cx_rules.specs.Connector.{MonClientArrival, proves}
use Rattle.cx_node.specs.cx_rules.specs.Payloads.{control}
use Rattle.cx_node.specs.cx_rules.specs.Secured.{plain_frame}
use Rattle.cx_steps.specs.declared.seals.DrawMark.TheVariants as draw
use Rattle.cx_steps.specs.declared.seals.SealEntry.{SealEntry}
use Rattle.cx_steps.specs.declared.seals.SealEntry.TheVariants.{Drawn}
use Rattle.cx_node.proofs.steps.MadeRows.{behind_as}
use Rattle.cx_monclient.specs.connector.Rows.{arrived, changed, proof_sent}
use Rattle.cx_monclient.proofs.connector.Logged.{proved_behind}
use Rattle.cx_monclient.proofs.challenges.proves.Goals as goal

pub returns : goal.returns
returns c = λ stage.
    let a : MonClientArrival = arrived c.args.mon_client.now c.args.at.now (wired c.args.at.now.number c.args.link stage) in
    let drawn : SealEntry = Drawn (draw.Challenge (challenge_of a.draw)) in
    let made = plain_frame (control 5 auth_request_more_layout.form (record { payload = c.args.answer.bytes })) in
    let logged : c.push.new.self ≡ drawn ∷ [] = search rules in
    let r = rw logged at c.in_ok-row.ensures in
    behind_as abridged_mon_client_link changed a (drawn ∷ []) (proof_sent a c.args.answer.server.challenge made) (proves a c.args.answer.server.challenge made)
    c.awaits_done-made.result c.in_ok-row.row (proved_behind a c.args.answer.server.challenge made) (c.awaits_done-made.ensures stage) r
