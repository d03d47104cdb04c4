-- The challenge is sent behind the entry that it was drawn.
use Rattle.std.proofs.Common.{◌≡◌, [], ◌∷◌, rules}
use Rattle.cx_dice.specs.Draws.{challenge_of}
use Rattle.cx_link.specs.Wires.{wired}
use Rattle.cx_rules.specs.Abridged.{abridged_link}
use Rattle.cx_rules.specs.Acceptor.{AwaitsRequest}
use Rattle.cx_rules.specs.Monitor.{MonitorArrival, MonitorStage}
use Rattle.cx_rules.specs.Rows.{sends_plain}
use Rattle.cx_rules.specs.Secured.{plain_frame}
use Rattle.cx_steps.specs.declared.seals.DrawMark.TheVariants as draw
use Rattle.cx_steps.specs.declared.seals.SealEntry.{SealEntry}
use Rattle.cx_steps.specs.declared.seals.SealEntry.TheVariants.{Drawn}
use Rattle.cx_node.proofs.steps.MadeRows.{behind_as}
use Rattle.cx_mon.specs.acceptor.Rows.{arrived, challenge_frame, offered_to, with_keys}
use Rattle.cx_mon.proofs.acceptor.Offering.{offered_behind}
use Rattle.cx_mon.proofs.logins.offers.Goals as goal

pub returns : goal.returns
returns c =
    let a : MonitorArrival = arrived c.args.own.now c.args.at.now (wired c.args.at.now.number c.args.link AwaitsRequest) in
    let drawn : SealEntry = Drawn (draw.Challenge (challenge_of a.draw)) in
    let stage : MonitorStage = offered_to a.draw c.args.hello c.args.key in
    let logged : c.push.new.self ≡ drawn ∷ [] = search rules in
    let r = rw logged at c.in_ok-row.ensures in
    behind_as abridged_link with_keys a (drawn ∷ []) (sends_plain a stage [] (challenge_frame (challenge_of a.draw)))
    (sends_plain a stage (drawn ∷ []) (challenge_frame (challenge_of a.draw))) c.awaits_proof-made.result c.in_ok-row.row
    (offered_behind a stage drawn (plain_frame (challenge_frame (challenge_of a.draw)))) c.awaits_proof-made.ensures r
