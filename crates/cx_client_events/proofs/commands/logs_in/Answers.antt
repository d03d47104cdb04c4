use Rattle.std.proofs.Common.{◌∙◌, ℕ, List, [], ◌∷◌, ◌++◌, ap}
use Rattle.cx_steps.specs.Nothing.{nothing}
use Rattle.cx_steps.specs.declared.effects.Effects.{Effects}
use Rattle.cx_steps.specs.declared.events.Peer.{Peer}
use Rattle.cx_steps.specs.declared.events.Peer.TheVariants.{Monitor}
use Rattle.cx_client_events.proofs.Asked.{login_held, login_step}
use Rattle.cx_client_events.proofs.commands.logs_in.Goals as goal

pub returns-clause-step : goal.returns-clause-step
returns-clause-step c =
    let opening : List Peer → Effects → Effects = λ ps out. record out { opens = ps; shuts = c.in_ok-shuts.shuts } in
    let more : List Peer → List Peer = λ ps. ps ++ Monitor ∷ [] in
    login_step c.args.links.now.links c.shut_all.new.links.links c.in_ok-shuts.shuts c.requires.held c.in_ok-shuts.ensures c.shut_all.ensures.links c.args.own.now.client
    c.wait_for_login.new.self.client c.args.services (opening c.push.new.self c.new-out.result) c.in_ok-wait_for_login.ensures.ok
    (ap (λ ps. opening ps c.new-out.result) (c.in_ok-push.ensures.ok ∙ ap more c.new-opens.ensures) ∙ ap (opening (Monitor ∷ [])) c.new-out.ensures)

pub returns-clause-held : goal.returns-clause-held
returns-clause-held c =
    login_held c.args.links.now.links c.shut_all.new.links.links c.in_ok-shuts.shuts c.requires.held c.in_ok-shuts.ensures c.shut_all.ensures.links
