use Rattle.std.proofs.Common.{◌∙◌, Bool, ap}
use Rattle.cx_steps.specs.declared.effects.Effects.{Effects}
use Rattle.cx_daemon_events.specs.Ending.{told_dropped}
use Rattle.cx_daemon_events.proofs.Leaving.{drops_held, drops_step}
use Rattle.cx_daemon_events.proofs.ending.drops.Goals as goal

pub returns-clause-step : goal.returns-clause-step
returns-clause-step c =
    let told : Bool → Effects = λ lived. told_dropped c.args.own.now c.args.session c.args.links.now.links lived in
    drops_step c.args.own.now c.args.links.now.links c.shut_all.new.links.links c.args.book.now.book c.apply.new.self.book c.args.session c.in_ok-out.out c.requires.held
    c.shut_all.ensures.links (c.in_ok-out.ensures ∙ ap told c.lives-lived.ensures) c.apply.ensures

pub returns-clause-held : goal.returns-clause-held
returns-clause-held c =
    drops_held c.args.own.now c.args.links.now.links c.shut_all.new.links.links c.args.session c.lives-lived.result c.in_ok-out.out c.requires.held
    c.shut_all.ensures.links c.in_ok-out.ensures
