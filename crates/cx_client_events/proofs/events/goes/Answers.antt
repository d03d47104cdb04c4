use Rattle.std.proofs.Common.{◌≡◌, ◌∙◌, ℕ, Option, Some, refl, sym, ap}
use Rattle.cx_client_events.specs.cx_rules_session.specs.ClientRule.{ToDaemon, ToMonitor}
use Rattle.cx_client_events.specs.cx_rules_session.specs.Kinds.{of_kind}
use Rattle.cx_client_events.specs.linking.Kinds.{ClientLink, link_held}
use Rattle.cx_client_events.proofs.Gone.{gone_daemon, gone_monitor}
use Rattle.cx_client_events.proofs.Steps.{without_held}
use Rattle.cx_client_events.proofs.events.goes.Goals as goal

pub returns-in-Monitor-clause-step : goal.returns-in-Monitor-clause-step
returns-in-Monitor-clause-step c =
    let some : ClientLink → Option ClientLink = λ l. Some l in
    let number_of : ClientLink → ℕ = λ l. l.number in
    let is : c.in-Some.link ≡ of_kind ToMonitor c.in-Monitor.link = sym c.link.view_is ∙ ap link_held c.in-Monitor.is in
    gone_monitor c.args.own.now.client c.args.own.now.client c.args.number c.args.links.now.links c.give_up.new.self.links _ c.told_lost.result c.requires.held
    (rw (c.give_up.ensures, c.in-Some.ensures.taken) refl) c.in-Monitor.link c.is_open.result (sym c.in-Some.ensures.link ∙ ap some is)
    (sym (ap number_of is) ∙ c.in-Some.ensures.number) (rw c.in-Monitor.link-is at c.is_open.ensures) refl c.told_lost.ensures

pub returns-in-Monitor-clause-held : goal.returns-in-Monitor-clause-held
returns-in-Monitor-clause-held c =
    without_held c.args.number c.args.links.now.links c.give_up.new.self.links c.requires.held (rw (c.give_up.ensures, c.in-Some.ensures.taken) refl)

pub returns-in-Daemon-clause-step : goal.returns-in-Daemon-clause-step
returns-in-Daemon-clause-step c =
    let some : ClientLink → Option ClientLink = λ l. Some l in
    let number_of : ClientLink → ℕ = λ l. l.number in
    let is : c.in-Some.link ≡ of_kind ToDaemon c.in-Daemon.link.value = sym c.link.view_is ∙ ap link_held c.in-Daemon.is in
    gone_daemon c.args.own.now.client c.call_gone.new.own.client c.args.number c.args.links.now.links c.give_up.new.self.links _ c.call_gone.result c.requires.held
    (rw (c.give_up.ensures, c.in-Some.ensures.taken) refl) c.in-Daemon.link.value (sym c.in-Some.ensures.link ∙ ap some is)
    (sym (ap number_of is) ∙ c.in-Some.ensures.number) (rw (c.as_ref.ensures, c.in-Daemon.link-is) at c.call_gone.ensures.out) (rw (c.as_ref.ensures, c.in-Daemon.link-is) at c.call_gone.ensures.own)

pub returns-in-Daemon-clause-held : goal.returns-in-Daemon-clause-held
returns-in-Daemon-clause-held c =
    without_held c.args.number c.args.links.now.links c.give_up.new.self.links c.requires.held (rw (c.give_up.ensures, c.in-Some.ensures.taken) refl)
