use Rattle.std.proofs.Common.{◌≡◌, ◌∙◌, ℕ, Option, Some, refl, sym, ap}
use Rattle.cx_verifying.specs.cx_rules_session.specs.DaemonRule.{AsAcceptor, AsConnector}
use Rattle.cx_verifying.specs.cx_rules_session.specs.Kinds.{of_kind}
use Rattle.cx_daemon_events.specs.Kinds.{DaemonLink, link_held}
use Rattle.cx_daemon_events.proofs.Leaving.{gone_incoming, gone_own}
use Rattle.cx_daemon_events.proofs.Steps.{without_held}
use Rattle.cx_daemon_events.proofs.ending.goes.Goals as goal

pub returns-in-Incoming-clause-step : goal.returns-in-Incoming-clause-step
returns-in-Incoming-clause-step c =
    let some : DaemonLink → Option DaemonLink = λ l. Some l in
    let number_of : DaemonLink → ℕ = λ l. l.number in
    let is : c.in-Some.link ≡ of_kind AsAcceptor c.in-Incoming.link = sym c.link.view_is ∙ ap link_held c.in-Incoming.is in
    gone_incoming c.args.own.now c.args.number c.args.links.now.links c.give_up.new.self.links _ c.args.book.now.book c.incoming_gone.new.book.book c.requires.held
    (rw (c.give_up.ensures, c.in-Some.ensures.taken) refl) c.in-Incoming.link c.incoming_gone.result (sym c.in-Some.ensures.link ∙ ap some is)
    (sym (ap number_of is) ∙ c.in-Some.ensures.number) (rw c.in-Incoming.link-is at c.incoming_gone.ensures.gone)

pub returns-in-Incoming-clause-held : goal.returns-in-Incoming-clause-held
returns-in-Incoming-clause-held c =
    without_held c.args.number c.args.links.now.links c.give_up.new.self.links c.requires.held (rw (c.give_up.ensures, c.in-Some.ensures.taken) refl)

pub returns-in-Own-clause-step : goal.returns-in-Own-clause-step
returns-in-Own-clause-step c =
    let some : DaemonLink → Option DaemonLink = λ l. Some l in
    let number_of : DaemonLink → ℕ = λ l. l.number in
    let is : c.in-Some.link ≡ of_kind AsConnector c.in-Own.link = sym c.link.view_is ∙ ap link_held c.in-Own.is in
    gone_own c.args.own.now c.args.number c.args.links.now.links c.give_up.new.self.links _ c.args.book.now.book c.args.book.now.book c.requires.held
    (rw (c.give_up.ensures, c.in-Some.ensures.taken) refl) c.in-Own.link c.is_open.result c.told_lost.result (sym c.in-Some.ensures.link ∙ ap some is)
    (sym (ap number_of is) ∙ c.in-Some.ensures.number) (rw c.in-Own.link-is at c.is_open.ensures) refl c.told_lost.ensures

pub returns-in-Own-clause-held : goal.returns-in-Own-clause-held
returns-in-Own-clause-held c =
    without_held c.args.number c.args.links.now.links c.give_up.new.self.links c.requires.held (rw (c.give_up.ensures, c.in-Some.ensures.taken) refl)
