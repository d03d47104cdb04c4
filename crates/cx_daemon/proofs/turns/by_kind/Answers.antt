use Rattle.std.proofs.Common.{◌≡◌, ◌∙◌, sym, ap}
use Rattle.cx_desk.specs.Held.{handlers_of}
use Rattle.cx_daemon_events.specs.cx_rules_session.specs.DaemonRule.{AsConnector}
use Rattle.cx_daemon_events.specs.cx_rules_session.specs.Kinds.{of_kind}
use Rattle.cx_daemon_events.specs.Kinds.{link_held}
use Rattle.cx_daemon.proofs.Kept.{left_on_err}
use Rattle.cx_daemon.proofs.Settled.{own_turned_result}
use Rattle.cx_daemon.proofs.turns.by_kind.Goals as goal

pub returns-in-Own-clause-turned : goal.returns-in-Own-clause-turned
returns-in-Own-clause-turned g c = λ all l found h.
    let is : c.args.link ≡ of_kind AsConnector c.in-Own.link = sym c.link.view_is ∙ ap link_held c.in-Own.is in
    own_turned_result (handlers_of c.args.desk.now) c.args.at.now c.args.link c.in-Own.link c.args.own.now c.own_turns.new.own all c.own_turns.new.links.links c.args.book.now.book
    c.own_turns.result is c.requires.number h found (rw c.in-Own.link-is at (c.own_turns.ensures.turned all l))

pub returns-in-Own-clause-lost : goal.returns-in-Own-clause-lost
returns-in-Own-clause-lost g c = λ all l h.
    left_on_err c.own_turns.result c.args.at.now.number c.args.links.now c.own_turns.new.links all c.own_turns.ensures.err l
