use Rattle.cx_client_events.specs.cx_rules_session.specs.ClientRule.{ToMonitor}
use Rattle.cx_client_events.specs.cx_rules_session.specs.Kinds.{of_kind}
use Rattle.cx_client_events.proofs.Asked.{first_found, renews_held, renews_standing, renews_step}
use Rattle.cx_client_events.proofs.commands.renews.Goals as goal

pub goes_ahead-requires-clause-ahead : goal.goes_ahead-requires-clause-ahead
goes_ahead-requires-clause-ahead c =
    rw c.number-number.ensures
    (renews_standing c.args.own.now.client c.args.links.now.links c.args.services c.args.now c.args.draw.now.bytes c.in-Some.link.now c.in_ok-asked.asked c.asks_tickets.result
    c.requires.held c.in-Some.ensures.some c.asks_tickets.ensures c.in_ok-asked.was)

pub returns-clause-step : goal.returns-clause-step
returns-clause-step c =
    let found = first_found c.args.own.now.client c.args.links.now.links c.args.services c.args.now c.args.draw.now.bytes c.in-Some.link.now c.in_ok-asked.asked c.asks_tickets.result
    c.requires.held c.in-Some.ensures.some c.asks_tickets.ensures c.in_ok-asked.was in
    let carried = rw c.number-number.ensures at c.goes_ahead.ensures.carried in
    renews_step c.args.own.now.client c.args.links.now.links c.args.services c.args.now c.args.draw.now.bytes c.in-Some.link.now c.in_ok-asked.asked c.asks_tickets.result
    c.requires.held c.in-Some.ensures.some c.asks_tickets.ensures c.in_ok-asked.was c.goes_ahead.new.links c.goes_ahead.result (carried (of_kind ToMonitor c.in-Some.link.now) found)

pub returns-clause-held : goal.returns-clause-held
returns-clause-held c =
    let found = first_found c.args.own.now.client c.args.links.now.links c.args.services c.args.now c.args.draw.now.bytes c.in-Some.link.now c.in_ok-asked.asked c.asks_tickets.result
    c.requires.held c.in-Some.ensures.some c.asks_tickets.ensures c.in_ok-asked.was in
    let carried = rw c.number-number.ensures at c.goes_ahead.ensures.carried in
    renews_held c.args.own.now.client c.args.links.now c.goes_ahead.new.links c.args.services c.args.now c.args.draw.now.bytes c.in-Some.link.now c.in_ok-asked.asked
    c.asks_tickets.result c.goes_ahead.result c.requires.held c.in-Some.ensures.some c.asks_tickets.ensures c.in_ok-asked.was (carried (of_kind ToMonitor c.in-Some.link.now) found)
    c.goes_ahead.ensures.err
