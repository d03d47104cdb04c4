use Rattle.cx_verifying.specs.cx_rules_session.specs.DaemonRule.{AsConnector}
use Rattle.cx_verifying.specs.cx_rules_session.specs.Kinds.{of_kind}
use Rattle.cx_daemon_events.proofs.Asked.{fetches_held, fetches_standing, fetches_step, first_found}
use Rattle.cx_daemon_events.proofs.fetching.fetches_on.Goals as goal

pub goes_ahead-requires-clause-ahead : goal.goes_ahead-requires-clause-ahead
goes_ahead-requires-clause-ahead c =
    rw c.number-number.ensures
    (fetches_standing c.args.own.now c.args.links.now.links c.args.now c.args.draw.now.bytes c.in-Some.link.now c.in_ok-asked.asked c.asks_generations.result
    c.requires.held c.in-Some.ensures.some c.asks_generations.ensures c.in_ok-asked.was)

pub returns-clause-step : goal.returns-clause-step
returns-clause-step c =
    let found = first_found c.args.own.now c.args.links.now.links c.args.now c.args.draw.now.bytes c.in-Some.link.now c.in_ok-asked.asked c.asks_generations.result
    c.requires.held c.in-Some.ensures.some c.asks_generations.ensures c.in_ok-asked.was in
    let carried = rw c.number-number.ensures at c.goes_ahead.ensures.carried in
    fetches_step c.args.own.now c.args.links.now.links c.args.now c.args.draw.now.bytes c.in-Some.link.now c.in_ok-asked.asked c.asks_generations.result
    c.requires.held c.in-Some.ensures.some c.asks_generations.ensures c.in_ok-asked.was c.goes_ahead.new.links c.goes_ahead.result (carried (of_kind AsConnector c.in-Some.link.now) found)

pub returns-clause-held : goal.returns-clause-held
returns-clause-held c =
    let found = first_found c.args.own.now c.args.links.now.links c.args.now c.args.draw.now.bytes c.in-Some.link.now c.in_ok-asked.asked c.asks_generations.result
    c.requires.held c.in-Some.ensures.some c.asks_generations.ensures c.in_ok-asked.was in
    let carried = rw c.number-number.ensures at c.goes_ahead.ensures.carried in
    fetches_held c.args.own.now c.args.links.now c.goes_ahead.new.links c.args.now c.args.draw.now.bytes c.in-Some.link.now c.in_ok-asked.asked
    c.asks_generations.result c.goes_ahead.result c.requires.held c.in-Some.ensures.some c.asks_generations.ensures c.in_ok-asked.was
    (carried (of_kind AsConnector c.in-Some.link.now) found) c.goes_ahead.ensures.err
