use Rattle.cx_client_session.specs.cx_rules_session.specs.ClientRule.{ToDaemon}
use Rattle.cx_client_session.specs.cx_rules_session.specs.Kinds.{of_kind}
use Rattle.cx_client.proofs.calls.Sent.{call_found, links_same, out_held, out_step, standing}
use Rattle.cx_client.proofs.sending.pushes.Goals as goal

pub goes_out-requires-clause-ahead : goal.goes_out-requires-clause-ahead
goes_out-requires-clause-ahead c =
    rw c.number.ensures
    (standing c.args.daemon.now c.args.links.now.links c.in-Some.link.now c.requires.held c.in-Some.ensures.some c.in_ok-row.row.link c.in_ok-row.ensures.1)

pub returns-clause-step : goal.returns-clause-step
returns-clause-step c =
    let found = call_found c.args.daemon.now c.args.links.now.links c.in-Some.link.now c.requires.held c.in-Some.ensures.some in
    let carried = rw c.number.ensures at c.goes_out.ensures.carried in
    out_step c.args.own.now.client c.goes_out.new.own.client c.args.links.now.links c.args.daemon.now c.args.operation c.args.number c.args.sent c.args.now c.args.draw.now.bytes
    c.requires.held c.goes_out.new.links.links c.in-Some.link.now c.in_ok-row.row c.in-Some.ensures.some c.in_ok-row.ensures c.goes_out.result
    (carried (of_kind ToDaemon c.in-Some.link.now) found) c.goes_out.ensures.own

pub returns-clause-held : goal.returns-clause-held
returns-clause-held c =
    let found = call_found c.args.daemon.now c.args.links.now.links c.in-Some.link.now c.requires.held c.in-Some.ensures.some in
    let carried = rw c.number.ensures at c.goes_out.ensures.carried in
    out_held c.args.own.now.client c.goes_out.new.own.client c.args.links.now.links c.args.daemon.now c.args.operation c.args.number c.args.sent c.args.now c.args.draw.now.bytes
    c.requires.held c.goes_out.new.links.links c.in-Some.link.now c.in_ok-row.row c.in-Some.ensures.some c.in_ok-row.ensures c.goes_out.result
    (carried (of_kind ToDaemon c.in-Some.link.now) found) c.goes_out.ensures.own
    (links_same c.args.links.now c.goes_out.new.links c.goes_out.result c.goes_out.ensures.links)
