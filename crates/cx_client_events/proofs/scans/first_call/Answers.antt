use Rattle.cx_client_events.proofs.linking.Calling.{call_found, call_passed_over}
use Rattle.cx_client_events.proofs.scans.first_call.Goals as goal

pub returns-in-Some-open_call-clause-some : goal.returns-in-Some-open_call-clause-some
returns-in-Some-open_call-clause-some c =
    call_found c.args.daemon.now c.args.links.now.links c.loop-place.place c.in-Some.link.now c.in-Some-open_call.link.now c.in-Some.ensures c.in-Some-open_call.ensures.some.0
    c.in-Some-open_call.ensures.some.1 c.in-Some-open_call.ensures.some.2 c.loop-place.invariant

pub loop-place-preserved : goal.loop-place-preserved
loop-place-preserved c =
    call_passed_over c.args.daemon.now c.args.links.now.links c.loop-place.place c.in-Some.link.now c.in-Some.ensures c.in_default-open_call.ensures.none c.loop-place.invariant
