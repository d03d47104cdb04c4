use Rattle.cx_client_events.proofs.linking.Scanning.{found, passed_over}
use Rattle.cx_client_events.proofs.scans.first_open.Goals as goal

pub returns-in-Some-open_monitor-clause-some : goal.returns-in-Some-open_monitor-clause-some
returns-in-Some-open_monitor-clause-some c =
    found c.args.links.now.links c.loop-place.place c.in-Some.link.now c.in-Some-open_monitor.link.now c.in-Some.ensures c.in-Some-open_monitor.ensures.some.0
    c.in-Some-open_monitor.ensures.some.1 c.loop-place.invariant

pub loop-place-preserved : goal.loop-place-preserved
loop-place-preserved c =
    passed_over c.args.links.now.links c.loop-place.place c.in-Some.link.now c.in-Some.ensures c.in_default-open_monitor.ensures.none c.loop-place.invariant
