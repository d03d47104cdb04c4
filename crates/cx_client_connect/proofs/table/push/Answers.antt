use Rattle.cx_client_connect.proofs.session.Placed.{pushed_in_place, pushed_nowhere}
use Rattle.cx_client_connect.proofs.table.push.Goals as goal

pub returns-in-Some-clause-ok : goal.returns-in-Some-clause-ok
returns-in-Some-clause-ok c =
    pushed_in_place c.args.daemon.now c.args.operation c.args.sessions.now c.in-Some.place c.index-sessions-place.result c.push_into.new.session c.push_into.result (cc)
    c.push_into.ensures.ok

pub returns-in-None-clause-ok : goal.returns-in-None-clause-ok
returns-in-None-clause-ok c = pushed_nowhere c.args.daemon.now c.args.operation c.args.sessions.now (cc)
