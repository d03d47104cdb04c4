-- The answer is that of a server that was rotated already.
use Rattle.cx_keyserver.specs.Servers.{rotated_server}
use Rattle.cx_mon_grants.specs.Occasions.{asking_by}
use Rattle.cx_mon_grants.proofs.One.{one_due, server_stays, whole_due}
use Rattle.cx_mon_grants.proofs.issuing.issue_one.Goals as goal

pub returns-clause-one : goal.returns-clause-one
returns-clause-one c =
    let e = c.args.entrant.now in
    one_due e.at.reading e.at.draw.now.bytes c.args.server.now (asking_by e c.args.service) c.issue-answer.result c.one_of.result
    c.requires.rotated c.issue-answer.ensures.issued c.one_of.ensures.one c.one_of.ensures.memory

pub returns-clause-whole : goal.returns-clause-whole
returns-clause-whole c =
    let e = c.args.entrant.now in
    whole_due (rotated_server e.at.reading e.at.draw.now.bytes c.args.server.now) (asking_by e c.args.service)
    c.issue-answer.result c.one_of.result c.issue-answer.ensures.opens c.one_of.ensures.one

pub returns-clause-server : goal.returns-clause-server
returns-clause-server c =
    let e = c.args.entrant.now in
    server_stays e.at.reading e.at.draw.now.bytes c.args.server.now c.issue-answer.new.self c.issue-answer.result c.requires.rotated c.issue-answer.ensures.stands
