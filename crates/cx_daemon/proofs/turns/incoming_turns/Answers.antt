use Rattle.std.proofs.Common.{◌∙◌, List, ap}
use Rattle.cx_desk.specs.Held.{handlers_of}
use Rattle.cx_node.specs.Tables.{Table}
use Rattle.cx_node.specs.cx_rules.specs.Links.{without_link}
use Rattle.cx_daemon_events.specs.Kinds.{DaemonLink}
use Rattle.cx_daemon.proofs.Behind.{left_twice}
use Rattle.cx_daemon.proofs.IncomingLinks.{incoming_answer, incoming_left}
use Rattle.cx_daemon.proofs.Kept.{left_same, on_err}
use Rattle.cx_daemon.proofs.turns.incoming_turns.Goals as goal

pub returns-in_err-came-clause-lost : goal.returns-in_err-came-clause-lost
returns-in_err-came-clause-lost g c = λ all l h. on_err c.from_residual.result (ap (without_link c.args.at.now.number) l ∙ left_twice c.args.at.now.number all)

pub returns-in_err-out-clause-lost : goal.returns-in_err-out-clause-lost
returns-in_err-out-clause-lost g c = λ all l h.
    on_err c.from_residual-in_err-out.result (left_same c.args.at.now.number c.args.links.now c.settles.new.links all c.in_err-out.ensures.err l)

pub returns-in_err-out-2-clause-lost : goal.returns-in_err-out-2-clause-lost
returns-in_err-out-2-clause-lost g c = λ all l h.
    let left : Table DaemonLink → List DaemonLink = λ t. without_link c.args.at.now.number t.links in
    on_err c.from_residual-in_err-out-2.result
    (ap left c.in_err-out-2.ensures.err
    ∙ incoming_left (handlers_of c.args.desk.now) c.args.at.now c.args.link c.args.own.now c.settles.new.own c.mon_client.result.now all c.settles.new.links.links c.args.book.now.book
    c.in_ok-came.field-0 c.came_of_incoming.result c.in_ok-out.out c.mon_client.ensures c.in_ok-came.ensures.hosted c.came_of_incoming.ensures c.requires.number h
    (c.in_ok-out.ensures.settled all l))

pub returns-clause-turned : goal.returns-clause-turned
returns-clause-turned g c = λ all l found h.
    incoming_answer (handlers_of c.args.desk.now) c.args.at.now c.args.link c.args.own.now c.settles.new.own c.mon_client.result.now all c.settles.new.links.links c.args.book.now.book
    c.in_ok-came.field-0 c.came_of_incoming.result c.in_ok-out.out c.mon_client.ensures c.in_ok-came.ensures.hosted c.came_of_incoming.ensures c.requires.number h
    (c.in_ok-out.ensures.settled all l) c.shuts_older.new.links.links c.hosts.new.book.book c.applies.new.book.book c.in_ok-out-2.out c.in_ok-came.ensures.seen c.applies.ensures
    found c.in_ok-out-2.ensures.ok
