-- Ticket by ticket.
use Rattle.std.proofs.Common.{sym, subst, ◌∙◌}
use Rattle.cx_base.specs.declared.kinds.EntityType.{EntityType}
use Rattle.cx_base.specs.declared.kinds.EntityType.TheVariants.{Mon}
use Rattle.cx_keyserver.specs.Issuing.{Asked}
use Rattle.cx_rules.specs.Tickets.{issued_for}
use Rattle.cx_mon_grants.specs.Issuing.{IsRotated}
use Rattle.cx_mon_grants.specs.Occasions.{asking_by}
use Rattle.cx_mon_grants.proofs.One.{behind_none, due_behind, step_due, whole_behind}
use Rattle.cx_mon_grants.proofs.issuing.issued_for.Goals as goal

pub issue_one-requires-clause-rotated : goal.issue_one-requires-clause-rotated
issue_one-requires-clause-rotated c =
    let e = c.args.entrant.now in
    subst (IsRotated e.at.reading e.at.draw.now.bytes) (sym c.loop-service.invariant.server) c.requires.rotated

pub returns-in-Err-clause-issued : goal.returns-in-Err-clause-issued
returns-in-Err-clause-issued c =
    let ask : EntityType → Asked = asking_by c.args.entrant.now in
    let due = step_due c.args.server.now c.loop-service.server ask c.args.services.now c.loop-service.service-index Mon c.loop-service.tickets c.in_ok-one.one
    (issued_for c.args.server.now ask c.args.services.now) c.loop-service-test.true c.loop-service.invariant.server c.in_ok-one.ensures.one c.loop-service.invariant.due in
    rw c.in-Err.is at due

pub loop-service-preserved : goal.loop-service-preserved
loop-service-preserved c =
    let ask : EntityType → Asked = asking_by c.args.entrant.now in
    let due = step_due c.args.server.now c.loop-service.server ask c.args.services.now c.loop-service.service-index Mon c.loop-service.tickets c.in_ok-one.one
    (issued_for c.args.server.now ask c.args.services.now) c.loop-service-test.true c.loop-service.invariant.server c.in_ok-one.ensures.one c.loop-service.invariant.due in
    record {
      due = due_behind c.args.server.now ask c.args.services.now c.loop-service.service-index c.loop-service.tickets c.append.new.tickets c.in_ok-one.one c.in-Ok.ticket
          (issued_for c.args.server.now ask c.args.services.now) c.in-Ok.is c.in_ok-append.ensures due;
      whole = whole_behind c.loop-service.tickets c.append.new.tickets c.in_ok-one.one c.in-Ok.ticket c.in-Ok.is c.in_ok-append.ensures c.loop-service.invariant.whole c.in_ok-one.ensures.whole;
      server = c.issue_one.ensures.server ∙ c.loop-service.invariant.server;
    }

pub returns-clause-issued : goal.returns-clause-issued
returns-clause-issued c =
    sym (behind_none c.args.server.now (asking_by c.args.entrant.now) c.args.services.now c.loop-service.service-index c.loop-service.tickets c.loop-service-test.false)
    ∙ c.loop-service.invariant.due
