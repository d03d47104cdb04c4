use Rattle.std.proofs.Common.{arith, refl}
use Rattle.cx_authorize.proofs.Chain.{judges_spelled, judges_malformed}
use Rattle.cx_authorize.proofs.judging.judge.Goals as goal

pub returns-in-Ok : goal.returns-in-Ok
returns-in-Ok c =
    judges_spelled c.args.terms.now c.args.payload.now c.in-Ok.authorizer c.args.log.now c.judge_service.new.log c.judge_service.result c.in-Ok.ensures.found c.judge_service.ensures

pub returns-in-Err-Malformed : goal.returns-in-Err-Malformed
returns-in-Err-Malformed c =
    rw c.in-Err-Malformed.place-is (judges_malformed c.args.terms.now c.args.payload.now c.in-Err-Malformed.place c.args.log.now c.args.log.now (λ i. omega (arith, c.type_inv.payload i))
    (rw c.in-Err-Malformed.field-0-is at c.in-Err-Malformed.ensures.refused) refl)
