-- Service by service.
use Rattle.std.proofs.lemmas.Result.{err_from_is_err_and, on_ok_weaker}
use Rattle.cx_mon_grants.proofs.Drawn.{all_added}
use Rattle.cx_mon_grants.proofs.rotating.log_rotation.Goals as goal

pub returns-in_err-log_added : goal.returns-in_err-log_added
returns-in_err-log_added c = let p = err_from_is_err_and c.from_residual.result c.from_residual.ensures.1 in rw (p.1) tt

pub returns-in_err-log_added-2 : goal.returns-in_err-log_added-2
returns-in_err-log_added-2 c =
    let p = err_from_is_err_and c.from_residual-in_err-log_added-2.result c.from_residual-in_err-log_added-2.ensures.1 in rw (p.1) tt

pub returns-in_err-log_added-3 : goal.returns-in_err-log_added-3
returns-in_err-log_added-3 c =
    let p = err_from_is_err_and c.from_residual-in_err-log_added-3.result c.from_residual-in_err-log_added-3.ensures.1 in rw (p.1) tt

pub returns : goal.returns
returns c =
    on_ok_weaker c.log_added-4.result
    (λ last. all_added c.args.now c.args.draw.now.bytes c.args.state.now c.args.seals.now c.log_added.new.seals c.log_added-2.new.seals c.log_added-3.new.seals c.log_added-4.new.seals
    c.in_ok-log_added.ensures c.in_ok-log_added-2.ensures c.in_ok-log_added-3.ensures last)
    c.log_added-4.ensures
