use Rattle.std.proofs.Common.{rules, ◌≡◌, Some, Err}
use Rattle.cx_loading.specs.declared.unloaded.Unloaded.TheVariants.{State}
use Rattle.cx_loading.proofs.Unspelled.{unserved}
use Rattle.cx_loading.proofs.loading.state_in.Goals as goal

pub returns-in_err-state-clause-err : goal.returns-in_err-state-clause-err
returns-in_err-state-clause-err c =
    let is : c.from_residual.result ≡ Err (State c.in_err-state.field-0.0) = search rules in
    let loaded : c.args.loaded ≡ Some c.bytes-2.result.now = search rules in
    rw is (c.bytes-2.result.now, loaded, c.in_err-state.ensures.err)

pub returns-in_err-state-clause-only : goal.returns-in_err-state-clause-only
returns-in_err-state-clause-only c = λ served.
    let is : c.from_residual.result ≡ Err (State c.in_err-state.field-0.0) = search rules in
    let loaded : c.args.loaded ≡ Some c.bytes-2.result.now = search rules in
    rw is (unserved (c.args.life, c.args.auth_life) c.args.loaded c.bytes-2.result.now c.in_err-state.field-0.0.0 loaded c.in_err-state.ensures.err served)
