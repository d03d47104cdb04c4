-- What is logged is that of the server's own state, which is rotated then.
use Rattle.std.proofs.Common.{ap, sym, subst, ◌++◌, ◌∙◌}
use Rattle.std.proofs.lemmas.Result.{err_from_is_err_and}
use Rattle.cx_rotate.specs.Keeping.{IsKeptState}
use Rattle.cx_rotate.specs.declared.states.KeptState.{KeptState}
use Rattle.cx_rules.specs.Tickets.{rotation_drawn}
use Rattle.cx_mon_grants.specs.Issuing.{IsRotated}
use Rattle.cx_mon_grants.proofs.Still.{rotated_again}
use Rattle.cx_mon_grants.proofs.rotating.rotated.Goals as goal

pub returns-in_err-log_rotation-clause-server : goal.returns-in_err-log_rotation-clause-server
returns-in_err-log_rotation-clause-server c = let p = err_from_is_err_and c.from_residual.result c.from_residual.ensures.1 in rw (p.1) tt

pub returns-in_err-log_rotation-clause-drawn : goal.returns-in_err-log_rotation-clause-drawn
returns-in_err-log_rotation-clause-drawn c = let p = err_from_is_err_and c.from_residual.result c.from_residual.ensures.1 in rw (p.1) tt

pub returns-in_err-log_rotation-clause-again : goal.returns-in_err-log_rotation-clause-again
returns-in_err-log_rotation-clause-again c = let p = err_from_is_err_and c.from_residual.result c.from_residual.ensures.1 in rw (p.1) tt

pub returns-clause-drawn : goal.returns-clause-drawn
returns-clause-drawn c =
    c.in_ok-log_rotation.ensures
    ∙ ap (λ (s : KeptState). c.args.seals.now ++ rotation_drawn c.args.now c.args.draw.now.bytes s) c.state-state.ensures.value

pub returns-clause-again : goal.returns-clause-again
returns-clause-again c =
    let kept = subst (λ (s : KeptState). IsKeptState s) c.state-state.ensures.value c.state-state.ensures.kept in
    subst (IsRotated c.args.now c.args.draw.now.bytes) (sym c.rotate.ensures.state) (rotated_again c.args.now c.args.draw.now.bytes c.args.server.now kept)
