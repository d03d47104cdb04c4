use Rattle.std.proofs.Common.{refl}
use Rattle.cx_authorize.specs.Passing.{IsChallenged}
use Rattle.cx_authorize.specs.Judging.{judged}
use Rattle.cx_authorize.proofs.Checking.{passed_by, refused_by}
use Rattle.cx_authorize.proofs.daemon.check_first.Goals as goal

pub returns-in_ok-sealed-in-Ok : goal.returns-in_ok-sealed-in-Ok
returns-in_ok-sealed-in-Ok c =
    passed_by (judged c.args.terms.now c.args.payload.now) (IsChallenged c.args.terms.now.service c.args.challenge) c.args.log.now c.judge.new.log c.in-Ok.shown _
    (rw c.in-Ok.is at c.in_ok-shown.ensures) (record { awaiting = refl; bytes = c.in_ok-bytes-in-Ok.ensures.spelled; short = c.in_ok-bytes-in-Ok.ensures.short; sealed = c.in_ok-sealed-in-Ok.ensures })

pub returns-in-Err : goal.returns-in-Err
returns-in-Err c =
    refused_by (judged c.args.terms.now c.args.payload.now) (IsChallenged c.args.terms.now.service c.args.challenge) c.args.log.now c.judge.new.log c.in-Err.refusal
    (rw c.in-Err.is at c.in_ok-shown.ensures)
