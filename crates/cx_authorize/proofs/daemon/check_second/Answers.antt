use Rattle.std.proofs.Common.{sym}
use Rattle.cx_authorize.specs.Passing.{IsAdmitted}
use Rattle.cx_authorize.specs.Judging.{judged}
use Rattle.cx_authorize.proofs.Checking.{passed_by, refused_by}
use Rattle.cx_authorize.proofs.Living.{live_of}
use Rattle.cx_authorize.proofs.daemon.check_second.Goals as goal

pub new-authorized-requires : goal.new-authorized-requires
new-authorized-requires c =
    live_of c.args.terms.now c.args.payload.now c.in-Ok.shown (sym ((rw c.in-Ok.is at c.in_ok-shown.ensures).0))

pub returns-in_ok-sealed-in-Ok : goal.returns-in_ok-sealed-in-Ok
returns-in_ok-sealed-in-Ok c =
    passed_by (judged c.args.terms.now c.args.payload.now) (IsAdmitted c.args.terms.now.view c.args.terms.now.reading c.args.secret.now) c.args.log.now c.judge.new.log
    c.in-Ok.shown _ (rw c.in-Ok.is at c.in_ok-shown.ensures) (record { authorized = c.new-authorized.ensures; bytes = c.in_ok-bytes-in-Ok.ensures.spelled; short = c.in_ok-bytes-in-Ok.ensures.short; sealed = c.in_ok-sealed-in-Ok.ensures })

pub returns-in-Err : goal.returns-in-Err
returns-in-Err c =
    refused_by (judged c.args.terms.now c.args.payload.now) (IsAdmitted c.args.terms.now.view c.args.terms.now.reading c.args.secret.now) c.args.log.now c.judge.new.log
    c.in-Err.refusal (rw c.in-Err.is at c.in_ok-shown.ensures)
