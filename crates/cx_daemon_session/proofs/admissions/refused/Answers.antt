-- Each refusal of the book has its row.
use Rattle.std.proofs.Common.{refl}
use Rattle.cx_daemon_session.specs.cx_verifying.specs.Stages.{awaiting_ident}
use Rattle.cx_daemon_session.proofs.admissions.refused.Goals as goal

pub returns-in-CookieInUse : goal.returns-in-CookieInUse
returns-in-CookieInUse c =
    rw c.in-CookieInUse.is (c.refuses_admission.ensures (awaiting_ident c.args.at.now.number c.args.link c.args.owner.now) refl)

pub returns-in-BookFull : goal.returns-in-BookFull
returns-in-BookFull c =
    rw c.in-BookFull.is (c.refuses_admission-in-BookFull.ensures (awaiting_ident c.args.at.now.number c.args.link c.args.owner.now) refl)

pub returns-in-Spent : goal.returns-in-Spent
returns-in-Spent c = rw c.in-Spent.is (c.refuses_admission-in-Spent.ensures (awaiting_ident c.args.at.now.number c.args.link c.args.owner.now) refl)
