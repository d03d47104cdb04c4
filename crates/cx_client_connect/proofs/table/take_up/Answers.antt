-- The session is written at its place.
use Rattle.std.proofs.Common.{refl, sym}
use Rattle.cx_client_connect.specs.session.Table.{taken_up}
use Rattle.cx_client_connect.proofs.session.Placed.{in_none, in_place}
use Rattle.cx_client_connect.proofs.table.take_up.Goals as goal

pub returns-in-Some : goal.returns-in-Some
returns-in-Some c =
    rw c.take_up.ensures
    (sym (in_place c.args.daemon.now (taken_up c.args.count) (λ s. refl) c.args.sessions.now c.in-Some.place c.index-sessions-place.result cc))

pub returns-in_default : goal.returns-in_default
returns-in_default c = sym (in_none c.args.daemon.now (taken_up c.args.count) (λ s. refl) c.args.sessions.now cc)
