-- The session is written at its place.
use Rattle.std.proofs.Common.{refl, sym}
use Rattle.cx_rules_session.specs.Sessions.{acknowledged_up_to}
use Rattle.cx_client_connect.proofs.session.Placed.{in_none, in_place}
use Rattle.cx_client_connect.proofs.table.acknowledge.Goals as goal

pub returns-in-Some : goal.returns-in-Some
returns-in-Some c =
    rw c.acknowledge.ensures
    (sym (in_place c.args.daemon.now (acknowledged_up_to c.args.seq) (λ s. refl) c.args.sessions.now c.in-Some.place c.index-sessions-place.result cc))

pub returns-in_default : goal.returns-in_default
returns-in_default c = sym (in_none c.args.daemon.now (acknowledged_up_to c.args.seq) (λ s. refl) c.args.sessions.now cc)
