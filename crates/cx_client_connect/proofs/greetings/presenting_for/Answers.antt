-- The ticket that is held now, or the one of the call.
use Rattle.std.proofs.Common.{IfOk, subst, sym}
use Rattle.cx_authorize.specs.Client.{Presents}
use Rattle.cx_client_connect.specs.cx_rules_session.specs.Sessions.{Called}
use Rattle.cx_client_connect.proofs.presenting.Showing.{shows_called, shows_held}
use Rattle.cx_client_connect.proofs.greetings.presenting_for.Goals as goal

pub returns-in-Some : goal.returns-in-Some
returns-in-Some c =
    let ticket = rw (c.in-Some.is, c.service_of.ensures) at c.ticket_for.ensures in
    let held = rw c.held_gid.ensures at c.new.ensures in
    shows_held c.args.called.now c.args.mon_client.now c.args.nonce c.in-Some.held.now c.new.result (sym ticket) held

pub returns-in-None : goal.returns-in-None
returns-in-None c =
    let ticket = rw (c.in-None.is, c.service_of.ensures) at c.ticket_for.ensures in
    let shown : IfOk c.new-in-None.result (Presents c.args.called.now.held c.args.called.now.gid c.args.nonce) =
    subst (λ (called : Called). IfOk c.new-in-None.result (Presents called.held called.gid c.args.nonce)) c.called.view_is c.new-in-None.ensures in
    shows_called c.args.called.now c.args.mon_client.now c.args.nonce c.new-in-None.result (sym ticket) shown
