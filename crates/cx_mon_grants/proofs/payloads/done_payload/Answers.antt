-- The payload of the method is short.
use Rattle.std.proofs.Common.{◌≡◌, ◌++◌, length, ap, arith}
use Rattle.cx_wire.specs.Logins.{login_done_layout}
use Rattle.cx_mon_grants.proofs.Short.{length-done}
use Rattle.cx_mon_grants.proofs.payloads.done_payload.Goals as goal

pub put_auth_done-requires : goal.put_auth_done-requires
put_auth_done-requires c =
    let whole : c.put_login_done.new.into ≡ c.in_ok-payload.payload ++ login_done_layout.form.text c.args.done.now = c.in_ok-put_login_done.ensures.ok in
    let whole_is = rw c.in_ok-payload.ensures at whole in
    omega (arith, ap length whole_is, length-done c.args.done.now c.requires.tickets c.requires.short c.requires.secret)
