-- It is written at its place, or behind the others.
use Rattle.std.proofs.Common.{◌≡◌, subst, sym, ◌∙◌}
use Rattle.std.specs.List.{position}
use Rattle.cx_rules_session.specs.Sessions.{HeldSession}
use Rattle.cx_client_connect.specs.session.Table.{is_with}
use Rattle.cx_client_connect.proofs.session.Placed.{put_at, put_last}
use Rattle.cx_client_connect.proofs.table.put.Goals as goal

pub returns-in-Some : goal.returns-in-Some
returns-in-Some c =
    let found = subst (λ (s : HeldSession). c.place_of.result ≡ position (is_with s.daemon) c.args.sessions.now.items) c.session.view_is (rw c.deref.ensures.value at c.place_of.ensures) in
    sym (put_at c.args.session c.args.sessions.now.items c.in-Some.place (sym found ∙ c.in-Some.is))

pub returns-in-None : goal.returns-in-None
returns-in-None c =
    let found = subst (λ (s : HeldSession). c.place_of.result ≡ position (is_with s.daemon) c.args.sessions.now.items) c.session.view_is (rw c.deref.ensures.value at c.place_of.ensures) in
    c.push_reserved.ensures.items ∙ sym (put_last c.args.session c.args.sessions.now.items (sym found ∙ c.in-None.is))
