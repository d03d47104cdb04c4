use Rattle.std.proofs.Common.{◌≡◌, ◌++◌, ◌∷◌, [], Bool, Option, ap, rules}
use Rattle.cx_dice.specs.Draws.{cookie_of}
use Rattle.cx_client_connect.specs.cx_rules_session.specs.Presenter.{CallStage}
use Rattle.cx_client_connect.specs.cx_rules_session.specs.Sessions.{Callee, HeldSession}
use Rattle.cx_steps.specs.declared.seals.DrawMark.TheVariants as draw
use Rattle.cx_steps.specs.declared.seals.SealEntry.TheVariants.{Drawn}
use Rattle.cx_client_session.proofs.calling.Sending.{identified}
use Rattle.cx_client_session.proofs.idents.identifies.Goals as goal

pub returns : goal.returns
returns c =
    λ (session : Option HeldSession) (stage : CallStage).
    let logged : c.push.new.self ≡ c.args.before ++ Drawn (draw.Cookie (cookie_of c.args.at.now.draw.now.bytes)) ∷ [] = search rules in
    let lossy_in : Callee → Bool = λ k. k.lossy in
    let lossy : c.callee.inside.lossy ≡ c.args.callee.lossy = ap lossy_in c.callee.view_is in
    let frame = rw (c.held_gid.ensures, c.lossy_flags.ensures, lossy, c.cookie-cookie.ensures) at c.client_ident-ident.ensures in
    let is = rw (c.cookie-cookie.ensures) at c.in_ok-row.ensures in
    identified c.args.mon_client.now session c.args.at.now c.args.link stage c.args.callee c.args.before c.push.new.self _ c.in_ok-made.made c.in_ok-row.row logged frame c.in_ok-made.ensures is
