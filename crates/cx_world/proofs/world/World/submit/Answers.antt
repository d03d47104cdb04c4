use Rattle.std.proofs.Common.{◌≡◌, List, sym, ap, ◌∙◌, subst}
use Rattle.cx_world_start.specs.cx_run.specs.Worlds.{World as RunWorld}
use Rattle.cx_world.specs.Carried.{Carries}
use Rattle.cx_world.proofs.Making.{ok_makes}
use Rattle.cx_base.specs.declared.kinds.EntityType.{EntityType}
use Rattle.cx_lines.specs.declared.commands.LineCommand.{LineCommand}
use Rattle.cx_lines.specs.declared.commands.LineCommand.TheVariants as command
use Rattle.cx_world_start.specs.cx_run.specs.Schedules.{submitted}
use Rattle.cx_world.proofs.world.World.submit.Goals as goal

pub returns-in-Login : goal.returns-in-Login
returns-in-Login g c =
    let is : command.Login c.in-Login.client c.all.result.now ≡ c.args.command.now =
    ap (λ (s : List EntityType). command.Login c.in-Login.client s) c.all.ensures ∙ sym c.in-Login.is in
    ok_makes c.login.result c.args.self.now c.login.new.self (λ (w : RunWorld). submitted w (command.Login c.in-Login.client c.all.result.now)) c.login.ensures
    c.args.self.now (λ (w : RunWorld). submitted w c.args.command.now)
    (λ b seen w h m. subst (λ (x : LineCommand). Carries b seen c.login.new.self (submitted w x)) is (m w h))

pub returns-in-Fetch : goal.returns-in-Fetch
returns-in-Fetch g c =
    ok_makes c.fetch.result c.args.self.now c.fetch.new.self (λ (w : RunWorld). submitted w (command.Fetch c.in-Fetch.daemon)) c.fetch.ensures
    c.args.self.now (λ (w : RunWorld). submitted w c.args.command.now)
    (λ b seen w h m. subst (λ (x : LineCommand). Carries b seen c.fetch.new.self (submitted w x)) (sym c.in-Fetch.is) (m w h))

pub returns-in-Renew : goal.returns-in-Renew
returns-in-Renew g c =
    let is : command.Renew c.in-Renew.client c.all-in-Renew.result.now ≡ c.args.command.now =
    ap (λ (s : List EntityType). command.Renew c.in-Renew.client s) c.all-in-Renew.ensures ∙ sym c.in-Renew.is in
    ok_makes c.renew.result c.args.self.now c.renew.new.self (λ (w : RunWorld). submitted w (command.Renew c.in-Renew.client c.all-in-Renew.result.now)) c.renew.ensures
    c.args.self.now (λ (w : RunWorld). submitted w c.args.command.now)
    (λ b seen w h m. subst (λ (x : LineCommand). Carries b seen c.renew.new.self (submitted w x)) is (m w h))

pub returns-in-Connect : goal.returns-in-Connect
returns-in-Connect g c =
    ok_makes c.connect.result c.args.self.now c.connect.new.self
    (λ (w : RunWorld). submitted w (command.Connect c.in-Connect.client c.in-Connect.daemon c.in-Connect.lossy)) c.connect.ensures
    c.args.self.now (λ (w : RunWorld). submitted w c.args.command.now)
    (λ b seen w h m. subst (λ (x : LineCommand). Carries b seen c.connect.new.self (submitted w x)) (sym c.in-Connect.is) (m w h))

pub returns-in-Send : goal.returns-in-Send
returns-in-Send g c =
    ok_makes c.send.result c.args.self.now c.send.new.self
    (λ (w : RunWorld). submitted w (command.Send c.in-Send.client c.in-Send.daemon c.in-Send.operation)) c.send.ensures
    c.args.self.now (λ (w : RunWorld). submitted w c.args.command.now)
    (λ b seen w h m. subst (λ (x : LineCommand). Carries b seen c.send.new.self (submitted w x)) (sym c.in-Send.is) (m w h))
