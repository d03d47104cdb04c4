use Rattle.std.proofs.Common.{◌≡◌, None, [], ◌∷◌, rules}
use Rattle.cx_client_connect.specs.cx_rules_session.specs.Presenter.{CallStage}
use Rattle.cx_client_session.proofs.signatures.on_signed.Goals as goal

pub returns-in_ok-row-in-Some : goal.returns-in_ok-row-in-Some
returns-in_ok-row-in-Some c =
    λ (stage : CallStage).
    let logged : c.push.new.self ≡ c.args.found.entry ∷ [] = search rules in
    let m = rw logged at (c.in_ok-row-in-Some.ensures stage) in
    rw c.in-Some.is m

pub returns-in_ok-row-in-None : goal.returns-in_ok-row-in-None
returns-in_ok-row-in-None c =
    λ (stage : CallStage).
    let logged : c.push.new.self ≡ c.args.found.entry ∷ [] = search rules in
    let m = rw logged at (c.in_ok-row-in-None.ensures None stage) in
    rw (c.keeping.ensures, c.in-None.is) m
