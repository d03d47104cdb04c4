use Rattle.std.proofs.Common.{◌≡◌, ◌+◌, [], ◌∷◌, ◌++◌, take, ap, sym, ◌∙◌, subst}
use Rattle.std.proofs.lemmas.List.{take_more}
use Rattle.cx_premises.specs.Ledgers.{StandsFor}
use Rattle.cx_steps.specs.declared.seals.Logged.{Logged}
use Rattle.cx_premises.proofs.judge.first_breach.Goals as goal

pub loop-at-preserved : goal.loop-at-preserved
loop-at-preserved c =
    let all = c.args.log.now in
    let i = c.loop-at.at-index in
    let at : Logged = c.at-item.result in
    let more : take (i + 1) all ≡ take i all ++ at ∷ [] = take_more all i at c.loop-at-test.true ∙ ap (λ (x : Logged). take i all ++ x ∷ []) (sym c.at-item.is) in
    subst (StandsFor c.enter.new.self c.args.leaked.now) (sym more) (c.in_ok-enter.ensures.ok c.args.leaked.now (take i all) c.loop-at.invariant)
