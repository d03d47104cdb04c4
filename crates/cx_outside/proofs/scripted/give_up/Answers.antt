-- What is left are the others, one less where the link lived.
use Rattle.std.proofs.Common.{◌≡◌, rules}
use Rattle.std.proofs.lemmas.Fn.{filter_same}
use Rattle.cx_outside.proofs.linking.Living.{one_less}
use Rattle.cx_outside.specs.linking.Living.{without}
use Rattle.cx_outside.proofs.scripted.give_up.Goals as goal

pub returns-clause-items : goal.returns-clause-items
returns-clause-items c = filter_same _ _ _ (λ x b f' k. search rules) _ _ c.retain.ensures.filtered

pub returns-clause-fewer : goal.returns-clause-fewer
returns-clause-fewer c = λ lived.
    let items : c.retain.new.self.items ≡ without c.args.link c.args.living.now.items = returns-clause-items c in
    let fewer = one_less c.args.link c.args.living.now.items lived in
    search rules
