use Rattle.std.proofs.Common.{◌∙◌, List, [], ◌∷◌, ◌++◌, ap, rules}
use Rattle.std.specs.Prelude.{filter, not}
use Rattle.std.proofs.lemmas.Fn.{filter_same}
use Rattle.cx_node.specs.cx_rules_session.specs.ClientRule.{Dial, ForCall, is_for}
use Rattle.cx_client_events.proofs.dials.Dials.wait_for_call.Goals as goal

pub returns-clause-ok : goal.returns-clause-ok
returns-clause-ok c =
    let others : List Dial → List Dial = λ ds. filter (λ d. not (is_for c.args.called.callee.daemon d)) ds in
    let last : List Dial → List Dial = λ ds. ds ++ ForCall c.args.called ∷ [] in
    let pushed : Dial → List Dial = λ d. c.retain.new.self.items ++ d ∷ [] in
    c.push_reserved.ensures.items ∙ ap pushed c.for_call.ensures
    ∙ ap last (filter_same _ (λ (d : Dial). not (is_for c.args.called.callee.daemon d)) _ (λ x b f' k. search rules) _ _ c.retain.ensures.filtered
    ∙ ap others (c.reserve.ensures.items ∙ c.self.view_is))
